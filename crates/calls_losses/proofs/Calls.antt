-- The answers of place_losses, case by case. Assumes nothing.
use Prim.Native.Nat.{ℕ, ◌+◌, ◌*◌, ◌≤◌, ◌<◌}
use mathlib.Core.Path.{◌≡◌, refl, sym, ap, subst, ◌∙◌}
use mathlib.Core.Bool.{Bool, true, false, cond}
use mathlib.Core.List.{List, [], ◌++◌}
use mathlib.Core.Option.{Option, none, some}
use lib.ListN.{length, take, drop}
use lib.Seq.{sets, sets-eq, take-append_seam}
use borrow.Author.Tests.{lt-leb, le-leb}
use native.Mathlib.Omega.{arith}
use Rattle.spec.specs.Lists.{◌and◌, find}
use Rattle.spec.specs.Keys.{Name}
use Rattle.spec.specs.Layout.Format.{bytes_of, number_at}
use Rattle.spec.specs.Refusals.{malformed}
use Rattle.spec.specs.Map.Tables.{Collection}
use Rattle.spec.specs.Map.Create.{is_named}
use Rattle.spec.specs.Map.WellFormed.{well_formed_map}
use Rattle.spec_laws.proofs.Lists.{not_both}
use Rattle.spec_losses.specs.Losses.{Loss, Losses, lost, not_lost, losses, losses_in, losses_of, losses_call}
use Rattle.wire_write.specs.Written.{text_fits}
use Rattle.map_tables.specs.Find.{first_at}
use Rattle.map_tables.specs.Names.{view_name}
use Rattle.map_tables.specs.View.{view_map, view_spec, view_collection, view_collections}
use Rattle.map_tables.specs.declared.Name as declared-name
use Rattle.map_tables.specs.declared.CollectionRow.{CollectionRow}
use Rattle.map_tables.specs.declared.ShardMap.{ShardMap}
use Rattle.map_check.specs.Lent.{counted, well_formed_lent}
use Rattle.map_place.proofs.Answered.{refused-first, taken-first}
use Rattle.image_map.specs.Image.{no_collection, collections_at, map_at, map_lent}
use Rattle.calls_parts.specs.Answer.{answer_lent, number_put}
use Rattle.map_place.specs.Read.{view_loads}
use Rattle.map_place.specs.declared.Loads.{Loads}
use Rattle.map_tables.specs.declared.Spec as declared
use Rattle.spec_laws.proofs.Map.WellFormed.{map-parts}
use Rattle.map_check.proofs.Formed.{lent-formed, lent_tables}
use Rattle.image_map_losses.specs.Left.{losses_on}
use Rattle.image_map_losses.proofs.OnLoads.{losses-on}
use Rattle.image_map_row.specs.Rows.{collection_at}
use Rattle.image_map_loads.specs.Loads.{Live}
use Rattle.image_map_loads.proofs.Rows.{row-found, row_missed}
use Rattle.calls_losses.specs.declared.Put.{Put}
use Rattle.calls_losses.specs.Rows.{losses_bytes, PutsLosses}
use Rattle.calls_losses.specs.Calls.{room_for, AnswersRows, AnswersLosses, losses_lent, Loses}

-- ---- the two buffers

module _ (rows : List ℕ) (n : ℕ) (s a : List ℕ) where
  answers_by : (b : Bool) → room_for rows s a ≡ b → AnswersRows rows n s (cond b (sets s 0 rows) s) a (cond b (number_put a n) a) (cond b 0 23)
  answers_by b e = record {
    number = ap (λ (x : Bool). cond x 0 23) (sym e);
    list = ap (λ (x : Bool). cond x (sets s 0 rows) s) (sym e);
    answer = ap (λ (x : Bool). cond x (number_put a n) a) (sym e);
  }

  pub list-short : length s < length rows → AnswersRows rows n s s a a 23
  unfolding ◌and◌
  list-short h = answers_by false (rw (lt-leb (length rows) (length s) h))

  pub answer-short : length rows ≤ length s → answer_lent a ≡ false → (b : List ℕ) → b ≡ number_put a n → AnswersRows rows n s s a b 23
  unfolding ◌and◌ number_put
  answer-short h e b q =
      subst (λ (v : List ℕ). AnswersRows rows n s s a v 23) (sym (q ∙ ap (λ (x : Bool). cond x (sets a 0 (bytes_of 8 n)) a) e)) (answers_by false (rw (le-leb (length rows) (length s) h, e)))

  pub both_lent : length rows ≤ length s → answer_lent a ≡ true → (t b : List ℕ) → t ≡ sets s 0 rows → b ≡ number_put a n → AnswersRows rows n s t a b 0
  unfolding ◌and◌
  both_lent h e t b p q =
      subst (λ (v : List ℕ). AnswersRows rows n s t a v 0) (sym q)
      (subst (λ (v : List ℕ). AnswersRows rows n s v a (number_put a n) 0) (sym p) (answers_by true (rw (le-leb (length rows) (length s) h, e))))

-- nothing to put in the list
pub none-put : (s a b : List ℕ) (said t : Bool) → said ≡ answer_lent a → said ≡ t → b ≡ number_put a 0 → AnswersRows [] 0 s s a b (cond t 0 23)
none-put s a b said true e f q = both_lent [] 0 s a (omega arith) (sym e ∙ f) s b refl q
none-put s a b said false e f q = answer-short [] 0 s a (omega arith) (sym e ∙ f) b q

-- rows put at the start of a buffer are what it begins with
pub begins : (l t rows : List ℕ) (k : ℕ) → t ≡ sets l 0 rows → k ≡ length rows → k ≤ length l → take k t ≡ rows
begins l t rows k e q h =
    ap (λ (v : List ℕ). take k v) (e ∙ sets-eq rows l 0 (omega arith)) ∙ ap (λ (j : ℕ). take j (take 0 l ++ rows ++ drop (0 + length rows) l)) q
    ∙ take-append_seam rows (drop (0 + length rows) l)

-- the rows by the loads are those of the definition
pub losses-told : (map : List ℕ) (spec : declared.Spec) (loads : Loads) (put : Put) (l t : List ℕ) {s u a b : List ℕ} {r : ℕ} → well_formed_lent (map_at map) ≡ true
    → Live map loads → PutsLosses loads spec l t put → 33280 ≤ length l → AnswersRows (take put.size t) put.rows s u a b r
    → AnswersRows (losses_bytes (losses_of (view_map (map_at map)) (view_spec spec))) (length (losses_of (view_map (map_at map)) (view_spec spec))) s u a b r
losses-told map spec loads put l t {s} {u} {a} {b} {r} w live p long k =
    let all : losses_on (view_spec spec) (view_loads loads) ≡ losses_of (view_map (map_at map)) (view_spec spec) =
    ap (losses_on (view_spec spec)) live.loads ∙ losses-on (view_map (map_at map)) (view_spec spec) (map-parts (view_map (map_at map)) (lent-formed (map_at map) w)).0.1 in
    let rows : take put.size t ≡ losses_bytes (losses_of (view_map (map_at map)) (view_spec spec)) =
    begins l t _ put.size p.bytes p.size (omega (arith, p.most, long)) ∙ ap losses_bytes all in
    subst (λ (n : ℕ). AnswersRows (losses_bytes (losses_of (view_map (map_at map)) (view_spec spec))) n s u a b r) (p.rows ∙ ap (λ (x : List Loss). length x) all)
    (subst (λ (x : List ℕ). AnswersRows x put.rows s u a b r) rows k)

-- ---- the call

module _ (m : ShardMap) (name : Name) where
  pub lent_24 : well_formed_lent m ≡ false → losses_lent m name ≡ not_lost malformed
  unfolding losses_lent losses_call well_formed_lent
  lent_24 e = refused-first _ _ (counted m) (well_formed_map (view_map m)) e

  pub lent_of : well_formed_lent m ≡ true → (o : Option Collection) → find (is_named name) (view_collections m.collections) ≡ o
      → losses_lent m name ≡ lost (losses_in (view_map m) o)
  unfolding losses_lent losses_call well_formed_lent losses
  lent_of e o f =
      taken-first _ _ (counted m) (well_formed_map (view_map m)) e ∙ ap (λ (c : Option Collection). lost (losses_in (view_map m) c)) f

  module _ (e : well_formed_lent m ≡ true) (k : Name) (same : k ≡ name) where
    pub lent_none : find (is_named k) (view_collections m.collections) ≡ none → losses_lent m name ≡ lost []
    unfolding losses_in
    lent_none f = lent_of e none (ap (λ (z : Name). find (is_named z) (view_collections m.collections)) (sym same) ∙ f)

    pub lent_some : (c : Collection) → find (is_named k) (view_collections m.collections) ≡ some c
        → losses_lent m name ≡ lost (losses_of (view_map m) c.spec)
    unfolding losses_in
    lent_some c f = lent_of e (some c) (ap (λ (z : Name). find (is_named z) (view_collections m.collections)) (sym same) ∙ f)

module _ (m name s a : List ℕ) where
  pub loses_unnamed : text_fits 32 name ≡ false → Loses m name s s a a 21
  loses_unnamed f = record {
    unnamed = λ _. record { number = refl; list = refl; answer = refl };
    unlent = λ e _. not_both (text_fits 32 name) e f;
    lent = λ e _. not_both (text_fits 32 name) e f;
  }

  module _ (fits : text_fits 32 name ≡ true) where
    pub loses_unlent : map_lent m ≡ false → Loses m name s s a a 24
    loses_unlent f = record {
      unnamed = λ g. not_both (text_fits 32 name) fits g;
      unlent = λ _ _. record { number = refl; list = refl; answer = refl };
      lent = λ _ e. not_both (map_lent m) e f;
    }

    pub loses_lent : (v : Losses) (t b : List ℕ) (r : ℕ) → map_lent m ≡ true → losses_lent (map_at m) name ≡ v → AnswersLosses v s t a b r
        → Loses m name s t a b r
    loses_lent v t b r e p k = record {
      unnamed = λ g. not_both (text_fits 32 name) fits g;
      unlent = λ _ f. not_both (map_lent m) e f;
      lent = λ _ _. subst (λ (y : Losses). AnswersLosses y s t a b r) (sym p) k;
    }

    pub loses_malformed : map_lent m ≡ true → well_formed_lent (map_at m) ≡ false → Loses m name s s a a 24
    loses_malformed e w = loses_lent (not_lost malformed) s a 24 e (lent_24 (map_at m) name w) (record { number = refl; list = refl; answer = refl })

-- ---- the collection of a name

module _ (s : List ℕ) (e : well_formed_lent (map_at s) ≡ true) where
  pub few : number_at 8 s 16 ≤ 16
  unfolding map_at
  few = (lent_tables (map_at s) e).collections

  module _ (name : Name) (k : declared-name.Name) (same : view_name k ≡ name) (at : ℕ) (is : at ≡ first_at (is_named (view_name k)) (view_collections (collections_at s))) where
    pub no_collection_lem : number_at 8 s 16 ≤ at → losses_lent (map_at s) name ≡ lost []
    unfolding map_at
    no_collection_lem h =
        lent_none (map_at s) name e (view_name k) same
        (row_missed 16 56 3112 (collection_at s) no_collection (number_at 8 s 16) view_collection few (is_named (view_name k)) at is h)

    pub its_collection : (row : CollectionRow) → at < number_at 8 s 16 → row ≡ collection_at s (3112 + 56 * at)
        → losses_lent (map_at s) name ≡ lost (losses_of (view_map (map_at s)) (view_spec row.spec))
    unfolding map_at
    its_collection row h q =
        lent_some (map_at s) name e (view_name k) same (view_collection row)
        (row-found 16 56 3112 (collection_at s) no_collection (number_at 8 s 16) view_collection few (is_named (view_name k)) at is h
        ∙ ap (λ (r : CollectionRow). some (view_collection r)) (sym q))
