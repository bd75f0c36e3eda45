-- What the calls on a replica's vectors answer, one law for each way out. Assumes nothing.
use Prim.Native.Nat.{ℕ, ◌≤◌, ◌<◌}
use mathlib.Core.Path.{◌≡◌, refl, sym, ap, ◌∙◌, subst}
use mathlib.Core.Bool.{Bool, true, false, not, cond}
use mathlib.Core.List.{List, []}
use mathlib.Core.Option.{some}
use lib.Dec.{eqb, ltb}
use lib.Ieee.{Float}
use lib.ListN.{length, take, get_or, length-map}
use Rattle.spec.specs.Lists.{◌and◌, find, lead}
use Rattle.std.specs.Prelude.{Option, Ok, Err, Some, None}
use Rattle.spec.specs.declared.Offset.{Offset}
use Rattle.spec.specs.Log.{play}
use Rattle.spec_laws.proofs.Lists.{not_both}
use Rattle.log_store.specs.Table.{Row, play_rows, vector_of, vectors_of}
use Rattle.log_store.specs.Store.{Store, store_log, store_rows}
use Rattle.log_store.proofs.Rows.{rows-length, rows_at, rows-lead, no_row}
use Rattle.log_store.proofs.Without.{drop-absent}
use Rattle.log_store.proofs.Tabled.{here, not_here}
use Rattle.log_store.proofs.PlayRows.{rows-vectors}
use Rattle.log_store.proofs.Facts.{Facts, facts, rows-rising, keys-fit, places-fit}
use Rattle.log_calls.specs.Fits.{lent_fits}
use Rattle.log_calls.proofs.FitLaws.{fits-sized, fits-well}
use Rattle.node_log_reads.specs.Vectors.{vector_in, Standing, row_of_id, standing_of, standing_lent, shown_at, Stands, or_empty, vector_lent, len_lent, empty_lent}
use Rattle.node_log_reads.specs.declared.Refusal.{Refusal}
use Rattle.node_log_reads.specs.declared.Refusal.TheVariants.{Malformed}
use Rattle.node_log_reads.proofs.Rows.{below, Found, found, none_other, shown}

-- ---- a store that passed the test (24)

module _ (s : Store) (f : lent_fits s ≡ true) where
  of_store : Facts s
  of_store = facts s (fits-well s f)

  hk : s.stored ≤ length s.keys
  hk = keys-fit s of_store (fits-sized s f)

  hp : s.stored ≤ length s.places
  hp = places-fit s of_store (fits-sized s f)

  -- as many vectors as rows
  held : length (play (store_log s)) ≡ s.stored
  unfolding vectors_of
  held =
      ap length (sym (rows-vectors (store_log s) of_store.numbered))
      ∙ length-map (play_rows (store_log s)) (vector_of (store_log s))
      ∙ ap length (sym of_store.rows)
      ∙ rows-length s.keys s.places s.stored hk hp

  module _ (id at : ℕ) (is_at : at ≡ lead (λ k. ltb k id) (take s.stored s.keys))
      (b : Bool) (e : b ≡ (ltb at s.stored and eqb (get_or s.keys at 0) id)) where
    place_of : at ≡ lead (below id) (store_rows s)
    place_of = is_at ∙ sym (rows-lead s.keys s.places s.stored hk hp id)

    row-there : b ≡ true → standing_of (find (row_of_id id) (store_rows s)) ≡ Ok (Some (record { 0 = get_or s.places at 0 }))
    row-there t =
        let h = here at s.stored (get_or s.keys at 0) id b e t in
        let r = rows_at s.keys s.places s.stored hk hp at no_row h.0 in
        ap standing_of
        (subst (Found id (store_rows s)) (sym place_of) (found id (store_rows s))
        (subst (λ (n : ℕ). at < n) (sym (rows-length s.keys s.places s.stored hk hp)) h.0)
        (ap (λ (x : Row). x.id) r ∙ h.1)
        ∙ ap some r)

    row-absent : b ≡ false → standing_of (find (row_of_id id) (store_rows s)) ≡ (Ok None)
    row-absent q =
        ap standing_of
        (ap (find (row_of_id id))
        (drop-absent s.keys s.places s.stored hk hp (rows-rising s of_store) id at is_at
        (not_here at s.stored (get_or s.keys at 0) id b e q))
        ∙ none_other id (store_rows s))

-- ---- what each call answers, one law for each way out

module _ (s : Store) where
  module _ (id : ℕ) where
    abbrev standing : Standing
    standing = standing_of (find (row_of_id id) (play_rows (store_log s)))

    standing_by : (b : Bool) → lent_fits s ≡ b → standing_lent s id ≡ cond (not b) (Err Malformed) standing
    unfolding standing_lent
    standing_by b e = ap (λ (x : Bool). cond (not x) (Err Malformed) standing) e

    pub stands_malformed : lent_fits s ≡ false → Stands s id (Err Malformed)
    stands_malformed e = record { answer = sym (standing_by false e); vector = λ t. not_both (lent_fits s) t e }

    stands : lent_fits s ≡ true → (r : Standing) → standing_of (find (row_of_id id) (store_rows s)) ≡ r → Stands s id r
    stands f r e =
        let p : r ≡ standing = sym e ∙ ap (λ (rs : List Row). standing_of (find (row_of_id id) rs)) (of_store s f).rows in
        record {
          answer = p ∙ sym (standing_by true f);
          vector = λ t. ap (shown_at (store_log s)) p ∙ shown (store_log s) id (of_store s f).numbered;
        }

    module _ (f : lent_fits s ≡ true) (at : ℕ) (is_at : at ≡ lead (λ k. ltb k id) (take s.stored s.keys))
        (b : Bool) (e : b ≡ (ltb at s.stored and eqb (get_or s.keys at 0) id)) where
      pub stands_at_lem : b ≡ true → Stands s id (Ok (Some (record { 0 = get_or s.places at 0 })))
      stands_at_lem t = stands f (Ok (Some (record { 0 = get_or s.places at 0 }))) (row-there s f id at is_at b e t)

      pub stands_missing : b ≡ false → Stands s id (Ok None)
      stands_missing q = stands f (Ok None) (row-absent s f id at is_at b e q)

    abbrev vector : List Float
    vector = or_empty (vector_in id (play (store_log s)))

    -- the lookup at the answered offset is the vector; any other answer has none
    vector-by : (r : Standing) → Stands s id r → or_empty (shown_at (store_log s) r) ≡ vector_lent s id
    unfolding vector_lent
    vector-by r d = go (lent_fits s) refl
      where
        go : (b : Bool) → lent_fits s ≡ b → or_empty (shown_at (store_log s) r) ≡ cond (not (lent_fits s)) [] vector
        go true e = ap or_empty (d.vector e) ∙ sym (ap (λ (x : Bool). cond (not x) [] vector) e)
        go false e =
            ap (λ (x : Standing). or_empty (shown_at (store_log s) x)) (d.answer ∙ standing_by false e)
            ∙ sym (ap (λ (x : Bool). cond (not x) [] vector) e)

    -- .. of an answer that was taken apart
    pub vector-ok : (r : Standing) → Stands s id r → (o x : Option Offset) → r ≡ Ok o → o ≡ x → or_empty (shown_at (store_log s) (Ok x)) ≡ vector_lent s id
    vector-ok r d o x e h = vector-by (Ok x) (subst (λ (y : Option Offset). Stands s id (Ok y)) h (subst (Stands s id) e d))

    pub vector-err : (r : Standing) → Stands s id r → (x : Refusal) → r ≡ Err x → [] ≡ vector_lent s id
    vector-err r d x e = vector-by (Err x) (subst (Stands s id) e d)

  pub len_malformed : lent_fits s ≡ false → Err Malformed ≡ len_lent s
  unfolding len_lent
  len_malformed e = rw e

  pub len-told : lent_fits s ≡ true → Ok s.stored ≡ len_lent s
  unfolding len_lent
  len-told f = rw (f, held s f)

  pub empty_malformed : lent_fits s ≡ false → Err Malformed ≡ empty_lent s
  unfolding empty_lent
  empty_malformed e = rw e

  pub empty-told : lent_fits s ≡ true → (b : Bool) → b ≡ eqb s.stored 0 → Ok b ≡ empty_lent s
  unfolding empty_lent
  empty-told f b e = rw (f, held s f, e)
