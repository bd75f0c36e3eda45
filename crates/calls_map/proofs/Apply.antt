-- The ways through apply on an image: no map lent, and the call. Assumes nothing.
use Prim.Native.Nat.{ℕ, ◌≤◌, ◌<◌}
use mathlib.Core.Path.{◌≡◌, refl, sym, ap, subst, ◌∙◌}
use mathlib.Core.Bool.{Bool, true, false, cond}
use mathlib.Core.List.{List}
use mathlib.Core.Option.{Option, none, some}
use lib.ListN.{length}
use lib.Dec.{leb}
use native.Mathlib.Omega.{arith}
use borrow.Author.Tests.{lt-leb, le-leb, leb-true, ne_eqb}
use Rattle.spec.specs.Map.Calls.{reason_number}
use Rattle.spec.specs.Layout.Request.{Request, decode_request}
use Rattle.spec_laws.proofs.Lists.{and_left, not_both}
use Rattle.map_tables.specs.View.{answer_of}
use Rattle.map_tables.specs.declared.ShardMap.{ShardMap}
use Rattle.map_check.specs.Lent.{well_formed_lent}
use Rattle.map_apply.specs.declared.Settled.{Settled}
use Rattle.map_apply.specs.Calls.{AppliesBytes, apply_lent}
use Rattle.image_map.specs.Image.{codes_listed, map_at, map_lent, map_stored, MapWrites}
use Rattle.calls_map.specs.Calls.{unlent_of, unlent_number, noted, applied_to, AppliesImage, AppliesTo}
use Rattle.calls_map.proofs.Kept.{unnoted_keeps}
use Rattle.calls_map.proofs.Formed.{image_formed}

-- ---- which answers are remembered

pub older_not : (r : ℕ) → r ≡ 1 → noted r ≡ false
older_not r e = ap noted e

pub refused_not : (r : ℕ) → 16 < r → noted r ≡ false
refused_not r h = rw (ne_eqb r 1 (λ e. omega arith), lt-leb r 16 h)

pub noted_else : (r : ℕ) → (r ≡ 1 → ⊥) → r ≤ 16 → noted r ≡ true
noted_else r n h = rw (ne_eqb r 1 n, le-leb r 16 h)

-- ---- the number where no map is lent

pub unlent_24 : (bytes : List ℕ) (q : Request) → decode_request bytes ≡ some q → 24 ≡ unlent_number bytes
unlent_24 bytes q e = sym (ap unlent_of e)

pub unlent_21 : (bytes : List ℕ) → decode_request bytes ≡ none → 21 ≡ unlent_number bytes
unlent_21 bytes e = sym (ap unlent_of e)

-- ---- the ways

pub unlent_way : (s bytes : List ℕ) (r : ℕ) → map_lent s ≡ false → r ≡ unlent_number bytes → AppliesTo s s bytes r
unlent_way s bytes r f e = record {
  undecoded = λ n. (e ∙ ap unlent_of n, refl);
  unlent = λ q n g. (e ∙ ap unlent_of n, refl);
  lent = λ t. not_both (map_lent s) t f;
}

-- an image that lends a map is whole
room : (s : List ℕ) → map_lent s ≡ true → 26536 ≤ length s
unfolding map_lent
room s e = leb-true 26536 (length s) (and_left (leb 26536 (length s)) (codes_listed s) e)

module _ (s t bytes : List ℕ) (r : ℕ) (given : map_lent s ≡ true) (answer : r ≡ reason_number (applied_to s bytes).answer) where
  undecoded-number : decode_request bytes ≡ none → r ≡ 21
  undecoded-number n = answer ∙ ap (λ (o : Option Request). reason_number (apply_lent (map_at s) o).answer) n

  applied_way : AppliesImage s t bytes r → AppliesTo s t bytes r
  applied_way x = record {
    undecoded = λ n. (
      undecoded-number n,
      x.image ∙ ap (λ (k : ℕ). cond (noted k) (map_stored s (applied_to s bytes).map) s) (undecoded-number n),
    );
    unlent = λ q n f. not_both (map_lent s) given f;
    lent = λ _. x;
  }

module _ (s bytes : List ℕ) (r : ℕ) (m : ShardMap) (a : Settled) (given : map_lent s ≡ true) (same : m ≡ map_at s)
    (called : AppliesBytes m bytes a) (answer : r ≡ reason_number (answer_of a.verdict)) where
  called_at : AppliesBytes (map_at s) bytes a
  called_at = subst (λ (x : ShardMap). AppliesBytes x bytes a) same called

  answer_at_lem : r ≡ reason_number (applied_to s bytes).answer
  answer_at_lem = answer ∙ ap reason_number called_at.answer

  -- not remembered: no byte changes, and the map is as it was
  pub kept_way : noted r ≡ false → AppliesTo s s bytes r
  kept_way n = applied_way s s bytes r given answer_at_lem (record {
    answer = answer_at_lem;
    image = sym (ap (λ (b : Bool). cond b (map_stored s (applied_to s bytes).map) s) n);
    lent = given;
    read = sym (unnoted_keeps (map_at s) (decode_request bytes) (sym (ap noted answer_at_lem) ∙ n));
    formed = λ w. w;
  })

  -- remembered: the map after is written
  pub written_way : (t : List ℕ) → noted r ≡ true → MapWrites s t a.map → AppliesTo s t bytes r
  written_way t n w =
      let b = w.becomes (room s given) in
      let e = called_at.map in
      applied_way s t bytes r given answer_at_lem (record {
        answer = answer_at_lem;
        image = b.bytes ∙ ap (map_stored s) e ∙ sym (ap (λ (b : Bool). cond b (map_stored s (applied_to s bytes).map) s) n);
        lent = b.lent;
        read = b.read ∙ e;
        formed = λ f. ap well_formed_lent b.held ∙ image_formed a.map (called_at.counted f) (called_at.formed f);
      })
