-- Tests one after the other: each decides, or leaves the rest to the next. Assumes nothing.
use Prim.Native.Nat.{ℕ, ◌+◌, ◌≤◌}
use mathlib.Core.Path.{◌≡◌, sym, ap, ◌∙◌}
use mathlib.Core.Bool.{Bool, true, false}
use lib.Dec.{eqb, leb}
use borrow.Author.Tests.{eqb-true, leb-true}
use Rattle.spec.specs.Lists.{◌and◌}
use Rattle.spec_laws.proofs.Lists.{and_left, and_right}
use Rattle.image_store.specs.Read.{sizes_fit}

pub on : (t q r : Bool) → t ≡ true → r ≡ q → r ≡ t and q
unfolding ◌and◌
on t q r e h = h ∙ sym (ap (λ (b : Bool). b and q) e)

pub off : (t q : Bool) → t ≡ false → false ≡ t and q
unfolding ◌and◌
off t q e = sym (ap (λ (b : Bool). b and q) e)

-- ---- what the sizes are where all tests hold

pub record Known (image base n a b c d e f g m : ℕ) : Type 0 where
  pub there : base + 174080 ≤ image
  pub count : n ≤ 1024
  pub epochs : a ≡ 1024
  pub offsets : b ≡ 1024
  pub ids : c ≡ 1024
  pub codes : d ≡ 1024
  pub lengths : e ≡ 1024
  pub keys : f ≡ 1024
  pub places : g ≡ 1024
  pub floats : m ≡ 32768

both : (t q : Bool) → t and q ≡ true → (t ≡ true) × (q ≡ true)
both t q e = (and_left t q e, and_right t q e)

pub known : (image base count a b c d e f g floats : ℕ) → sizes_fit image base count a b c d e f g floats ≡ true
    → Known image base count a b c d e f g floats
unfolding sizes_fit
known image base count a b c d e f g floats h =
    let t₁ = both (leb (base + 174080) image) _ h in
    let t₂ = both (leb count 1024) _ t₁.1 in
    let t₃ = both (eqb a 1024) _ t₂.1 in
    let t₄ = both (eqb b 1024) _ t₃.1 in
    let t₅ = both (eqb c 1024) _ t₄.1 in
    let t₆ = both (eqb d 1024) _ t₅.1 in
    let t₇ = both (eqb e 1024) _ t₆.1 in
    let t₈ = both (eqb f 1024) _ t₇.1 in
    let t₉ = both (eqb g 1024) _ t₈.1 in
    record {
      there = leb-true (base + 174080) image t₁.0;
      count = leb-true count 1024 t₂.0;
      epochs = eqb-true a 1024 t₃.0;
      offsets = eqb-true b 1024 t₄.0;
      ids = eqb-true c 1024 t₅.0;
      codes = eqb-true d 1024 t₆.0;
      lengths = eqb-true e 1024 t₇.0;
      keys = eqb-true f 1024 t₈.0;
      places = eqb-true g 1024 t₉.0;
      floats = eqb-true floats 32768 t₉.1;
    }
