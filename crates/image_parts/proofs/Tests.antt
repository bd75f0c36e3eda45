-- Four tests in a row. Assumes nothing.
use mathlib.Core.Path.{◌≡◌, sym, ◌∙◌}
use mathlib.Core.Bool.{Bool, true, false}
use Rattle.spec.specs.Lists.{◌and◌}
use Rattle.spec_laws.proofs.Wire.Tests.{and_true, and_false}

module _ (a b c d : Bool) where
  pub none_of_first : a ≡ false → false ≡ (a and (b and (c and d)))
  none_of_first e = rw e (sym (and_false _))

  pub none_of_second : a ≡ true → b ≡ false → false ≡ (a and (b and (c and d)))
  none_of_second e f = rw (e, f) (sym (and_true _ ∙ and_false _))

  pub none_of_third : a ≡ true → b ≡ true → c ≡ false → false ≡ (a and (b and (c and d)))
  none_of_third e f g = rw (e, f, g) (sym (and_true _ ∙ and_true _ ∙ and_false _))

  pub all_of : a ≡ true → b ≡ true → c ≡ true → d ≡ (a and (b and (c and d)))
  all_of e f g = rw (e, f, g) (sym (and_true _ ∙ and_true _ ∙ and_true _))

pub none_of_last : (b : Bool) → (b and false) ≡ false
none_of_last true = and_true false
none_of_last false = and_false false
