-- The number beside an answer, with room for it and without. Assumes nothing.
use Prim.Native.Nat.{ℕ}
use mathlib.Core.Path.{◌≡◌, refl}
use mathlib.Core.Bool.{true, false}
use mathlib.Core.List.{List}
use lib.Seq.{sets}
use Rattle.spec.specs.Layout.Format.{bytes_of}
use Rattle.calls_parts.specs.Answer.{answer_lent, number_put}

module _ (a : List ℕ) (x : ℕ) where
  pub number_put_lem : answer_lent a ≡ true → number_put a x ≡ sets a 0 (bytes_of 8 x)
  unfolding number_put
  number_put_lem e = rw e refl

  pub number_unput : answer_lent a ≡ false → number_put a x ≡ a
  unfolding number_put
  number_unput e = rw e refl
