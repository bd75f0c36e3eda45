use borrow.Author.Rules.{rules}
use Prim.Native.Nat.{ℕ}
use mathlib.Core.Path.{refl}
use lib.Ieee.{of_bits}
use Rattle.float_distance.specs.declared.four.Four.{Four}
use Rattle.spec.specs.Nearest.Distance.{square}
use Rattle.image_store_search.specs.Four.{Sums, SumsOn}
use Rattle.image_store_search.proofs.FourLaws.{taken_kept}
use Rattle.image_store_search.proofs.four.squares_four.Goals as goal

pub returns : goal.returns
unfolding of_bits
returns c =
    let a = c.args in
    taken_kept _ _ (λ (j : ℕ) (f : Four). Sums square a.query.now a.s.now a.p a.q a.r a.t a.n j f) a.n
    (record { first = refl; second = refl; third = refl; fourth = refl }) (λ i x y h l e. let on : SumsOn square a.query.now a.s.now a.p a.q a.r a.t i x y = search rules in on a.n h l) _ c.over.ensures
