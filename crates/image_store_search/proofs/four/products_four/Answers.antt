use borrow.Author.Rules.{rules}
use Prim.Native.Nat.{ℕ}
use mathlib.Core.Path.{refl}
use lib.Ieee.{of_bits, binary32, mul}
use Rattle.float_distance.specs.declared.four.Products.{Products}
use Rattle.image_store_search.specs.Four.{Sums, OwnSums, SumsOn, OwnOn}
use Rattle.image_store_search.proofs.FourLaws.{taken_kept}
use Rattle.image_store_search.proofs.four.products_four.Goals as goal

pub returns : goal.returns
unfolding of_bits
returns c =
    let a = c.args in
    taken_kept _ _ (λ (j : ℕ) (f : Products). Sums (mul binary32) a.query.now a.s.now a.p a.q a.r a.t a.n j f.query × OwnSums a.s.now a.p a.q a.r a.t a.n j f.own) a.n
    (record { first = refl; second = refl; third = refl; fourth = refl }, record { first = refl; second = refl; third = refl; fourth = refl }) (λ i x y h l e. let on : SumsOn (mul binary32) a.query.now a.s.now a.p a.q a.r a.t i x.query y.query = search rules in let own : OwnOn a.s.now a.p a.q a.r a.t i x.own y.own = search rules in (on a.n h l.0, own a.n h l.1)) _ c.over.ensures
