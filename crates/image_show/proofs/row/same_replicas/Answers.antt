use borrow.Author.Rules.{rules}
use native.Mathlib.Omega.{arith}
use mathlib.Core.Path.{◌≡◌, refl, sym, ◌∙◌, ap}
use Prim.Native.Nat.{ℕ}
use lib.ListN.{get_or, take}
use mathlib.Core.Bool.{true, false}
use borrow.Author.Tests.{eqb-true}
use lib.Dec.{eqb}
use Rattle.spec.specs.Lists.{◌and◌}
use Rattle.spec_laws.proofs.Lists.{not_both, and_left, and_right}
use Rattle.image_show.proofs.RowLaws.{no_copy, copies-on}
use Rattle.image_show.proofs.row.same_replicas.Goals as goal

pub loop-i-init : goal.loop-i-init
loop-i-init c = (omega arith, refl)

pub loop-i-preserved : goal.loop-i-preserved
loop-i-preserved c =
    let k = c.requires in let lt = c.loop-i-test.true in
    (omega arith, copies-on c.args.a c.args.b c.loop-i.i no_copy (search rules) (search rules) c.loop-i.invariant.1 c.if-x-y.false c.if-x-y-2.false)

pub returns : goal.returns
returns c =
    λ e. let k = c.loop-i.invariant.0 in let z : c.loop-i.i ≡ c.args.count = (let g = c.loop-i-test.false in omega arith) in ap (λ (n : ℕ). take n c.args.a) (sym z) ∙ c.loop-i.invariant.1 ∙ ap (λ (n : ℕ). take n c.args.b) z
