use mathlib.Core.Path.{refl, ◌∙◌, ap}
use Prim.Native.Nat.{◌+◌}
use lib.ListN.{drop}
use lib.Ieee.{nan}
use mathlib.Core.Bool.{Bool}
use Rattle.spec.specs.Lists.{◌and◌, every}
use Rattle.spec.specs.Node.WellFormed.{component}
use Rattle.log_store.proofs.Checking.{component-is}
use Rattle.log_check.proofs.Domain.{pass_on, pass_out, pass_end}
use Rattle.log_check.proofs.entries.all_in_domain.Goals as goal
use Rattle.log_check.proofs.entries.all_in_domain.Goals.{then-not-in_domain, else-not-in_domain}

pub loop-x-init : goal.loop-x-init
unfolding ◌and◌
loop-x-init c = refl

pub loop-x-preserved : goal.loop-x-preserved
loop-x-preserved c =
    let v = c.args.vector.now in
    let l = c.loop-x in
    let h = c.loop-x-test.true in
    let is = component-is _ _ (c.type_inv.vector l.x-index) c.in_domain.ensures in
    elim c.if-not-in_domain.branch [
      | then-not-in_domain w ↦ ap (λ (t : Bool). t and every component (drop (l.x-index + 1) v)) w.ok-is ∙ pass_out component v l.x-index nan l.ok (is ∙ w.if-not-in_domain.true) h ∙ l.invariant
      | else-not-in_domain w ↦ ap (λ (t : Bool). t and every component (drop (l.x-index + 1) v)) w.ok-is ∙ pass_on component v l.x-index nan l.ok (is ∙ w.if-not-in_domain.false) h ∙ l.invariant
    ]

pub returns : goal.returns
returns c = pass_end component c.loop-x.ok c.args.vector.now c.loop-x.x-index c.loop-x-test.false ∙ c.loop-x.invariant
