use mathlib.Core.Path.{refl, sym, ◌∙◌}
use native.Mathlib.Omega.{arith}
use lib.Ieee.{of_bits}
use Rattle.spec.specs.Nearest.Distance.{square}
use Rattle.spec_laws.proofs.Nearest.Sums.{sum_step}
use Rattle.float_distance.proofs.Lanes.{sum_ends}
use Rattle.float_distance.proofs.sums.squares.Goals as goal

pub loop-i-init : goal.loop-i-init
unfolding of_bits
loop-i-init c = refl

pub loop-i-preserved : goal.loop-i-preserved
loop-i-preserved c =
    let l = c.loop-i in
    sym (sum_step square c.args.a.now c.args.b.now l.acc l.i (omega arith) (omega arith)) ∙ l.invariant

pub returns : goal.returns
returns c =
    let l = c.loop-i in
    sym (sum_ends square c.args.a.now c.args.b.now l.acc l.i (omega arith)) ∙ l.invariant
