use native.Mathlib.Omega.{arith}
use mathlib.Core.Path.{◌≡◌, refl, ◌∙◌, ap}
use Prim.Native.Nat.{◌+◌}
use lib.ListN.{get_or}
use borrow.Author.Tests.{eq-eqb, ne_eqb}
use Rattle.log_store.specs.Store.{every_below}
use Rattle.log_check.specs.Entries.{number_fits}
use Rattle.log_check.proofs.Domain.{column_on, column_out}
use Rattle.log_check.proofs.entries.numbered.Goals as goal
use Rattle.log_check.proofs.entries.numbered.Goals.{then-offsets-i, else-offsets-i}

pub loop-i-init : goal.loop-i-init
unfolding every_below
loop-i-init c = (omega arith, refl)

pub loop-i-preserved : goal.loop-i-preserved
loop-i-preserved c =
    let v = c.args.offsets.now in
    let l = c.loop-i in (
      omega arith,
      elim c.if-offsets-i.branch [
        | then-offsets-i w ↦ w.ok-is ∙ column_out (number_fits v) l.i (ne_eqb (get_or v l.i 0) (l.i + 1) w.if-offsets-i.true)
        | else-offsets-i w ↦ w.ok-is ∙ column_on (number_fits v) l.i l.ok (eq-eqb (get_or v l.i 0) (l.i + 1) w.if-offsets-i.false) l.invariant.1
      ],
    )

pub returns : goal.returns
returns c =
    let e : c.loop-i.i ≡ c.args.count = omega arith in c.loop-i.invariant.1 ∙ ap (every_below (number_fits c.args.offsets.now)) e
