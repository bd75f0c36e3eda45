use native.Mathlib.Omega.{arith}
use mathlib.Core.Path.{◌≡◌, refl, sym, ◌∙◌, ap}
use Rattle.log_store.specs.Store.{every_below}
use Rattle.log_check.specs.Entries.{shape_at}
use Rattle.log_check.proofs.Domain.{column_on, column_out}
use Rattle.log_check.proofs.entries.listed.Goals as goal
use Rattle.log_check.proofs.entries.listed.Goals.{then-not-is_listed, else-not-is_listed}

pub loop-i-init : goal.loop-i-init
unfolding every_below
loop-i-init c = (omega arith, refl)

pub loop-i-preserved : goal.loop-i-preserved
loop-i-preserved c =
    let a = c.args in
    let l = c.loop-i in
    let e = c.is_listed.ensures in (
      omega arith,
      elim c.if-not-is_listed.branch [
        | then-not-is_listed w ↦ w.ok-is ∙ column_out (shape_at a.codes.now a.lengths.now) l.i (sym e ∙ w.if-not-is_listed.true)
        | else-not-is_listed w ↦ w.ok-is ∙ column_on (shape_at a.codes.now a.lengths.now) l.i l.ok (sym e ∙ w.if-not-is_listed.false) l.invariant.1
      ],
    )

pub returns : goal.returns
returns c =
    let e : c.loop-i.i ≡ c.args.count = omega arith in c.loop-i.invariant.1 ∙ ap (every_below (shape_at c.args.codes.now c.args.lengths.now)) e
