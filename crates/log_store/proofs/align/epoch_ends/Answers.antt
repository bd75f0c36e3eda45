use native.Mathlib.Omega.{arith}
use mathlib.Core.Path.{refl, ◌∙◌}
use Prim.Native.Nat.{◌-◌}
use lib.ListN.{get_or}
use Rattle.log_store.proofs.Tabled.{here}
use Rattle.log_store.proofs.Ends.{same-table, ends-none, ends_moved, ends-begun}
use Rattle.log_store.proofs.align.epoch_ends.Goals as goal
use Rattle.log_store.proofs.align.epoch_ends.Goals.{then-is_last, else-is_last}

pub loop-i-init : goal.loop-i-init
loop-i-init c = (omega arith, refl, refl, ends-none _ _ 0 _ _)

pub overflow_sub-ends : goal.overflow_sub-ends
overflow_sub-ends c =
    let l = c.loop-i in
    let h = (here 0 l.n (get_or l.froms (l.n - 1) 0) (get_or c.args.epochs.now l.i 0) c.is_last.result c.is_last.ensures c.if-is_last.true).0 in omega arith

pub loop-i-preserved : goal.loop-i-preserved
loop-i-preserved c =
    let l = c.loop-i in
    let v = l.invariant in
    let p = c.requires in
    let t = c.loop-i-test.true in
    let j = c.if-is_last in
    elim j.branch [
      | then-is_last w ↦ (
        omega (arith, w.n-is),
        j.auto.froms ∙ v.1,
        j.auto.ends ∙ v.2,
        λ is cs ls fs. same-table w.froms-is w.ends-is w.n-is
            ∙ ends_moved _ _ _ _ _ _ (omega arith) (omega arith) v.3 _ c.is_last.ensures w.if-is_last.true is cs ls fs,
      )
      | else-is_last w ↦ (
        omega (arith, w.n-is),
        j.auto.froms ∙ v.1,
        j.auto.ends ∙ v.2,
        λ is cs ls fs. same-table w.froms-is w.ends-is w.n-is
            ∙ ends-begun _ _ _ _ _ _ (omega arith) (omega arith) v.3 _ c.is_last.ensures w.if-is_last.false (omega arith) (omega arith) is cs ls fs,
      )
    ]
