use native.Mathlib.Omega.{arith}
use mathlib.Core.Path.{sym, subst, ◌≡◌}
use Prim.Native.Nat.{◌+◌, ◌-◌}
use Rattle.calls_join.specs.View.{Stand}
use Rattle.calls_join.proofs.Bytes.{stands_says, stand_here, stand_next}
use Rattle.calls_join.proofs.Walks.{total-on, total-end}
use Rattle.calls_join.proofs.answers.total.Goals as goal

pub count_at-sum-requires : goal.count_at-sum-requires
count_at-sum-requires c =
    let h = (stands_says _ _ (stand_here _ _ _ _ c.loop-test.true c.loop.invariant.1)).begins in omega arith

pub overflow_add-sum : goal.overflow_add-sum
overflow_add-sum c =
    let h = (stands_says _ _ (stand_here _ _ _ _ c.loop-test.true c.loop.invariant.1)).few in
    let a = c.loop.invariant.0 in
    let q = c.requires.1 in omega (arith, c.count_at-sum.ensures)

pub after-p-requires : goal.after-p-requires
after-p-requires c = stand_here _ _ _ _ c.loop-test.true c.loop.invariant.1

pub loop-preserved : goal.loop-preserved
loop-preserved c =
    let args = c.args in
    let loop = c.loop in
    let loop-test = c.loop-test in
    let count_at = c.count_at-sum in
    let s = args.s.now in
    let h = (stands_says _ _ (stand_here _ _ _ _ loop-test.true loop.invariant.1)).few in
    let a = loop.invariant.0 in
    let d = loop.invariant.2 in
    let t = total-on s args.n loop.counter loop.p loop-test.true in
    (omega (arith, count_at.ensures), subst (Stand s (args.n - (loop.counter + 1))) (sym c.after-p.ensures) (stand_next _ _ _ _ loop-test.true loop.invariant.1), rw c.after-p.ensures (omega (arith, count_at.ensures)))

pub returns : goal.returns
returns c =
    let d = c.loop.invariant.2 in
    let t = total-end c.args.s.now (c.args.n - c.loop.counter) c.loop.p (omega arith) in omega arith
