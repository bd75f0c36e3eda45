use native.Mathlib.Omega.{arith}
use mathlib.Core.Path.{sym, ◌∙◌, subst}
use Prim.Native.Nat.{ℕ, ◌+◌, ◌%◌}
use lib.ListN.{get_or, set, length-replicate, length-set}
use mathlib.Core.Bool.{false}
use Rattle.calls_join.specs.Buckets.{Listed}
use Rattle.calls_join.proofs.Buckets.{zeros, Kept, kept-none, kept_next, apart-all, apart_not}
use Rattle.calls_join.proofs.repeats.apart.Goals as goal

pub loop-i-init : goal.loop-i-init
loop-i-init c =
    (omega arith, length-replicate {A = ℕ} 2048 0, length-replicate {A = ℕ} 1024 0, kept-none _ _ _ _ (zeros 2048))

pub listed-requires : goal.listed-requires
listed-requires c =
    let pre = c.requires in
    let loop = c.loop-i in
    let b = loop.invariant.3.below (c.get8-id.result % 2048) in
    let t = c.loop-i-test.true in
    let q = pre.0 in
    let r = pre.1 in
    let l = loop.invariant.2 in (omega arith, omega arith, omega arith, loop.invariant.3.falls)

pub returns-then-listed : goal.returns-then-listed
returns-then-listed c =
    let args = c.args in
    let loop = c.loop-i in
    let get8 = c.get8-id in
    let s = args.s.now in
    let l = subst (Listed s args.p loop.next loop.i (get_or loop.last (get8.result % 2048) 0) get8.result) c.if-listed.true c.listed.ensures in sym (apart_not s args.p args.n loop.i l.0 c.loop-i-test.true l.1.0 (l.1.1 ∙ get8.ensures))

pub loop-i-preserved : goal.loop-i-preserved
loop-i-preserved c =
    let args = c.args in
    let loop = c.loop-i in
    let get8 = c.get8-id in
    let s = args.s.now in
    let l = subst (Listed s args.p loop.next loop.i (get_or loop.last (get8.result % 2048) 0) get8.result) c.if-listed.false c.listed.ensures in
    let t = c.loop-i-test.true in
    let r = c.requires.1 in
    let x = loop.invariant.1 in
    let y = loop.invariant.2 in
    (omega arith, length-set loop.last (get8.result % 2048) (loop.i + 1) ∙ loop.invariant.1, length-set loop.next loop.i (get_or loop.last (get8.result % 2048) 0) ∙ loop.invariant.2, subst (λ (id : ℕ). Kept s args.p (set loop.last (id % 2048) (loop.i + 1)) (set loop.next loop.i (get_or loop.last (id % 2048) 0)) (loop.i + 1)) (sym get8.ensures) (kept_next s args.p loop.last loop.next loop.i loop.invariant.3 (omega arith) (omega arith) (subst (λ (id : ℕ). Listed s args.p loop.next loop.i (get_or loop.last (id % 2048) 0) id false) get8.ensures l)))

pub returns : goal.returns
returns c =
    let args = c.args in
    let loop = c.loop-i in
    sym (apart-all args.s.now args.p args.n loop.last loop.next loop.i (omega arith) loop.invariant.3)
