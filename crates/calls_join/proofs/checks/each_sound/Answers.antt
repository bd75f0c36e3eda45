use native.Mathlib.Omega.{arith}
use mathlib.Core.Path.{◌≡◌, refl, sym, ◌∙◌, subst}
use Prim.Native.Nat.{ℕ, ◌+◌, ◌-◌}
use Rattle.spec.specs.Lists.{every}
use Rattle.spec_join.specs.Join.{sound_answer}
use Rattle.calls_join.specs.View.{Stand, answers_at}
use Rattle.calls_join.proofs.Bytes.{stands_says, stand_here, stand_next}
use Rattle.calls_join.proofs.Walks.{answers_stop, answers-on, answers-end}
use Rattle.calls_join.proofs.Calls.{order_wrong, apart_wrong, answer-sound}
use Rattle.calls_join.proofs.checks.each_sound.Goals as goal

pub loop-init : goal.loop-init
loop-init c =
    let z : c.args.n - 0 ≡ c.args.n = omega arith in rw z (c.requires, refl)

pub count_at-count-requires : goal.count_at-count-requires
count_at-count-requires c =
    let loop = c.loop in
    let h = (stands_says _ _ (stand_here c.args.s.now c.args.n loop.counter loop.p c.loop-test.true loop.invariant.0)).begins in omega arith

pub overflow_add-p : goal.overflow_add-p
overflow_add-p c =
    let loop = c.loop in
    let h = (stands_says _ _ (stand_here c.args.s.now c.args.n loop.counter loop.p c.loop-test.true loop.invariant.0)).begins in omega arith

pub in_order-requires : goal.in_order-requires
in_order-requires c =
    let loop = c.loop in
    let h = (stands_says _ _ (stand_here c.args.s.now c.args.n loop.counter loop.p c.loop-test.true loop.invariant.0)).ends in omega (arith, c.count_at-count.ensures)

pub returns-then-not-in_order : goal.returns-then-not-in_order
returns-then-not-in_order c =
    let args = c.args in
    let loop = c.loop in
    let count_at = c.count_at-count in
    let s = args.s.now in
    sym (sym loop.invariant.1 ∙ answers_stop s sound_answer args.n loop.counter loop.p c.loop-test.true (order_wrong s loop.p count_at.result count_at.ensures (sym c.in_order.ensures ∙ c.if-not-in_order.true)))

pub overflow_add-p-in-loop : goal.overflow_add-p-in-loop
overflow_add-p-in-loop c =
    let loop = c.loop in
    let h = (stands_says _ _ (stand_here c.args.s.now c.args.n loop.counter loop.p c.loop-test.true loop.invariant.0)).begins in omega arith

pub apart-requires : goal.apart-requires
apart-requires c =
    let loop = c.loop in
    let count_at = c.count_at-count in
    let h = stands_says _ _ (stand_here c.args.s.now c.args.n loop.counter loop.p c.loop-test.true loop.invariant.0) in
    let e = h.ends in
    let f = h.few in (omega (arith, count_at.ensures), omega (arith, count_at.ensures))

pub returns-then-not-apart : goal.returns-then-not-apart
returns-then-not-apart c =
    let args = c.args in
    let loop = c.loop in
    let count_at = c.count_at-count in
    let s = args.s.now in
    sym (sym loop.invariant.1 ∙ answers_stop s sound_answer args.n loop.counter loop.p c.loop-test.true (apart_wrong s loop.p count_at.result count_at.ensures (sym c.in_order.ensures ∙ c.if-not-in_order.false) (sym c.apart.ensures ∙ c.if-not-apart.true)))

pub after-p-requires : goal.after-p-requires
after-p-requires c =
    let loop = c.loop in
    stand_here c.args.s.now c.args.n loop.counter loop.p c.loop-test.true loop.invariant.0

pub loop-preserved : goal.loop-preserved
loop-preserved c =
    let args = c.args in
    let loop = c.loop in
    let loop-test = c.loop-test in
    let count_at = c.count_at-count in
    let s = args.s.now in
    (subst (Stand s (args.n - (loop.counter + 1))) (sym c.after-p.ensures) (stand_next s args.n loop.counter loop.p loop-test.true loop.invariant.0), subst (λ (z : ℕ). every sound_answer (answers_at s (args.n - (loop.counter + 1)) z) ≡ every sound_answer (answers_at s args.n 0)) (sym c.after-p.ensures) (sym (answers-on s sound_answer args.n loop.counter loop.p loop-test.true (answer-sound s loop.p count_at.result count_at.ensures (sym c.in_order.ensures ∙ c.if-not-in_order.false) (sym c.apart.ensures ∙ c.if-not-apart.false))) ∙ loop.invariant.1))

pub returns : goal.returns
returns c =
    let loop = c.loop in
    sym (sym loop.invariant.1 ∙ answers-end c.args.s.now sound_answer (c.args.n - loop.counter) loop.p (omega arith))
