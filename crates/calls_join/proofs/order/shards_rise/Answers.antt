use native.Mathlib.Omega.{arith}
use mathlib.Core.Path.{◌≡◌, refl, sym, ◌∙◌, subst}
use Prim.Native.Nat.{ℕ, ◌+◌, ◌-◌, ◌≤◌, ◌<◌}
use Rattle.spec.specs.Lists.{rising}
use Rattle.spec.specs.Layout.Format.{number_at}
use Rattle.spec_join.specs.Join.{shard_below}
use Rattle.calls_join.specs.View.{Stand, answers_at, after_at}
use Rattle.calls_join.proofs.Bytes.{stands_says, stand_here, stand_next}
use Rattle.calls_join.proofs.Walks.{rise_stop, rise-on, rise-end}
use Rattle.calls_join.proofs.order.shards_rise.Goals as goal

pub loop-init : goal.loop-init
loop-init c =
    let z : c.args.n + 1 - 1 ≡ c.args.n = omega arith in (omega arith, rw z c.requires, rw z refl)

pub after-q-requires : goal.after-q-requires
after-q-requires c =
    let loop = c.loop in
    stand_here c.args.s.now (c.args.n + 1) loop.counter loop.p (omega arith) loop.invariant.1

pub get4-requires : goal.get4-requires
get4-requires c =
    let args = c.args in
    let loop = c.loop in
    let s = args.s.now in
    let h = (stands_says _ _ (stand_here s (args.n + 1) (loop.counter + 1) (after_at s loop.p) (omega arith) (stand_next s (args.n + 1) loop.counter loop.p (omega arith) loop.invariant.1))).begins in omega (arith, c.after-q.ensures)

pub get4-requires-in-loop : goal.get4-requires-in-loop
get4-requires-in-loop c =
    let loop = c.loop in
    let h = (stands_says _ _ (stand_here c.args.s.now (c.args.n + 1) loop.counter loop.p (omega arith) loop.invariant.1)).begins in omega arith

pub returns-then-get4 : goal.returns-then-get4
returns-then-get4 c =
    let args = c.args in
    let loop = c.loop in
    let s = args.s.now in
    sym (sym loop.invariant.2 ∙ rise_stop s args.n loop.counter loop.p loop.invariant.0 c.loop-test.true (subst (λ (z : ℕ). number_at 4 s z ≤ number_at 4 s loop.p) c.after-q.ensures (omega (arith, c.get4.ensures, c.get4-in-loop.ensures))))

pub loop-preserved : goal.loop-preserved
loop-preserved c =
    let args = c.args in
    let loop = c.loop in
    let after = c.after-q in
    let s = args.s.now in
    (omega arith, subst (Stand s (args.n + 1 - (loop.counter + 1))) (sym after.ensures) (stand_next s (args.n + 1) loop.counter loop.p (omega arith) loop.invariant.1), subst (λ (z : ℕ). rising shard_below (answers_at s (args.n + 1 - (loop.counter + 1)) z) ≡ rising shard_below (answers_at s args.n 0)) (sym after.ensures) (sym (rise-on s args.n loop.counter loop.p loop.invariant.0 c.loop-test.true (subst (λ (z : ℕ). number_at 4 s loop.p < number_at 4 s z) after.ensures (omega (arith, c.get4.ensures, c.get4-in-loop.ensures)))) ∙ loop.invariant.2))

pub returns : goal.returns
returns c = sym (sym c.loop.invariant.2 ∙ rise-end _ _ _ (omega arith))
