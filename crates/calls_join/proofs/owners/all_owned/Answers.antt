use native.Mathlib.Omega.{arith}
use mathlib.Core.Path.{◌≡◌, refl, sym, ◌∙◌, ap, subst}
use Prim.Native.Nat.{ℕ, ◌+◌, ◌-◌}
use Rattle.spec_join.specs.Join.{Answer, owned}
use Rattle.calls_join.specs.View.{Stand, answers_at, answer_at, hits_at}
use Rattle.calls_join.specs.Owners.{own_hits}
use Rattle.calls_join.proofs.Bytes.{stands_says, stand_here, stand_next}
use Rattle.calls_join.proofs.Walks.{answers_stop, answers-on, answers-end}
use Rattle.calls_join.proofs.owners.all_owned.Goals as goal

pub loop-init : goal.loop-init
loop-init c =
    let z : c.args.n - 0 ≡ c.args.n = omega arith in rw z (c.requires, refl)

pub overflow_add-p : goal.overflow_add-p
overflow_add-p c =
    let loop = c.loop in
    let h = (stands_says _ _ (stand_here c.args.s.now c.args.n loop.counter loop.p c.loop-test.true loop.invariant.0)).begins in omega arith

pub count_at-requires : goal.count_at-requires
count_at-requires c =
    let loop = c.loop in
    let h = (stands_says _ _ (stand_here c.args.s.now c.args.n loop.counter loop.p c.loop-test.true loop.invariant.0)).begins in omega arith

pub get4-requires : goal.get4-requires
get4-requires c =
    let loop = c.loop in
    let h = (stands_says _ _ (stand_here c.args.s.now c.args.n loop.counter loop.p c.loop-test.true loop.invariant.0)).begins in omega arith

pub owns-requires : goal.owns-requires
owns-requires c =
    let loop = c.loop in
    let h = (stands_says _ _ (stand_here c.args.s.now c.args.n loop.counter loop.p c.loop-test.true loop.invariant.0)).ends in omega (arith, c.count_at.ensures)

pub returns-then-not-owns : goal.returns-then-not-owns
unfolding owned
returns-then-not-owns c =
    let args = c.args in
    let loop = c.loop in
    let count_at = c.count_at in
    let s = args.s.now in
    let r = c.owns.ensures ∙ ap (λ (x : ℕ). own_hits args.shards x (hits_at s count_at.result (loop.p + 6))) c.get4.ensures ∙ ap (λ (x : ℕ). own_hits args.shards (answer_at s loop.p).shard (hits_at s x (loop.p + 6))) count_at.ensures in sym (sym loop.invariant.1 ∙ answers_stop s (λ (a : Answer). own_hits args.shards a.shard a.hits) args.n loop.counter loop.p c.loop-test.true (sym r ∙ c.if-not-owns.true))

pub after-p-requires : goal.after-p-requires
after-p-requires c =
    let loop = c.loop in
    stand_here c.args.s.now c.args.n loop.counter loop.p c.loop-test.true loop.invariant.0

pub loop-preserved : goal.loop-preserved
unfolding owned
loop-preserved c =
    let args = c.args in
    let loop = c.loop in
    let loop-test = c.loop-test in
    let count_at = c.count_at in
    let s = args.s.now in
    let r = c.owns.ensures ∙ ap (λ (x : ℕ). own_hits args.shards x (hits_at s count_at.result (loop.p + 6))) c.get4.ensures ∙ ap (λ (x : ℕ). own_hits args.shards (answer_at s loop.p).shard (hits_at s x (loop.p + 6))) count_at.ensures in
    (subst (Stand s (args.n - (loop.counter + 1))) (sym c.after-p.ensures) (stand_next s args.n loop.counter loop.p loop-test.true loop.invariant.0), subst (λ (z : ℕ). owned args.shards (answers_at s (args.n - (loop.counter + 1)) z) ≡ owned args.shards (answers_at s args.n 0)) (sym c.after-p.ensures) (sym (answers-on s (λ (a : Answer). own_hits args.shards a.shard a.hits) args.n loop.counter loop.p loop-test.true (sym r ∙ c.if-not-owns.false)) ∙ loop.invariant.1))

pub returns : goal.returns
unfolding owned
returns c =
    let args = c.args in
    let loop = c.loop in
    sym (sym loop.invariant.1 ∙ answers-end args.s.now (λ (a : Answer). own_hits args.shards a.shard a.hits) (args.n - loop.counter) loop.p (omega arith))
