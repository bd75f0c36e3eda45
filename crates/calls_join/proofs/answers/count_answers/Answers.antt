use native.Mathlib.Omega.{arith}
use mathlib.Core.Path.{◌≡◌, refl, sym, ◌∙◌, subst}
use Prim.Native.Nat.{ℕ, ◌+◌}
use lib.ListN.{length}
use native.Mathlib.Numerals.{add-one}
use Rattle.calls_join.specs.View.{Leads, after_at}
use Rattle.calls_join.proofs.Bytes.{stands_says, leads-size, leads_snoc, broken_in}
use Rattle.calls_join.proofs.answers.count_answers.Goals as goal

pub loop-p-init : goal.loop-p-init
loop-p-init c = (omega arith, refl)

pub returns-then-not-stands : goal.returns-then-not-stands
returns-then-not-stands c =
    let loop = c.loop-p in
    broken_in c.args.s.now loop.n loop.p loop.invariant.1 (λ e. omega arith) (sym c.stands.ensures ∙ c.if-not-stands.true)

pub after-p-requires : goal.after-p-requires
after-p-requires c = sym c.stands.ensures ∙ c.if-not-stands.false

pub overflow_add-n : goal.overflow_add-n
overflow_add-n c =
    let loop = c.loop-p in
    let l = leads-size c.args.s.now loop.n 0 loop.p loop.invariant.1 in omega arith

pub loop-p-smaller : goal.loop-p-smaller
loop-p-smaller c =
    let l = (stands_says _ _ (sym c.stands.ensures ∙ c.if-not-stands.false)).ends in omega (arith, c.after-p.ensures)

pub loop-p-preserved : goal.loop-p-preserved
loop-p-preserved c =
    let args = c.args in
    let loop = c.loop-p in
    let s = args.s.now in
    let h = sym c.stands.ensures ∙ c.if-not-stands.false in
    let l = (stands_says _ _ h).ends in
    (omega (arith, c.after-p.ensures), subst (λ (q : ℕ). Leads s (loop.n + 1) 0 q) (sym c.after-p.ensures) (subst (λ (m : ℕ). Leads s m 0 (after_at s loop.p)) (sym (add-one loop.n)) (leads_snoc s loop.n 0 loop.p loop.invariant.1 h)))

pub returns : goal.returns
returns c =
    let args = c.args in
    let loop = c.loop-p in
    let s = args.s.now in
    let e : loop.p ≡ length s = omega arith in subst (λ (q : ℕ). Leads s loop.n 0 q) e loop.invariant.1
