use Prim.Native.Nat.{ℕ, ◌-◌, ◌<◌}
use mathlib.Core.Path.{◌≡◌, sym, ap, ◌∙◌}
use native.Mathlib.Omega.{arith}
use Rattle.spec.specs.Layout.Format.{many}
use Rattle.spec.specs.Layout.Parts.{u64}
use Rattle.wire_shape.specs.Skip.{skip_n}
use Rattle.wire_shape.proofs.Skips.{skip_n-none, skip_n-next, skip_n_bad}
use Rattle.wire_shape.proofs.skip_lists_n.Goals as goal

pub returns-in_err-q : goal.returns-in_err-q
returns-in_err-q c =
    let a = c.args in
    let l = c.loop-i in
    let h : l.i < a.n = omega arith in
    c.from_residual.ensures
    ∙ sym (l.invariant.1 ∙ skip_n_bad (many 1 0 8 u64) a.s.now a.n l.i l.p h (sym c.skip_run.ensures ∙ c.in_err-q.was))

pub loop-i-preserved : goal.loop-i-preserved
loop-i-preserved c =
    let a = c.args in
    let l = c.loop-i in
    let h : l.i < a.n = omega arith in
    (omega arith, l.invariant.1 ∙ skip_n-next (many 1 0 8 u64) a.s.now a.n l.i l.p _ h (sym c.skip_run.ensures ∙ c.in_ok-q.was))

pub returns : goal.returns
returns c =
    let a = c.args in
    let l = c.loop-i in
    let z : a.n - l.i ≡ 0 = omega arith in
    skip_n-none (many 1 0 8 u64) a.s.now l.p ∙ sym (l.invariant.1 ∙ ap (λ (m : ℕ). skip_n (many 1 0 8 u64) a.s.now m l.p) z)
