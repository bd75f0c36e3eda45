use Prim.Native.Nat.{ℕ, ◌+◌, ◌*◌, ◌≤◌}
use mathlib.Core.Path.{sym, ap, ◌∙◌}
use native.Mathlib.Omega.{arith}
use lib.ListN.{length}
use Rattle.spec.specs.Layout.Format.{word, number_at}
use Rattle.wire_shape.specs.Skip.{skip}
use Rattle.wire_shape.proofs.Skips.{many-word, many-end, many-low, many_high, count_byte}
use Rattle.wire_shape.proofs.skip_run.Goals as goal

pub returns-then-s-at : goal.returns-then-s-at
returns-then-s-at c = many-end (word c.args.w) c.args.s.now 1 c.args.lo c.args.hi c.args.at (omega arith)

pub returns-then-n-lo : goal.returns-then-n-lo
returns-then-n-lo c = many-low (word c.args.w) c.args.s.now 1 c.args.lo c.args.hi c.args.at (omega arith)

pub returns-then-hi-n : goal.returns-then-hi-n
returns-then-hi-n c = many_high (word c.args.w) c.args.s.now 1 c.args.lo c.args.hi c.args.at (omega arith)

pub returns : goal.returns
returns c =
    let a = c.args in
    let l : a.at + 1 ≤ length a.s.now = omega arith in
    let h₁ : a.lo ≤ number_at 1 a.s.now a.at = omega arith in
    let h₂ : number_at 1 a.s.now a.at ≤ a.hi = omega arith in
    c.skip_word.ensures
    ∙ ap (λ (n : ℕ). skip (word (n * a.w)) a.s.now (a.at + 1)) (sym (count_byte a.s.now a.at))
    ∙ many-word a.s.now a.w 1 a.lo a.hi a.at l h₁ h₂
