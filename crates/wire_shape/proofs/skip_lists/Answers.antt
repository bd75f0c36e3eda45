use Prim.Native.Nat.{ℕ, ◌+◌, ◌≤◌}
use mathlib.Core.Path.{sym, ap, ◌∙◌}
use native.Mathlib.Omega.{arith}
use Rattle.spec.specs.Layout.Format.{many, number_at}
use Rattle.spec.specs.Layout.Parts.{u64}
use Rattle.wire_shape.specs.Skip.{skip_n}
use Rattle.wire_shape.proofs.Skips.{many-next, many-end, many_high, count_byte}
use Rattle.wire_shape.proofs.skip_lists.Goals as goal

pub returns-then-s-at : goal.returns-then-s-at
returns-then-s-at c = many-end (many 1 0 8 u64) c.args.s.now 1 0 16 c.args.at (omega arith)

pub returns-then-n-gt16 : goal.returns-then-n-gt16
returns-then-n-gt16 c = many_high (many 1 0 8 u64) c.args.s.now 1 0 16 c.args.at (omega arith)

pub returns : goal.returns
returns c =
    let a = c.args in
    let h : number_at 1 a.s.now a.at ≤ 16 = omega arith in
    c.skip_lists_n.ensures
    ∙ ap (λ (n : ℕ). skip_n (many 1 0 8 u64) a.s.now n (a.at + 1)) (sym (count_byte a.s.now a.at))
    ∙ many-next (many 1 0 8 u64) a.s.now 1 0 16 a.at (omega arith) (omega arith) h
