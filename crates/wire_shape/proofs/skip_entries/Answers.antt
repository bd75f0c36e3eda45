use Prim.Native.Nat.{ℕ, ◌+◌, ◌≤◌}
use mathlib.Core.Path.{ap, ◌∙◌}
use native.Mathlib.Omega.{arith}
use Rattle.spec.specs.Layout.Format.{number_at}
use Rattle.spec.specs.Layout.Parts.{entry_f}
use Rattle.wire_shape.specs.Skip.{skip_n}
use Rattle.wire_shape.proofs.Skips.{many-next, many-end, many_high}
use Rattle.wire_shape.proofs.skip_entries.Goals as goal

pub returns-then-s-at : goal.returns-then-s-at
returns-then-s-at c = many-end entry_f c.args.s.now 2 0 256 c.args.at (omega arith)

pub returns-then-s-at-lt2 : goal.returns-then-s-at-lt2
returns-then-s-at-lt2 c = many-end entry_f c.args.s.now 2 0 256 c.args.at (omega arith)

pub returns-then-n-gt256 : goal.returns-then-n-gt256
returns-then-n-gt256 c = many_high entry_f c.args.s.now 2 0 256 c.args.at (rw c.get2-n.ensures at c.if-n-gt256.true)

pub returns : goal.returns
returns c =
    let a = c.args in
    let e = c.get2-n.ensures in
    let h : number_at 2 a.s.now a.at ≤ 256 = rw e at c.if-n-gt256.false in
    c.skip_entries_n.ensures
    ∙ ap (λ (n : ℕ). skip_n entry_f a.s.now n (a.at + 2)) e
    ∙ many-next entry_f a.s.now 2 0 256 a.at (omega arith) (omega arith) h
