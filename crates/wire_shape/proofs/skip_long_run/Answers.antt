use Prim.Native.Nat.{ℕ, ◌+◌, ◌*◌, ◌≤◌}
use mathlib.Core.Path.{ap, ◌∙◌}
use native.Mathlib.Omega.{arith}
use lib.ListN.{length}
use Rattle.spec.specs.Layout.Format.{word, number_at}
use Rattle.wire_shape.specs.Skip.{skip}
use Rattle.wire_shape.proofs.Skips.{many-word, many-end, many_high}
use Rattle.wire_shape.proofs.skip_long_run.Goals as goal

pub returns-then-s-at : goal.returns-then-s-at
returns-then-s-at c = many-end (word c.args.w) c.args.s.now 2 0 c.args.hi c.args.at (omega arith)

pub returns-then-s-at-lt2 : goal.returns-then-s-at-lt2
returns-then-s-at-lt2 c = many-end (word c.args.w) c.args.s.now 2 0 c.args.hi c.args.at (omega arith)

pub returns-then-hi-n : goal.returns-then-hi-n
returns-then-hi-n c =
    let a = c.args in
    many_high (word a.w) a.s.now 2 0 a.hi a.at (rw c.get2-n.ensures at c.if-hi-n.true)

pub returns : goal.returns
returns c =
    let a = c.args in
    let e = c.get2-n.ensures in
    let l : a.at + 2 ≤ length a.s.now = omega arith in
    let h : number_at 2 a.s.now a.at ≤ a.hi = rw e at c.if-hi-n.false in
    c.skip_word.ensures
    ∙ ap (λ (n : ℕ). skip (word (n * a.w)) a.s.now (a.at + 2)) e
    ∙ many-word a.s.now a.w 2 0 a.hi a.at l (omega arith) h
