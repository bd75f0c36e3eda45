use Prim.Native.Nat.{◌+◌, ◌≤◌}
use native.Mathlib.Omega.{arith}
use lib.ListN.{length}
use borrow.Author.Tests.{lt-leb, le-leb, lt-ltb, le-ltb}
use Rattle.spec.specs.Layout.Format.{below}
use Rattle.spec_laws.proofs.Wire.Tests.{and_intro}
use Rattle.wire_shape.proofs.Skips.{no_1, no_2, skip-ok, skip_no}
use Rattle.wire_shape.proofs.skip_below.Goals as goal

pub returns-then-s-at : goal.returns-then-s-at
returns-then-s-at c =
    let a = c.args in
    skip_no (below a.m) a.s.now a.at (no_1 _ _ (lt-leb (a.at + 1) (length a.s.now) (omega arith)))

pub returns-then-s-at-2 : goal.returns-then-s-at-2
returns-then-s-at-2 c =
    let a = c.args in
    let l : a.at + 1 ≤ length a.s.now = omega arith in
    skip-ok (below a.m) a.s.now a.at (and_intro (le-leb _ _ l) (lt-ltb _ _ c.if-s-at-2.true))

pub returns : goal.returns
returns c =
    let a = c.args in
    skip_no (below a.m) a.s.now a.at (no_2 _ _ (le-ltb _ _ c.if-s-at-2.false))
