use Prim.Native.Nat.{◌+◌}
use native.Mathlib.Omega.{arith}
use lib.ListN.{length}
use borrow.Author.Tests.{lt-leb, le-leb}
use Rattle.spec.specs.Layout.Format.{word}
use Rattle.wire_shape.proofs.Skips.{skip-ok, skip_no}
use Rattle.wire_shape.proofs.skip_word.Goals as goal

pub returns-then-s-at : goal.returns-then-s-at
returns-then-s-at c =
    let a = c.args in
    skip_no (word a.k) a.s.now a.at (lt-leb (a.at + a.k) (length a.s.now) (omega arith))

pub returns-then-s-at-2 : goal.returns-then-s-at-2
returns-then-s-at-2 c =
    let a = c.args in
    skip_no (word a.k) a.s.now a.at (lt-leb (a.at + a.k) (length a.s.now) (omega arith))

pub returns : goal.returns
returns c =
    let a = c.args in
    skip-ok (word a.k) a.s.now a.at (le-leb (a.at + a.k) (length a.s.now) (omega arith))
