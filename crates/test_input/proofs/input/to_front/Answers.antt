use borrow.Author.Rules.{rules}
use native.Mathlib.Omega.{arith}
use mathlib.Core.Path.{◌≡◌, subst}
use Prim.Native.Nat.{ℕ, ◌+◌, ◌-◌, ◌<◌}
use lib.ListN.{length, take, drop}
use Rattle.test_input.proofs.Front.{front-more, back_less}
use Rattle.test_input.proofs.input.to_front.Goals as goal

pub loop-i-preserved : goal.loop-i-preserved
loop-i-preserved c =
    let l = c.loop-i in
    let a = c.args in
    let h : a.at + l.i < length a.buf.now = omega arith in (
      omega arith,
      l.invariant.1,
      search rules,
      front-more a.buf.now l.buf a.at l.i l.invariant.3 l.invariant.4 l.invariant.2 h,
      back_less a.buf.now l.buf a.at l.i l.invariant.3 l.invariant.4 l.invariant.2 h,
    )
