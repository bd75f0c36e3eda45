use Prim.Native.Nat.{◌+◌, ◌*◌, ◌<◌}
use mathlib.Core.Path.{◌≡◌, ◌∙◌}
use native.Mathlib.Omega.{arith}
use lib.ListN.{length}
use Rattle.wire_put.proofs.Pairs.{table_step}
use Rattle.wire_put.proofs.ends.put_ends.Goals as goal

pub loop-i-preserved : goal.loop-i-preserved
loop-i-preserved c =
    let l = c.loop-i in
    let a = c.args in
    let h : l.i < length a.epochs.now = omega arith in
    let q : a.at + 16 * (l.i + 1) ≡ a.at + 16 * l.i + 16 = omega arith in (
      omega arith,
      c.put8-in-loop-i.auto.out ∙ c.put8.auto.out ∙ l.invariant.1,
      (rw (c.put8-in-loop-i.ensures, c.put8.ensures, q) (table_step l.out a.epochs.now a.ends.now (a.at + 16 * l.i) l.i h c.requires.1)) ∙ l.invariant.2,
    )
