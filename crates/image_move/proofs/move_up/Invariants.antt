use Prim.Native.Nat.{◌+◌, ◌*◌, ◌≤◌}
use lib.ListN.{length}
use Rattle.spec.specs.Layout.Format.{Bytes}
use Rattle.image_move.proofs.Moves.{Up}
use Rattle.image_move.proofs.move_up.Given as goal

abbrev pub invariant-loop-i : goal.invariant-loop-i
invariant-loop-i l =
    Up l.initial.out l.from l.to l.words l.out l.i × (l.i ≤ l.words) × (l.from ≤ l.to) × (l.to + 8 * l.words ≤ length l.initial.out) × Bytes l.out
