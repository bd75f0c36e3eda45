use Prim.Native.Nat.{◌+◌, ◌*◌, ◌≤◌}
use lib.ListN.{length}
use Rattle.spec.specs.Layout.Format.{Bytes}
use Rattle.image_move.proofs.Moves.{Down}
use Rattle.image_move.proofs.move_down.Given as goal

abbrev pub invariant-loop-i : goal.invariant-loop-i
invariant-loop-i l =
    Down l.initial.out l.from l.to l.words l.out l.i × (l.i ≤ l.words) × (l.to ≤ l.from) × (l.from + 8 * l.words ≤ length l.initial.out) × Bytes l.out
