use mathlib.Core.Path.{◌≡◌}
use Prim.Native.Nat.{◌+◌, ◌*◌, ◌≤◌}
use lib.ListN.{length}
use lib.Seq.{sets}
use Rattle.image_send_entries.specs.Store.{pairs_bytes}
use Rattle.image_send_entries.proofs.Runs.{pairs_from}
use Rattle.image_send_entries.proofs.table.put_pairs.Given as goal

abbrev pub invariant-loop-i : goal.invariant-loop-i
invariant-loop-i l =
    (l.i ≤ l.n) × (length l.out ≡ length l.initial.out) × (l.p + 16 * length (pairs_from l.s l.base l.n l.i) ≡ l.at + 16 * length (pairs_from l.s l.base l.n 0)) × (sets l.out l.p (pairs_bytes (pairs_from l.s l.base l.n l.i)) ≡ sets l.initial.out l.at (pairs_bytes (pairs_from l.s l.base l.n 0)))
