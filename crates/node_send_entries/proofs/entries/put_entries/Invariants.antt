use mathlib.Core.Path.{◌≡◌}
use Prim.Native.Nat.{◌+◌, ◌-◌, ◌≤◌}
use lib.ListN.{length}
use lib.Seq.{sets}
use Rattle.wire_write.specs.Rows.{rows_size}
use Rattle.log_store.specs.View.{columns}
use Rattle.node_send_entries.specs.Sent.{entries_sent}
use Rattle.node_send_entries.proofs.entries.put_entries.Given as goal

abbrev pub invariant-loop-i : goal.invariant-loop-i
invariant-loop-i l =
    (l.i ≤ l.end) × (l.from ≤ l.i) × (length l.out ≡ length l.initial.out)
    × (l.p + rows_size l.codes l.lengths (l.end - l.i) l.i ≡ l.at + rows_size l.codes l.lengths (l.end - l.from) l.from)
    × (sets l.out l.p (entries_sent (columns l.epochs l.offsets l.ids l.codes l.lengths l.floats) (l.end - l.i) l.i)
    ≡ sets l.initial.out l.at (entries_sent (columns l.epochs l.offsets l.ids l.codes l.lengths l.floats) (l.end - l.from) l.from))
