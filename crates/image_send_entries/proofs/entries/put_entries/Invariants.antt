use mathlib.Core.Path.{◌≡◌}
use Prim.Native.Nat.{◌+◌, ◌-◌, ◌≤◌}
use lib.ListN.{length}
use lib.Seq.{sets}
use Rattle.wire_write.specs.Rows.{rows_size}
use Rattle.image_store.specs.Read.{codes_in, lengths_in}
use Rattle.node_send_entries.specs.Sent.{entries_sent}
use Rattle.image_send_entries.specs.Store.{store_columns}
use Rattle.image_send_entries.proofs.entries.put_entries.Given as goal

abbrev pub invariant-loop-i : goal.invariant-loop-i
invariant-loop-i l =
    (l.i ≤ l.end) × (l.from ≤ l.i) × (length l.out ≡ length l.initial.out) × (l.p + rows_size (codes_in l.s l.base) (lengths_in l.s l.base) (l.end - l.i) l.i ≡ l.at + rows_size (codes_in l.s l.base) (lengths_in l.s l.base) (l.end - l.from) l.from) × (sets l.out l.p (entries_sent (store_columns l.s l.base l.count) (l.end - l.i) l.i) ≡ sets l.initial.out l.at (entries_sent (store_columns l.s l.base l.count) (l.end - l.from) l.from))
