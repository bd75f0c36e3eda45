use mathlib.Core.Path.{◌≡◌}
use Prim.Native.Nat.{◌+◌, ◌-◌, ◌*◌, ◌≤◌}
use Rattle.wire_write.specs.Rows.{rows_size}
use Rattle.image_store.specs.Read.{codes_in, lengths_in}
use Rattle.image_send_entries.proofs.entries.entries_size.Given as goal

abbrev pub invariant-loop-i : goal.invariant-loop-i
invariant-loop-i l =
    (l.i ≤ l.end) × (l.total ≤ 1046 * l.i) × (l.total + rows_size (codes_in l.s l.base) (lengths_in l.s l.base) (l.end - l.i) l.i ≡ rows_size (codes_in l.s l.base) (lengths_in l.s l.base) (l.end - l.from) l.from)
