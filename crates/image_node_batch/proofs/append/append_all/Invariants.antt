use mathlib.Core.Path.{◌≡◌}
use Prim.Native.Nat.{◌-◌, ◌≤◌}
use mathlib.Core.Bool.{true}
use mathlib.Core.List.{map}
use Rattle.spec.specs.Lists.{every}
use Rattle.spec.specs.Layout.Format.{Bytes}
use Rattle.spec.specs.Node.Wire.{entry_in_domain, stored_entry}
use Rattle.wire_read.specs.Shown.{part}
use Rattle.log_domain.specs.Parts.{entries_in, EntriesThere}
use Rattle.image_node_batch.proofs.Batch.{Going}
use Rattle.image_node_batch.proofs.append.append_all.Given as goal

abbrev pub invariant-loop-i : goal.invariant-loop-i
invariant-loop-i l =
    (l.i ≤ l.n) × EntriesThere l.s (part l.at (l.n - l.i)) × (every entry_in_domain (entries_in l.s (part l.at (l.n - l.i))) ≡ true) × Bytes l.out × Going l.initial.out l.slot l.count l.stored (map stored_entry (entries_in l.s (part l.initial.at l.n))) l.out l.c l.k (map stored_entry (entries_in l.s (part l.at (l.n - l.i))))
