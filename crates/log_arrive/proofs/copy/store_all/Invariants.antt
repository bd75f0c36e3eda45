use mathlib.Core.Path.{◌≡◌}
use Prim.Native.Nat.{◌-◌, ◌≤◌}
use mathlib.Core.Bool.{true}
use mathlib.Core.List.{map}
use lib.ListN.{length}
use Rattle.spec.specs.Lists.{every}
use Rattle.spec.specs.Node.Wire.{entry_in_domain, stored_entry}
use Rattle.wire_read.specs.Shown.{part}
use Rattle.log_store.specs.View.{columns}
use Rattle.log_store.specs.Store.{lent}
use Rattle.log_arrive.specs.Parts.{entries_in, EntriesThere}
use Rattle.log_arrive.proofs.Batch.{OnWay}
use Rattle.log_arrive.proofs.copy.store_all.Given as goal

abbrev pub invariant-loop-i : goal.invariant-loop-i
invariant-loop-i l =
    (l.i ≤ l.n) × EntriesThere l.s (part l.at (l.n - l.i)) × (every entry_in_domain (entries_in l.s (part l.at (l.n - l.i))) ≡ true) × (length l.floats ≡ length l.initial.floats)
    × OnWay l.own.0 (map stored_entry (entries_in l.s (part l.initial.at l.n)))
    (lent (columns l.initial.epochs l.initial.offsets l.initial.ids l.initial.codes l.initial.lengths l.initial.floats) l.initial.keys l.initial.places l.count l.stored)
    (lent (columns l.epochs l.offsets l.ids l.codes l.lengths l.floats) l.keys l.places l.c l.k) (map stored_entry (entries_in l.s (part l.at (l.n - l.i))))
