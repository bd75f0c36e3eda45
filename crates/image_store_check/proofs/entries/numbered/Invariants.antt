use mathlib.Core.Path.{◌≡◌}
use Prim.Native.Nat.{◌≤◌}
use Rattle.log_store.specs.Store.{every_below}
use Rattle.log_check.specs.Entries.{number_fits}
use Rattle.image_store_check.specs.Test.{offsets_in}
use Rattle.image_store_check.proofs.entries.numbered.Given as goal

abbrev pub invariant-loop-i : goal.invariant-loop-i
invariant-loop-i l =
    (l.i ≤ l.count) × (l.ok ≡ every_below (number_fits (offsets_in l.s l.base)) l.i)
