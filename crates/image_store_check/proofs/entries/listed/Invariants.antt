use mathlib.Core.Path.{◌≡◌}
use Prim.Native.Nat.{◌≤◌}
use Rattle.log_store.specs.Store.{every_below}
use Rattle.log_check.specs.Entries.{shape_at}
use Rattle.image_store.specs.Read.{codes_in, lengths_in}
use Rattle.image_store_check.proofs.entries.listed.Given as goal

abbrev pub invariant-loop-i : goal.invariant-loop-i
invariant-loop-i l =
    (l.i ≤ l.count) × (l.ok ≡ every_below (shape_at (codes_in l.s l.base) (lengths_in l.s l.base)) l.i)
