use mathlib.Core.Path.{◌≡◌}
use Prim.Native.Nat.{◌≤◌}
use lib.ListN.{length}
use Rattle.log_check.specs.Conditions.{Marked}
use Rattle.image_store.specs.Image.{places_in}
use Rattle.image_store_check.specs.Test.{RowsFitIn}
use Rattle.image_store_check.proofs.rows.mark_rows.Given as goal

abbrev pub invariant-loop-j : goal.invariant-loop-j
invariant-loop-j l =
    (l.j ≤ l.stored) × (length l.marks ≡ 1024) × Marked (places_in l.s l.base) l.marks l.j × RowsFitIn l.s l.base l.count l.j
