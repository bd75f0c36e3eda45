use mathlib.Core.Path.{◌≡◌}
use Prim.Native.Nat.{◌≤◌}
use lib.ListN.{length}
use Rattle.log_check.proofs.Walking.{From}
use Rattle.image_store.specs.Image.{keys_in, places_in}
use Rattle.image_store.specs.Read.{codes_in}
use Rattle.image_store_check.specs.Test.{ids_in}
use Rattle.image_store_check.proofs.settled.all_settled.Given as goal

abbrev pub invariant-loop-i : goal.invariant-loop-i
invariant-loop-i l =
    (l.i ≤ l.count) × (length l.heads ≡ 2039) × (length l.nexts ≡ 1024) × From (ids_in l.s l.base) (codes_in l.s l.base) (keys_in l.s l.base) (places_in l.s l.base) l.count l.stored l.i
