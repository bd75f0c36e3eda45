use Prim.Native.Nat.{◌-◌, ◌≤◌}
use lib.ListN.{length}
use Rattle.map_tables.specs.View.{view_collection}
use Rattle.image_map_row.specs.Rows.{collection_at, collection_bytes}
use Rattle.image_map_form.specs.Canon.{image_collection}
use Rattle.image_map.specs.Image.{no_collection}
use Rattle.image_map_put.proofs.Tidy.{Done, Tidy}
use Rattle.image_map_put.proofs.collections_tidied.Given as goal

abbrev pub invariant-loop-i : goal.invariant-loop-i
invariant-loop-i l =
    Done collection_bytes 56 3112 no_collection l.initial.out (Tidy image_collection view_collection l.count (collection_at l.initial.out) 56 3112 no_collection) l.out l.i × (l.i ≤ l.count) × (l.count ≤ 16) × (26536 ≤ length l.initial.out)
