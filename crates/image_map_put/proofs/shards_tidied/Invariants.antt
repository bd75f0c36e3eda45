use Prim.Native.Nat.{◌-◌, ◌≤◌}
use lib.ListN.{length}
use Rattle.map_tables.specs.View.{view_shard}
use Rattle.image_map_row.specs.Rows.{shard_at, shard_bytes}
use Rattle.image_map_form.specs.Canon.{image_shard}
use Rattle.image_map.specs.Image.{no_shard}
use Rattle.image_map_put.proofs.Tidy.{Done, Tidy}
use Rattle.image_map_put.proofs.shards_tidied.Given as goal

abbrev pub invariant-loop-i : goal.invariant-loop-i
invariant-loop-i l =
    Done shard_bytes 272 4008 no_shard l.initial.out (Tidy image_shard view_shard l.count (shard_at l.initial.out) 272 4008 no_shard) l.out l.i × (l.i ≤ l.count) × (l.count ≤ 64) × (26536 ≤ length l.initial.out)
