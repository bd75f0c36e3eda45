use mathlib.Core.Path.{◌≡◌}
use Prim.Native.Nat.{◌+◌, ◌-◌, ◌≤◌}
use lib.ListN.{take, drop}
use Rattle.spec.specs.Lists.{lead}
use Rattle.map_tables.specs.Names.{view_key}
use Rattle.node_header.specs.Grow.{below_key}
use Rattle.image_header.specs.Image.{node_at}
use Rattle.image_header_begin.proofs.places.key_place.Given as goal

abbrev pub invariant-loop-i : goal.invariant-loop-i
invariant-loop-i l =
    (l.i ≤ l.count) × (lead (below_key (view_key l.key)) (take l.count (node_at l.s).held) ≡ l.i + lead (below_key (view_key l.key)) (drop l.i (take l.count (node_at l.s).held)))
