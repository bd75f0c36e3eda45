use mathlib.Core.Path.{◌≡◌}
use Prim.Native.Nat.{◌+◌, ◌-◌, ◌≤◌}
use lib.ListN.{take, drop}
use Rattle.spec.specs.Lists.{lead}
use Rattle.map_tables.specs.Names.{view_key}
use Rattle.node_header.specs.View.{other_key}
use Rattle.image_header.specs.Image.{node_at}
use Rattle.image_header_check.proofs.place.place_at.Given as goal

abbrev pub invariant-loop-i : goal.invariant-loop-i
invariant-loop-i l =
    (l.i ≤ l.count) × (lead (other_key (view_key l.key)) (take l.count (node_at l.s).held) ≡ l.i + lead (other_key (view_key l.key)) (drop l.i (take l.count (node_at l.s).held)))
