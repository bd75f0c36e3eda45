use mathlib.Core.Path.{◌≡◌}
use Prim.Native.Nat.{◌-◌, ◌≤◌}
use lib.ListN.{take}
use mathlib.Core.List.{map}
use Rattle.node_header.specs.declared.HeldRow.{HeldRow}
use Rattle.node_header.specs.Grow.{free_from, lowest_free}
use Rattle.image_header.specs.Image.{node_at}
use Rattle.image_header_begin.proofs.places.free_slot.Given as goal

abbrev pub invariant-loop-slot : goal.invariant-loop-slot
invariant-loop-slot l =
    (l.slot ≤ 8) × (lowest_free (take l.count (node_at l.s).held) ≡ free_from (8 - l.slot) l.slot (map (λ (x : HeldRow). x.slot) (take l.count (node_at l.s).held)))
