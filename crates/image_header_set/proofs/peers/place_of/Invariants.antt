use mathlib.Core.Path.{◌≡◌}
use Prim.Native.Nat.{◌+◌, ◌-◌, ◌≤◌}
use lib.ListN.{take, drop}
use Rattle.spec.specs.Lists.{lead}
use Rattle.node_shard.specs.View.{others}
use Rattle.image_header_row.specs.Rows.{peers_at}
use Rattle.image_header_set.proofs.peers.place_of.Given as goal

abbrev pub invariant-loop-i : goal.invariant-loop-i
invariant-loop-i l =
    (l.i ≤ l.count) × (lead (others l.node) (take l.count (peers_at l.s l.at)) ≡ l.i + lead (others l.node) (drop l.i (take l.count (peers_at l.s l.at))))
