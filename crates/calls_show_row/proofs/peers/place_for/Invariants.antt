use mathlib.Core.Path.{◌≡◌}
use Prim.Native.Nat.{◌+◌}
use lib.ListN.{take, drop}
use Rattle.spec.specs.Lists.{lead}
use Rattle.node_shard.specs.View.{below}
use Rattle.image_header_row.specs.Rows.{peers_at}
use Rattle.calls_show_row.proofs.peers.place_for.Given as goal

abbrev pub invariant-loop-i : goal.invariant-loop-i
invariant-loop-i l =
    lead (below l.node) (take l.count (peers_at l.s l.at)) ≡ l.i + lead (below l.node) (drop l.i (take l.count (peers_at l.s l.at)))
