use mathlib.Core.Path.{◌≡◌}
use Prim.Native.Nat.{◌-◌, ◌≤◌}
use lib.ListN.{length, take}
use Rattle.spec.specs.Lists.{collect}
use Rattle.spec.specs.Node.Client.{to_shrink, node_of}
use Rattle.image_header_row.specs.Rows.{peers_at}
use Rattle.image_header_form.proofs.peers.shrinks_of.Given as goal

abbrev pub invariant-loop-i : goal.invariant-loop-i
invariant-loop-i l =
    (l.i ≤ l.count) × (l.n ≤ l.i) × (length l.items ≡ 32) × (take l.n l.items ≡ collect (to_shrink l.last l.clock l.timeout) node_of (take l.i (peers_at l.s l.at)))
