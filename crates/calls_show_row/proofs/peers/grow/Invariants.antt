use mathlib.Core.Path.{◌≡◌}
use Prim.Native.Nat.{◌≤◌}
use lib.ListN.{length, take, drop}
use Rattle.spec.specs.Node.Shown.{with_rows}
use Rattle.calls_show_row.specs.Peers.{peers_in}
use Rattle.calls_show_row.proofs.PeerLaws.{Only}
use Rattle.calls_show_row.proofs.peers.grow.Given as goal

abbrev pub invariant-loop-i : goal.invariant-loop-i
invariant-loop-i l =
    (l.n ≤ 32) × Only l.initial.out l.out l.row × (with_rows l.me (take l.synced l.insync) (drop l.i (take l.holders l.replicas)) (take l.n (peers_in l.out l.row)) ≡ with_rows l.me (take l.synced l.insync) (take l.holders l.replicas) (take l.initial.n (peers_in l.initial.out l.row))) × (l.holders ≤ length l.replicas)
