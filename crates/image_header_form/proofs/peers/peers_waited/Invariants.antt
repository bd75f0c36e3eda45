use mathlib.Core.Path.{◌≡◌}
use Prim.Native.Nat.{◌+◌, ◌-◌, ◌*◌, ◌≤◌}
use lib.ListN.{length, take, drop}
use mathlib.Core.List.{map}
use Rattle.spec.specs.Node.Client.{wait_row}
use lib.Seq.{sets}
use Rattle.spec.specs.Layout.Format.{concat_map}
use Rattle.image_header_row.specs.Rows.{no_peer, peer_bytes, peers_at}
use Rattle.image_parts.specs.Canon.{padded}
use Rattle.image_header_form.proofs.PeerLaws.{Done, clear}
use Rattle.image_header_form.proofs.peers.peers_waited.Given as goal

abbrev pub invariant-loop-i : goal.invariant-loop-i
invariant-loop-i l =
    Done l.initial.out l.at (padded 32 no_peer (map (wait_row l.last l.clock l.timeout) (take l.count (peers_at l.initial.out l.at)))) l.out l.i × (l.i ≤ l.count) × (l.count ≤ 32) × (l.at + 1024 ≤ length l.initial.out)

abbrev pub invariant-loop-i-2 : goal.invariant-loop-i-2
invariant-loop-i-2 l =
    (l.i ≤ 32) × (l.count ≤ l.i) × (l.at + 1024 ≤ length l.initial.out) × (length l.out ≡ length l.initial.out) × (sets l.out (l.at + 32 * l.i) (concat_map peer_bytes (drop l.i clear)) ≡ sets l.initial.out (l.at + 32 * l.count) (concat_map peer_bytes (drop l.count clear)))
