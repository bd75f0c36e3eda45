use Prim.Native.Nat.{◌+◌, ◌*◌, ◌≤◌}
use lib.ListN.{length, take, drop}
use Rattle.spec.specs.Lists.{collect}
use Rattle.spec.specs.Node.Shown.{is_new, worker_for}
use Rattle.map_tables.specs.Names.{view_key}
use Rattle.image_header_row.specs.Rows.{peers_at}
use Rattle.calls_show_row.proofs.StartLaws.{Putting}
use Rattle.calls_show_row.proofs.starts.put_new.Given as goal

abbrev pub invariant-loop-i : goal.invariant-loop-i
invariant-loop-i l =
    (length (collect (is_new (take l.was (peers_at l.s l.at))) (worker_for (view_key l.key) l.epoch.0 l.metric) (take l.count (peers_at l.t 256))) ≤ 32) × (l.to + 54 * length (collect (is_new (take l.was (peers_at l.s l.at))) (worker_for (view_key l.key) l.epoch.0 l.metric) (take l.count (peers_at l.t 256))) ≤ length l.initial.starts) × Putting l.initial.starts l.to (collect (is_new (take l.was (peers_at l.s l.at))) (worker_for (view_key l.key) l.epoch.0 l.metric) (take l.count (peers_at l.t 256))) l.starts l.next (collect (is_new (take l.was (peers_at l.s l.at))) (worker_for (view_key l.key) l.epoch.0 l.metric) (drop l.i (take l.count (peers_at l.t 256))))
