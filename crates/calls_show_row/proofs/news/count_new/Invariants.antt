use mathlib.Core.Path.{◌≡◌}
use Prim.Native.Nat.{◌+◌, ◌≤◌}
use lib.ListN.{length, take, drop}
use Rattle.spec.specs.Lists.{collect}
use Rattle.spec.specs.Node.Client.{node_of}
use Rattle.spec.specs.Node.Shown.{is_new}
use Rattle.image_header_row.specs.Rows.{peers_at}
use Rattle.calls_show_row.proofs.news.count_new.Given as goal

abbrev pub invariant-loop-i : goal.invariant-loop-i
invariant-loop-i l =
    (l.n ≤ l.i) × (l.n + length (collect (is_new (take l.was (peers_at l.s l.at))) node_of (drop l.i (take l.count (peers_at l.t l.to)))) ≡ length (collect (is_new (take l.was (peers_at l.s l.at))) node_of (take l.count (peers_at l.t l.to))))
