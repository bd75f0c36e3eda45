-- Laws of the outcome of a proposal, one for each way out. Assumes nothing.
use mathlib.Core.Path.{◌≡◌}
use mathlib.Core.Bool.{Bool, true, false, not}
use mathlib.Core.List.{List}
use Prim.Native.Nat.{ℕ, ◌<◌, ◌≤◌}
use lib.Dec.{eqb}
use lib.ListN.{length, take, get_or, set}
use Rattle.spec.specs.Lists.{◌and◌, lead}
use Rattle.spec.specs.Node.Shards.{leads_at, of_node}
use Rattle.spec.specs.Node.Ack.{settled_row, outcome_held}
use Rattle.spec.specs.declared.Peer.{Peer}
use Rattle.node_shard.specs.declared.Held.{Held}
use Rattle.node_shard.specs.View.{others, no_peer}
use Rattle.node_shard.specs.Answers.{OutcomesHeld}
use Rattle.node_shard.proofs.RowLaws.{row-set, row_kept}

-- a shard after an outcome
abbrev pub after : Held → Bool → List Peer → Held
after h own l = record {
  epoch = h.epoch;
  metric = h.metric;
  last = h.last;
  role = h.role;
  own = own;
  replicas = h.replicas;
  holders = h.holders;
  peers = l;
  count = h.count;
}

module _ (h : Held) (me epoch peer : ℕ) (left : Bool) where
  pub settles_not : leads_at h.role epoch ≡ false → OutcomesHeld h me epoch peer left h
  unfolding outcome_held
  settles_not n k l v = rw n

  module _ (leads : leads_at h.role epoch ≡ true) (own : Bool) (mine : own ≡ (h.own and not (left and eqb peer me)))
      (at : ℕ) (fits : h.count ≤ length h.peers) (is : at ≡ lead (others peer) (take h.count h.peers)) where
    pub settles_none : h.count ≤ at → OutcomesHeld h me epoch peer left (after h own h.peers)
    unfolding outcome_held
    settles_none out k l v = rw (leads, mine, ← (row_kept (of_node peer) h.peers h.count at fits is (settled_row left) out))

    pub settles_row : at < h.count → (q : Peer) → q ≡ settled_row left (get_or h.peers at no_peer)
        → OutcomesHeld h me epoch peer left (after h own (set h.peers at q))
    unfolding outcome_held
    settles_row in_use q e k l v =
        rw (leads, mine, ← (row-set (of_node peer) h.peers h.count at fits is (settled_row left) no_peer q in_use e))
