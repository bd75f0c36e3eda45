-- What the two calls promise: the answer, with paper 01's number and values for each case, the workers to start, and the node after are
-- those of `spec`'s definitions, whatever the stores hold (they are not lent). Definitions only.
use Rattle.std.specs.Prelude.{ℕ, true, false, ◌≡◌, List}
use Rattle.std.proofs.Math.Option.{Option, none, some}
use Rattle.spec.specs.Lists.{◌and◌}
use Rattle.spec.specs.Keys.{Key}
use Rattle.spec.specs.Layout.Message as message
use Rattle.spec.specs.Node.Calls as calls
use Rattle.map_tables.specs.declared.ShardMap.{ShardMap}
use Rattle.map_tables.specs.View.{view_map}
use Rattle.map_check.specs.Lent.{well_formed_lent}
use Rattle.node_shard.specs.declared.Reply.{Reply}
use Rattle.node_shard.specs.declared.Reply.TheVariants as R
use Rattle.node_shard.specs.declared.Sent.{Sent}
use Rattle.node_shard.specs.Acks.{ack_word, sent_of}
use Rattle.node_header.specs.declared.Node.{Node}
use Rattle.node_header.specs.declared.NodeAcked.{NodeAcked}
use Rattle.node_header.specs.View.{Stores, view_node, used}
use Rattle.node_header.specs.Formed.{lent_node, formed_node, slots_fit}
use Rattle.node_header.specs.Slots.{slots_of, SameSlots}
use Rattle.node_header.specs.Answers.{answered_as, view_acked}
use Rattle.node_show.specs.declared.NodeShown.{NodeShown}
use Rattle.node_show.specs.Slots.{slots_after}
use Rattle.node_show.specs.Shows.{shown_answered, view_shown}
use Rattle.std.specs.declared.option.Option as option
use Rattle.std.specs.Prelude.{None, Some}

-- ---- map shown: 24 for a malformed header and for a malformed map. The slots after are those that the shards before and their slots give

pub record HearsMap (n : Node) (m : ShardMap) (fresh : ℕ) (r : NodeShown) : Type 0 where
  pub same : (s : Stores) → view_shown s r ≡ shown_answered (calls.shown_with (lent_node s n and well_formed_lent m) (view_node s n) fresh (view_map m))
  pub slots : formed_node n ≡ true → slots_fit (used r.node) ≡ true
  pub slots_are : formed_node n ≡ true → (s : Stores) → slots_of r.node ≡ slots_after (view_node s n) (slots_of n) (view_node s r.node)
  pub stays : formed_node n ≡ false → SameSlots n r.node

-- ---- ack: the reply in bytes

-- a reply, 30 to 33
abbrev pub reply_word : message.Reply → Reply
reply_word (message.reply_stored n) = R.Stored n
reply_word (message.reply_gap n) = R.Gap n
reply_word (message.reply_stale n) = R.Stale n
reply_word (message.reply_adopted n) = R.Adopted n

-- internal: what was read
abbrev pub heard_of : Option message.Reply → option.Option Reply
heard_of none = None
heard_of (some r) = Some (reply_word r)

abbrev pub HearsReply : Node → Key → (epoch peer : ℕ) → Sent → List ℕ → NodeAcked → Type 0
HearsReply n k epoch peer sent reply r =
    (s : Stores) → view_acked s r ≡ answered_as ack_word (calls.ack_with (lent_node s n) (view_node s n) k epoch peer (sent_of sent) reply)
