-- Paper 02, 2.10: two editors at one node. Each Write is called on the header and the stores that the call before it left, and only its
-- contract is known. Definitions only.
use Rattle.std.specs.Prelude.{ℕ, ◌≡◌, List}
use Rattle.std.proofs.Math.Option.{Option, none, some}
use Rattle.spec.specs.Keys.{Key}
use Rattle.spec.specs.Log.{Op, Log, Vectors}
use Rattle.spec.specs.Layout.Message as message
use Rattle.spec.specs.Node.Wire.{stored_op}
use Rattle.spec.specs.Node.Held as held
use Rattle.spec.specs.Node.Shards.{held_shard}
use Rattle.spec_run.specs.State.{at}
use Rattle.node_header.specs.declared.Node.{Node}
use Rattle.node_header.specs.View.{view_node}
use Rattle.node_lent.specs.Lend.{LentStore}
use Rattle.node_write.specs.declared.WriteReply.{WriteReply}
use Rattle.node_write.specs.declared.WriteAnswer.{WriteAnswer}
use Rattle.node_write.specs.ClientWrites.{WriteSlot, WritesAt}
use Rattle.node_search.specs.declared.NodeSearched.{NodeSearched}
use Rattle.node_search.specs.declared.SearchAnswer.TheVariants as S
use Rattle.node_search.specs.Searches.{Output, SearchSlot, SearchesAt}
use Rattle.thm_durable.specs.Engine.{stores_of}

-- ---- a node

-- what its host owns: the header, and the columns of each slot
pub record Owned : Type 0 where
  pub header : Node
  pub lent_stores : ℕ → LentStore

-- what that is read as
abbrev pub node_of : Owned → held.Node
node_of u = view_node (stores_of u.lent_stores) u.header

-- the vectors and the log of the shard of a key, if it is held
abbrev pub vectors_in : Option held.Held → Option Vectors
vectors_in none = none
vectors_in (some h) = some h.replica.vectors

abbrev pub vectors_at : Owned → Key → Option Vectors
vectors_at u k = vectors_in (held_shard (node_of u) k)

abbrev pub log_in : Option held.Held → Option Log
log_in none = none
log_in (some h) = some h.replica.log

abbrev pub log_at : Owned → Key → Option Log
log_at u k = log_in (held_shard (node_of u) k)

-- ---- Writes

-- a Write message with this operation at the shard of a key
pub record Edit (m : List ℕ) (k : Key) (op : Op) : Type 0 where
  pub write : message.Write
  pub read : message.decode_write m ≡ some write
  pub key : write.key ≡ k
  pub stored : stored_op write.op ≡ op

-- the time now and min_in_sync of a call
pub record Moment : Type 0 where
  pub clock : ℕ
  pub least : ℕ

-- `node_write::write`, lent the columns of the named shard's slot and any count of refused calls, left v and replied w
pub record Writes (u : Owned) (c : Moment) (m : List ℕ) (v : Owned) (w : WriteReply) : Type 0 where
  pub slot : ℕ
  pub left : LentStore
  pub count : ℕ
  pub told : WriteAnswer
  pub named : WriteSlot u.header m slot
  pub call : WritesAt u.header (u.lent_stores slot) left c.clock c.least m count told
  pub reply : told.answer ≡ w
  pub leaves : v ≡ record { header = told.node; lent_stores = at u.lent_stores slot left }

-- two of them, one after the other, with what each replied
pub record InTurn (u : Owned) (c d : Moment) (x y : List ℕ) (v : Owned) (first second : WriteReply) : Type 0 where
  pub between : Owned
  pub called : Writes u c x between first
  pub followed : Writes between d y v second

-- ---- Searches

-- one Search at each of two nodes with the same operands, over outputs and counts that were the same. Unless one of them finds its lent state
-- malformed (24), the replies, the outputs and the counts are the same
abbrev pub SearchedAlike : Owned → Owned → Type 0
SearchedAlike u v =
    (clock : ℕ) (m : List ℕ) (o p₁ p₂ : Output) (count slot₁ slot₂ : ℕ) (r₁ r₂ : NodeSearched)
    → SearchSlot u.header m slot₁ → SearchSlot v.header m slot₂
    → SearchesAt u.header (u.lent_stores slot₁) m clock o p₁ count r₁
    → SearchesAt v.header (v.lent_stores slot₂) m clock o p₂ count r₂
    → (r₁.answer ≡ S.Refused 24 → ⊥) → (r₂.answer ≡ S.Refused 24 → ⊥)
    → (r₁.answer ≡ r₂.answer) × (p₁ ≡ p₂) × (r₁.refused ≡ r₂.refused)
