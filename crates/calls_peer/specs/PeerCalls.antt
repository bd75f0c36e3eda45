-- What a primary's messages promise of the images that a host owns (paper 01, 'Who is turned down', 'Bytes on the wire', 30 to 33): the
-- number that is answered, and every byte of the header, the stores and the reply, given by the bytes at entry and the call's own contract
-- on what they are read as; and what the images at exit are read as. Definitions only.
use Rattle.std.specs.Prelude.{ℕ, ◌≡◌, Bool, true, false, List}
use Rattle.std.proofs.Math.Option.{Option, none, some}
use Rattle.spec.specs.Lists.{every}
use Rattle.spec.specs.Keys.{Key}
use Rattle.spec.specs.Layout.Message as message
use Rattle.spec.specs.Node.Held as held
use Rattle.spec.specs.Node.Shards.{Result}
use Rattle.spec.specs.Node.Backup.{BackupAnswer}
use Rattle.spec.specs.Node.Calls as calls
use Rattle.spec.specs.Node.Wire.{op_in_domain, entry_in_domain}
use Rattle.node_header.specs.declared.Node.{Node}
use Rattle.node_header.specs.Slots.{slots_of}
use Rattle.image_header.specs.Image.{node_at}
use Rattle.node_lent.specs.Lend.{LentStore, place_of}
use Rattle.image_node.specs.Lent.{lends_state, lent_store_in}
use Rattle.image_node.specs.State.{StateAfter}
use Rattle.node_replicate.specs.declared.PeerAnswer.{PeerAnswer}
use Rattle.node_replicate.specs.Peers.{turned_down, ReplicatesAt, CopiesAt}
use Rattle.node_epoch.specs.NewEpochs.{NewEpochsAt}
use Rattle.calls_peer_out.specs.Ends as ends
use Rattle.calls_peer_out.specs.Ends.{Buffers, ended, ended_with}

-- the three buffers that a call may write
abbrev pub buffers : (header stores reply : List ℕ) → Buffers
buffers h s r = ends.buffers h s r

-- what a message does to a node, in paper 01's words
abbrev pub Deed : Type 0
Deed = List ℕ → (Key → Bool) → held.Node → Result BackupAnswer held.Node

-- refused before the call: nothing is written
abbrev pub Turned : ℕ → (b c : Buffers) → ℕ → Type 0
Turned number b c r = (r ≡ number) × (c ≡ b)

-- the state was lent: what the call answered, and the header and the columns that it left, are those of its own contract, of the header
-- and the columns that the bytes at entry are read as. Not turned down, and its reply sent, it leaves images that are read as the node after
pub record Passed (Call : Node → (a b : LentStore) → List ℕ → PeerAnswer → Type 0) (does : Deed) (key : Key) (m : List ℕ) (b c : Buffers) (r : ℕ) : Type 0 where
  pub after : PeerAnswer
  pub columns : LentStore
  pub called : Call (node_at b.header) (lent_store_in b.stores (node_at b.header) key) columns m after
  pub ends : ended r c ≡ ended_with b (node_at b.header) (place_of (node_at b.header) key) columns after
  pub state : turned_down after.answer ≡ false → r ≡ 0
      → StateAfter BackupAnswer (does m) b.header b.stores c.header c.stores key (slots_of after.node)

-- at the shard of a key: 24 where the bytes lend no state
pub record AtShard (Call : Node → (a b : LentStore) → List ℕ → PeerAnswer → Type 0) (does : Deed) (key : Key) (m : List ℕ) (b c : Buffers) (r : ℕ) : Type 0 where
  pub unlent : lends_state b.header b.stores key ≡ false → Turned 24 b c r
  pub lent : lends_state b.header b.stores key ≡ true → Passed Call does key m b c r

-- a message m that is read as `read`, is in the domain if `fine` and names the shard `key`; the buffers b at entry, c at exit, r the answer
pub record Serves (A : Type 0) (read : Option A) (fine : A → Bool) (key : A → Key) (Call : Node → (a b : LentStore) → List ℕ → PeerAnswer → Type 0) (does : Deed)
    (m : List ℕ) (b c : Buffers) (r : ℕ) : Type 0 where
  pub undecoded : read ≡ none → Turned 21 b c r
  pub outside : (v : A) → read ≡ some v → fine v ≡ false → Turned 22 b c r
  pub inside : (v : A) → read ≡ some v → fine v ≡ true → AtShard Call does (key v) m b c r

-- 20
abbrev pub replicates : Deed
replicates m lent v = calls.replicate_with lent v m

abbrev pub ReplicatesImage : List ℕ → (b c : Buffers) → ℕ → Type 0
ReplicatesImage m = Serves message.Replicated (message.decode_replicate m) (λ v. op_in_domain v.op) (λ v. v.key) ReplicatesAt replicates m

-- 21
abbrev pub announces : Deed
announces m lent v = calls.new_epoch_with lent v m

abbrev pub NewEpochsImage : List ℕ → (b c : Buffers) → ℕ → Type 0
NewEpochsImage m = Serves message.NewEpoch (message.decode_new_epoch m) (λ v. true) (λ v. v.key) NewEpochsAt announces m

-- 22
abbrev pub copies : Deed
copies m lent v = calls.copy_with lent v m

abbrev pub CopiesImage : List ℕ → (b c : Buffers) → ℕ → Type 0
CopiesImage m = Serves message.Copied (message.decode_copy_shard m) (λ v. every entry_in_domain v.entries) (λ v. v.key) CopiesAt copies m
