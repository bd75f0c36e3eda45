-- What a client's Write promises over the images of a node (paper 01, 'Who is turned down', Write; docs/IMAGES.md): the refusals in their
-- order, and then what the call on the state that the bytes lend told. Every byte of every buffer at exit is given, and what the images are
-- then read as. Definitions only.
use Rattle.std.specs.Prelude.{ℕ, ◌≡◌, true, false, List}
use Rattle.std.proofs.Math.Option.{none, some}
use Rattle.spec.specs.Keys.{Key}
use Rattle.spec.specs.Layout.Message as message
use Rattle.spec.specs.Node.Wire.{op_in_domain}
use Rattle.spec.specs.Node.Client as client
use Rattle.spec.specs.Node.Calls.{late_time, write_with}
use Rattle.node_header.specs.Slots.{slots_of}
use Rattle.image_header.specs.Image.{node_at}
use Rattle.node_lent.specs.Lend.{LentStore, place_of}
use Rattle.image_node.specs.Lent.{lends_state, lent_store_in}
use Rattle.image_node.specs.State.{StateAfter}
use Rattle.node_write.specs.declared.WriteAnswer.{WriteAnswer}
use Rattle.node_write.specs.ClientWrites.{turned_down, WritesAt}
use Rattle.calls_client_out.specs.Count.{count_put}
use Rattle.calls_client_out.specs.Ends as parts
use Rattle.calls_client_out.specs.Ends.{Buffers, WriteEnded, ended, write_ended}
use Rattle.calls_client.specs.Searched.{lends_call}

-- the three buffers that a Write may change, the count apart
abbrev pub buffers : (header stores answer : List ℕ) → Buffers
buffers h s a = parts.buffers h s a

-- past 24: some columns and answer that the call leaves on the state which the bytes lend, and what the caller gets of them. Accepted, and its
-- offset told, the images that it leaves are read as the node after
pub record WriteServed (b : Buffers) (key : Key) (clock least : ℕ) (m : List ℕ) (e : WriteEnded) : Type 0 where
  pub left : LentStore
  pub told : WriteAnswer
  pub call : WritesAt (node_at b.header) (lent_store_in b.stores (node_at b.header) key) left clock least m 0 told
  pub is : e ≡ write_ended b (node_at b.header) (place_of (node_at b.header) key) left told
  pub state : turned_down told.answer ≡ false → e.number ≡ 0
      → StateAfter client.WriteAnswer (λ lent v. write_with lent v clock least m) b.header b.stores e.left.header e.left.stores key (slots_of told.node)

-- at the shard of a key: 24 where the images lend no state
pub record WritesShard (b : Buffers) (key : Key) (clock least : ℕ) (m : List ℕ) (e : WriteEnded) : Type 0 where
  pub unlent : lends_state b.header b.stores key ≡ false → e ≡ ended 24 b
  pub lent : lends_state b.header b.stores key ≡ true → WriteServed b key clock least m e

-- past 21, for what the bytes m were read as; c is the count of refused calls
pub record WritesRead (b : Buffers) (c : List ℕ) (clock least : ℕ) (m : List ℕ) (v : message.Write) (e : WriteEnded) : Type 0 where
  pub outside : op_in_domain v.op ≡ false → e ≡ ended 22 b
  pub unlent : op_in_domain v.op ≡ true → lends_call c b.header b.stores v.key ≡ false → e ≡ ended 24 b
  pub lent : op_in_domain v.op ≡ true → lends_call c b.header b.stores v.key ≡ true → WriteServed b v.key clock least m e

pub record WritesBytes (b : Buffers) (c : List ℕ) (clock least : ℕ) (m : List ℕ) (e : WriteEnded) : Type 0 where
  pub late : late_time clock ≡ true → e ≡ ended 21 b
  pub undecoded : message.decode_write m ≡ none → e ≡ ended 21 b
  pub read : late_time clock ≡ false → (v : message.Write) → message.decode_write m ≡ some v → WritesRead b c clock least m v e

-- c' the count's bytes at exit: one more for a refusal of any number
pub record WritesImages (b b' : Buffers) (c c' : List ℕ) (clock least : ℕ) (m : List ℕ) (r : ℕ) : Type 0 where
  pub ends : WritesBytes b c clock least m (ended r b')
  pub count : c' ≡ count_put c r
