-- What waiting for acks over a header's image promises: 21 and 24 as every call, then the contract of the wait on the header that the bytes
-- are read as, and from its answer the number and every byte after of the three buffers. Definitions only.
use Rattle.std.specs.Prelude.{ℕ, ◌*◌, Bool, true, false, cond, ◌≡◌, List, leb, length, take}
use Rattle.std.proofs.lemmas.List.Edits.{sets}
use Rattle.spec.specs.Lists.{◌and◌, ◌or◌}
use Rattle.spec.specs.Layout.Format.{bytes_of, concat_map}
use Rattle.spec.specs.Node.Held as held
use Rattle.spec.specs.Node.Shards.{Result}
use Rattle.spec.specs.Node.Client as client
use Rattle.spec.specs.Node.Calls as calls
use Rattle.spec.specs.declared.DataNodeId.{DataNodeId}
use Rattle.node_shard.specs.declared.WaitAnswer.{WaitAnswer}
use Rattle.node_shard.specs.declared.WaitAnswer.TheVariants as W
use Rattle.node_header.specs.declared.Node.{Node}
use Rattle.node_header.specs.declared.NodeWaited.{NodeWaited}
use Rattle.node_header.specs.Answers.{WaitsNode}
use Rattle.node_header.specs.View.{Stores, view_node}
use Rattle.node_header.specs.Formed.{lent_node}
use Rattle.node_header.specs.Slots.{Keeps}
use Rattle.wire_write.specs.Written.{key_given}
use Rattle.calls_parts.specs.Answer.{answer_lent, number_put}
use Rattle.image_header.specs.Image.{header_lent, node_at, header_written}
use Rattle.calls_header.specs.Asked.{unread_name, Asked, Becomes}
use Rattle.calls_header.specs.Leaves.{LeavesSlots, Stays, StaysFormed}

-- no name, or a time above 2^62
abbrev pub unread_wait : List ℕ → (now timeout : ℕ) → Bool
unread_wait name now timeout = unread_name name (calls.late_time now or calls.late_time timeout)

-- ---- what is left

-- the number, and the bytes of each buffer
pub record Left : Type 0 where
  pub number : ℕ
  pub header : List ℕ
  pub peers : List ℕ
  pub answer : List ℕ

abbrev pub left : ℕ → (header peers answer : List ℕ) → Left
left r t q b = record { number = r; header = t; peers = q; answer = b }

abbrev pub id_bytes : DataNodeId → List ℕ
id_bytes x = bytes_of 8 x.0

module _ {A : Type 0} (bytes : A → List ℕ) (w : ℕ) where
  -- room for how many rows there are, and for each
  abbrev pub rows_room : (rows answer : List ℕ) → List A → Bool
  rows_room p a l = answer_lent a and leb (w * length l) (length p)

  -- rows of w bytes, how many they are, and the header; 23 without room, and then nothing is written
  abbrev pub rows_put : ℕ → (header rows answer : List ℕ) → List A → Node → Left
  rows_put said s p a l n =
      cond (rows_room p a l)
      (left said (header_written s n) (sets p 0 (concat_map bytes l)) (number_put a (length l)))
      (left 23 s p a)

-- internal: what putting them there leaves
pub record RowsPut {A : Type 0} (bytes : A → List ℕ) (w said : ℕ) (s t p q a b : List ℕ) (l : List A) (n : Node) (r : ℕ) : Type 0 where
  pub buffers : left r t q b ≡ rows_put bytes w said s p a l n
  pub becomes : rows_room bytes w p a l ≡ true → Becomes s t n

abbrev pub wait_put : ℕ → (header peers answer : List ℕ) → List DataNodeId → Node → Left
wait_put said s p a l n = rows_put id_bytes 8 said s p a l n

-- 0 done, 1 waiting; 18 tells the own epoch, every other refusal its number alone
abbrev pub wait_said : WaitAnswer → (header peers answer : List ℕ) → List DataNodeId → Node → Left
wait_said W.Done s p a l n = wait_put 0 s p a l n
wait_said W.Waiting s p a l n = wait_put 1 s p a l n
wait_said (W.NotPrimary own) s p a l n = left 18 s p (number_put a own)
wait_said (W.Refused k) s p a l n = left k s p a

abbrev pub wait_left : (header peers answer : List ℕ) → NodeWaited → Left
wait_left s p a r = wait_said r.answer s p a (take r.shrink.count r.shrink.items) r.node

-- the header is written back: the wait was not refused, and there is room for its peers
abbrev pub is_waited : WaitAnswer → Bool
is_waited W.Done = true
is_waited W.Waiting = true
is_waited (W.NotPrimary own) = false
is_waited (W.Refused k) = false

abbrev pub wait_writes : (peers answer : List ℕ) → NodeWaited → Bool
wait_writes p a r = is_waited r.answer and rows_room id_bytes 8 p a (take r.shrink.count r.shrink.items)

-- internal: what a wait puts where the host looks for it
pub record WaitPut (s t p q a b : List ℕ) (x : NodeWaited) (r : ℕ) : Type 0 where
  pub buffers : left r t q b ≡ wait_left s p a x
  pub becomes : wait_writes p a x ≡ true → Becomes s t x.node

-- ---- the call

-- the specification's wait, on the header that the bytes are read as
abbrev pub waited : (s name : List ℕ) → (shard epoch offset now timeout : ℕ) → Stores → Result client.WaitAnswer held.Node
waited s name shard epoch offset now timeout st =
    calls.wait_with (lent_node st (node_at s)) (view_node st (node_at s)) now timeout (key_given name shard) epoch offset

-- the header's image holds s before and t after, `peers` p and q, `answer` a and b
pub record WaitsImage (s t p q a b name : List ℕ) (shard epoch offset now timeout r : ℕ) : Type 0 where
  pub after : NodeWaited
  pub call : WaitsNode (node_at s) (key_given name shard) epoch offset now timeout after
  pub keeps : Keeps (node_at s) after.node
  pub buffers : left r t q b ≡ wait_left s p a after
  pub leaves : wait_writes p a after ≡ true → LeavesSlots s t (λ st. (waited s name shard epoch offset now timeout st).after)
  pub stays : is_waited after.answer ≡ false → Stays s t (λ st. (waited s name shard epoch offset now timeout st).after)
  pub formed : StaysFormed s t (λ st. (waited s name shard epoch offset now timeout st).after)

abbrev pub Waits : (s t p q a b name : List ℕ) → (shard epoch offset now timeout r : ℕ) → Type 0
Waits s t p q a b name shard epoch offset now timeout r =
    Asked (unread_wait name now timeout) (header_lent s) r ((t ≡ s) × (q ≡ p) × (b ≡ a)) (WaitsImage s t p q a b name shard epoch offset now timeout r)
