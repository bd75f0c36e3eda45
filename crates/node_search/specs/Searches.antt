-- What a Search promises at a node: the answer, with paper 01's number and value for each case, the lent output at exit and the count of
-- refused calls are those of the definition, and the node is as it was. Definitions only.
use Rattle.std.specs.Prelude.{ℕ, min, ◌≡◌, Bool, true, false, not, cond, List, ◌++◌, map, Float, length, drop}
use Rattle.std.proofs.Math.Option.{some}
use Rattle.spec.specs.Keys.{Key}
use Rattle.spec.specs.Refusals.{Refusal, unknown_shard, not_primary, no_lease, too_few_in_sync, undecodable, outside_domain, no_room, malformed, last_epoch, no_worker, number_of}
use Rattle.spec.specs.Layout.Message.{Query, decode_search}
use Rattle.spec.specs.Node.Held as held
use Rattle.spec.specs.Node.Shards.{Result, gives}
use Rattle.spec.specs.Node.Client as client
use Rattle.spec.specs.Node.Refused.{counted, count_search}
use Rattle.spec.specs.Node.Calls as calls
use Rattle.wire_read.specs.Shown.{message_of}
use Rattle.wire_read.specs.declared.SearchPart.{SearchPart}
use Rattle.wire_read.specs.declared.Message.TheVariants.{Search}
use Rattle.node_shard.specs.declared.Held.{Held}
use Rattle.log_store.specs.Store.{Store}
use Rattle.node_log_write.specs.Writes.{view_stored}
use Rattle.log_search.specs.declared.answer.Found as nearest
use Rattle.log_search.specs.declared.answer.Found.TheVariants as N
use Rattle.log_select.specs.Written.{id_of, distance_of}
use Rattle.node_header.specs.declared.Node.{Node}
use Rattle.node_header.specs.View.{Stores, view_node}
use Rattle.node_lent.specs.Lend.{LentStore, lent_for, slot_of, Lends}
use Rattle.node_search.specs.declared.SearchAnswer.{SearchAnswer}
use Rattle.node_search.specs.declared.SearchAnswer.TheVariants as S
use Rattle.node_search.specs.declared.NodeSearched.{NodeSearched}

-- ---- the answer

-- 18 tells the own epoch, every other refusal its number alone
abbrev pub refusal_word : Refusal → SearchAnswer
refusal_word unknown_shard = S.Refused (number_of unknown_shard)
refusal_word (not_primary e) = S.NotPrimary (record { 0 = e })
refusal_word no_lease = S.Refused (number_of no_lease)
refusal_word too_few_in_sync = S.Refused (number_of too_few_in_sync)
refusal_word undecodable = S.Refused (number_of undecodable)
refusal_word outside_domain = S.Refused (number_of outside_domain)
refusal_word no_room = S.Refused (number_of no_room)
refusal_word malformed = S.Refused (number_of malformed)
refusal_word last_epoch = S.Refused (number_of last_epoch)
refusal_word no_worker = S.Refused (number_of no_worker)

-- the neighbours themselves are in the lent output
abbrev pub word : client.SearchAnswer → SearchAnswer
word (client.found h) = S.Found (length h)
word (client.search_refused x) = refusal_word x

abbrev pub turned_down : SearchAnswer → Bool
turned_down (S.Found n) = false
turned_down (S.NotPrimary e) = true
turned_down (S.Refused x) = true

-- ---- the lent output

-- a column of ids, and one of distances
pub record Output : Type 0 where
  pub ids : List ℕ
  pub distances : List Float

abbrev pub output : List ℕ → List Float → Output
output is ds = record { ids = is; distances = ds }

-- how many neighbours it holds: as many as the shorter column
abbrev pub room : Output → ℕ
room o = min (length o.ids) (length o.distances)

-- 'Nearest objects': the neighbours found, nearest first; what lies past them stays as it was, and a refusal changes nothing
abbrev pub filled : Output → client.SearchAnswer → Output
filled o (client.found h) =
    output (map id_of h ++ drop (length h) o.ids) (map distance_of h ++ drop (length h) o.distances)
filled o (client.search_refused x) = o

-- ---- what the caller gets

pub record SearchAnswered : Type 0 where
  pub answer : SearchAnswer
  pub output : Output
  pub refused : ℕ
  pub node : held.Node

-- of the definition's result, with the output and the count before
abbrev pub search_answered : Output → ℕ → Result client.SearchAnswer held.Node → SearchAnswered
search_answered o before q =
    record { answer = word q.answer; output = filled o q.answer; refused = count_search before q.answer; node = q.after }

-- 'Bytes on the wire', 24: the slot of the shard that the message names
abbrev pub SearchSlot : Node → List ℕ → ℕ → Type 0
SearchSlot n m slot = (v : Query) → decode_search m ≡ some v → slot ≡ slot_of n v.key

-- a Search of the bytes m at a clock reading, on the header n with the columns a, the output o before and p after it: with whatever stores
-- have these columns in the named shard's slot, it tells what the definition does, and the node after is the one before. Refused, it leaves
-- every place of the output as it was; every refusal counts, and nothing else does
pub record SearchesAt (n : Node) (a : LentStore) (m : List ℕ) (clock : ℕ) (o p : Output) (before : ℕ) (r : NodeSearched) : Type 0 where
  pub same : (s : Stores) (slot : ℕ) → SearchSlot n m slot → Lends s slot a
      → record { answer = r.answer; output = p; refused = r.refused; node = view_node s n }
      ≡ search_answered o before (calls.search_with (lent_for s n a) (view_node s n) clock (room o) m)
  pub kept : turned_down r.answer ≡ true → p ≡ o
  pub counts : r.refused ≡ counted before (turned_down r.answer)

-- ---- internal: the parts of the call

-- answer and output are those of the definition's answer
pub record Tells (o p : Output) (r : SearchAnswer) (a : client.SearchAnswer) : Type 0 where
  pub answer : r ≡ word a
  pub output : p ≡ filled o a

-- what a search over a tested store found
abbrev pub found_as : nearest.Found → SearchAnswer
found_as (N.Hits n) = S.Found n
found_as (N.Refused x) = S.Refused x

-- on one held shard, whatever its key is
abbrev pub SearchesHeld : Held → Store → (epoch : ℕ) → Bool → (k : ℕ) → List Float → (o p : Output) → SearchAnswer → Type 0
SearchesHeld h s epoch lease k q o p r =
    (key : Key) → Tells o p r (client.search_held lease (room o) epoch k q (view_stored key h s)).answer

-- 24, then the call
abbrev pub tested_search : Bool → held.Node → (clock room : ℕ) → Key → (epoch k : ℕ) → List Float → Result client.SearchAnswer held.Node
tested_search lent v clock room key epoch k q =
    cond (not lent) (gives (client.search_refused malformed) v) (client.on_search v clock room key epoch k q)

-- at the shard of a key
abbrev pub SearchesNamed : Node → LentStore → Key → (clock epoch k : ℕ) → List Float → (o p : Output) → SearchAnswer → Type 0
SearchesNamed n a key clock epoch k q o p r =
    (s : Stores) → Lends s (slot_of n key) a → Tells o p r (tested_search (lent_for s n a key) (view_node s n) clock (room o) key epoch k q).answer

-- what the bytes were read as
abbrev pub IsSearch : List ℕ → SearchPart → Type 0
IsSearch m p = message_of m ≡ Search p

-- of bytes, the count apart
abbrev pub Searches : Node → LentStore → List ℕ → (clock : ℕ) → (o p : Output) → SearchAnswer → Type 0
Searches n a m clock o p r =
    (s : Stores) (slot : ℕ) → SearchSlot n m slot → Lends s slot a
    → Tells o p r (calls.search_with (lent_for s n a) (view_node s n) clock (room o) m).answer
