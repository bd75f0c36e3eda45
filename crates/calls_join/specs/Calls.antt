-- Paper 02, 2.2: what the calls answer, and every byte of their lent buffers at exit. Definitions only.
use Rattle.std.specs.Prelude.{ℕ, ◌/◌, min, ◌≡◌, true, cond, List, leb, length, Result, Ok, Err}
use Rattle.std.proofs.lemmas.List.Edits.{sets}
use Rattle.spec.specs.Layout.Format.{bytes_of}
use Rattle.spec_join.specs.Join.{Joined, found, undecodable, outOfOrder, otherShard, no_room, number_of, sound, owned, all_hits, join_answers}
use Rattle.spec_join.specs.Answers.{answers_in, hits_bytes}
use Rattle.calls_join.specs.View.{answers_at, Stand}
use Rattle.calls_join.specs.declared.Refusal.{Refusal}
use Rattle.calls_join.specs.declared.Refusal.TheVariants.{Undecodable, NoRoom, OutOfOrder, OtherShard}

-- how many hits a lent output holds
abbrev pub room_of : List ℕ → ℕ
room_of out = length out / 12

-- the answer in a lent output: what lies behind it stays, and beside a refusal nothing changes
abbrev pub leaves : List ℕ → Joined → List ℕ
leaves out (found l) = sets out 0 (hits_bytes l)
leaves out undecodable = out
leaves out outOfOrder = out
leaves out otherShard = out
leaves out no_room = out

-- as the call in Rattle tells it
abbrev pub told : Joined → Result ℕ Refusal
told (found l) = Ok (length l)
told undecodable = Err Undecodable
told outOfOrder = Err OutOfOrder
told otherShard = Err OtherShard
told no_room = Err NoRoom

-- the number of each refusal
abbrev pub code_of : Refusal → ℕ
code_of Undecodable = 21
code_of OutOfOrder = 28
code_of OtherShard = 29
code_of NoRoom = 23

pub record Joins (shards k : ℕ) (s out out' : List ℕ) (r : Result ℕ Refusal) : Type 0 where
  pub answer : r ≡ told (join_answers shards k (room_of out) (answers_in s))
  pub bytes : out' ≡ leaves out (join_answers shards k (room_of out) (answers_in s))

-- ---- for hosts, with the count in a buffer of its own: 8 bytes, and 23 where they are not lent
abbrev pub with_answer : List ℕ → Joined → Joined
with_answer answer (found l) = cond (leb 8 (length answer)) (found l) no_room
with_answer answer undecodable = undecodable
with_answer answer outOfOrder = outOfOrder
with_answer answer otherShard = otherShard
with_answer answer no_room = no_room

abbrev pub counted : List ℕ → Joined → List ℕ
counted answer (found l) = sets answer 0 (bytes_of 8 (length l))
counted answer undecodable = answer
counted answer outOfOrder = answer
counted answer otherShard = answer
counted answer no_room = answer

pub record JoinsFor (shards k : ℕ) (s hits answer hits' answer' : List ℕ) (r : ℕ) : Type 0 where
  pub number : r ≡ number_of (with_answer answer (join_answers shards k (room_of hits) (answers_in s)))
  pub found-bytes : hits' ≡ leaves hits (with_answer answer (join_answers shards k (room_of hits) (answers_in s)))
  pub count-bytes : answer' ≡ counted answer (with_answer answer (join_answers shards k (room_of hits) (answers_in s)))

-- ---- what comes before joining
-- the answers pass 21, 28 and 29: n of them, and m hits to be answered
pub record Passed (shards k : ℕ) (s : List ℕ) (n m : ℕ) : Type 0 where
  pub stand : Stand s n 0
  pub sounds : sound (answers_at s n 0) ≡ true
  pub owns : owned shards (answers_at s n 0) ≡ true
  pub asked : m ≡ min k (length (all_hits (answers_at s n 0)))

-- each refusal whatever the room, which is not looked at
abbrev pub Checks : (shards k : ℕ) → List ℕ → Result (ℕ × ℕ) Refusal → Type 0
Checks shards k s (Ok p) = Passed shards k s p.0 p.1
Checks shards k s (Err NoRoom) = ⊥
Checks shards k s (Err Undecodable) = (room : ℕ) → join_answers shards k room (answers_in s) ≡ undecodable
Checks shards k s (Err OutOfOrder) = (room : ℕ) → join_answers shards k room (answers_in s) ≡ outOfOrder
Checks shards k s (Err OtherShard) = (room : ℕ) → join_answers shards k room (answers_in s) ≡ otherShard
