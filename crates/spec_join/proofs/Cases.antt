-- Paper 02, 2.2, computed: ties across shards, each refusal and which of two comes first. Of three shards, shard 0 owns the ids 3 and 7, shard 1 owns 2
-- and 4, shard 2 owns 1 and 5. Assumes nothing.
use mathlib.Core.Path.{◌≡◌, refl}
use mathlib.Core.Bool.{true, false, not}
use mathlib.Core.List.{List, [], ◌∷◌}
use mathlib.Core.Option.{some, none}
use Prim.Native.Nat.{ℕ, zero, suc}
use lib.ListN.{length}
use Rattle.spec.specs.Lists.{◌and◌, every, any, rising}
use Rattle.spec.specs.Layout.ShardOf.{shard_of, mixed}
use Rattle.spec.specs.Nearest.Order.{before, class}
use Rattle.spec_join.specs.Join.{Hit, Answer, nearer_hit, in_order, apart, sound, owned, insert_hit, ordered_hits, all_hits, joined, found, undecodable, outOfOrder, otherShard, no_room, join_answers}

abbrev pub at : ℕ → ℕ → Hit
at i b = record { id = i; bits = b }

abbrev pub answer : ℕ → List Hit → Answer
answer s l = record { shard = s; hits = l }

-- 1.0, 2.0, 3.0, and a NaN's pattern
abbrev pub near : ℕ
near = 0x3F80_0000

abbrev pub mid : ℕ
mid = 0x4000_0000

abbrev pub far : ℕ
far = 0x4040_0000

abbrev no_number : ℕ
no_number = 0x7FC0_0000

-- level distances stand by id, not by shard
pub ties : join_answers 3 3 3 (some (answer 0 (at 3 near ∷ at 7 mid ∷ []) ∷ answer 1 (at 2 near ∷ at 4 far ∷ []) ∷ answer 2 (at 1 mid ∷ []) ∷ []))
    ≡ found (at 2 near ∷ at 3 near ∷ at 1 mid ∷ [])
unfolding join_answers sound owned joined ordered_hits insert_hit all_hits in_order apart nearer_hit every any rising ◌and◌ before class shard_of mixed
ties = refl

-- −0 stands before +0, and a NaN has its place behind all numbers
pub zeros : join_answers 3 9 9 (some (answer 0 (at 7 0 ∷ at 3 no_number ∷ []) ∷ answer 1 (at 4 0x8000_0000 ∷ at 2 0 ∷ []) ∷ []))
    ≡ found (at 4 0x8000_0000 ∷ at 2 0 ∷ at 7 0 ∷ at 3 no_number ∷ [])
unfolding join_answers sound owned joined ordered_hits insert_hit all_hits in_order apart nearer_hit every any rising ◌and◌ before class shard_of mixed
zeros = refl

pub zeros-apart : join_answers 3 9 9 (some (answer 1 (at 2 0 ∷ at 4 0x8000_0000 ∷ []) ∷ [])) ≡ outOfOrder
unfolding join_answers sound owned joined ordered_hits insert_hit all_hits in_order apart nearer_hit every any rising ◌and◌ before class shard_of mixed
zeros-apart = refl

-- an id twice, at two distances with another between, behind the k-th
pub repeated : join_answers 3 1 9 (some (answer 0 (at 3 near ∷ at 7 mid ∷ at 3 far ∷ []) ∷ [])) ≡ outOfOrder
unfolding join_answers sound owned joined ordered_hits insert_hit all_hits in_order apart nearer_hit every any rising ◌and◌ before class shard_of mixed
repeated = refl

-- one shard twice
pub equal_numbers : join_answers 3 9 9 (some (answer 1 (at 2 near ∷ []) ∷ answer 1 (at 4 mid ∷ []) ∷ [])) ≡ outOfOrder
unfolding join_answers sound owned joined ordered_hits insert_hit all_hits in_order apart nearer_hit every any rising ◌and◌ before class shard_of mixed
equal_numbers = refl

-- 28 in the second answer comes before 29 in the first
pub order_first : join_answers 3 9 9 (some (answer 0 (at 1 near ∷ []) ∷ answer 1 (at 2 mid ∷ at 4 near ∷ []) ∷ [])) ≡ outOfOrder
unfolding join_answers sound owned joined ordered_hits insert_hit all_hits in_order apart nearer_hit every any rising ◌and◌ before class shard_of mixed
order_first = refl

-- 29 behind the k-th; for an id in two answers; for a shard that the collection does not have; and before 23
pub wrong_shard : join_answers 3 1 0 (some (answer 0 (at 3 near ∷ at 1 mid ∷ []) ∷ [])) ≡ otherShard
unfolding join_answers sound owned joined ordered_hits insert_hit all_hits in_order apart nearer_hit every any rising ◌and◌ before class shard_of mixed
wrong_shard = refl

pub in_two : join_answers 3 9 9 (some (answer 0 (at 3 near ∷ []) ∷ answer 1 (at 3 near ∷ []) ∷ [])) ≡ otherShard
unfolding join_answers sound owned joined ordered_hits insert_hit all_hits in_order apart nearer_hit every any rising ◌and◌ before class shard_of mixed
in_two = refl

pub no_such_shard : join_answers 3 9 9 (some (answer 3 (at 3 near ∷ []) ∷ [])) ≡ otherShard
unfolding join_answers sound owned joined ordered_hits insert_hit all_hits in_order apart nearer_hit every any rising ◌and◌ before class shard_of mixed
no_such_shard = refl

pub no_such_shard_empty : join_answers 3 9 9 (some (answer 0 (at 3 near ∷ []) ∷ answer 9 [] ∷ [])) ≡ found (at 3 near ∷ [])
unfolding join_answers sound owned joined ordered_hits insert_hit all_hits in_order apart nearer_hit every any rising ◌and◌ before class shard_of mixed
no_such_shard_empty = refl

-- no shards count as one
pub of_none : join_answers 0 9 9 (some (answer 0 (at 3 near ∷ at 1 mid ∷ []) ∷ [])) ≡ found (at 3 near ∷ at 1 mid ∷ [])
unfolding join_answers sound owned joined ordered_hits insert_hit all_hits in_order apart nearer_hit every any rising ◌and◌ before class shard_of mixed
of_none = refl

-- k = 0 is checked like any other
pub none-asked : join_answers 3 0 0 (some (answer 0 (at 1 near ∷ []) ∷ [])) ≡ otherShard
unfolding join_answers sound owned joined ordered_hits insert_hit all_hits in_order apart nearer_hit every any rising ◌and◌ before class shard_of mixed
none-asked = refl

-- room for min(k, all) is enough, and one less is 23
pub room_enough : join_answers 3 1 1 (some (answer 0 (at 3 near ∷ at 7 mid ∷ []) ∷ [])) ≡ found (at 3 near ∷ [])
unfolding join_answers sound owned joined ordered_hits insert_hit all_hits in_order apart nearer_hit every any rising ◌and◌ before class shard_of mixed
room_enough = refl

pub room-short : join_answers 3 9 1 (some (answer 0 (at 3 near ∷ at 7 mid ∷ []) ∷ [])) ≡ no_room
unfolding join_answers sound owned joined ordered_hits insert_hit all_hits in_order apart nearer_hit every any rising ◌and◌ before class shard_of mixed
room-short = refl

-- n empty answers, of the shards from s on: 16 join, a 17th does not
abbrev empties : ℕ → ℕ → List Answer
empties zero s = []
empties (suc n) s = answer s [] ∷ empties n (suc s)

pub sixteen : join_answers 16 9 9 (some (empties 16 0)) ≡ found []
unfolding join_answers sound owned joined ordered_hits insert_hit all_hits in_order apart nearer_hit every any rising ◌and◌ before class shard_of mixed
sixteen = refl

pub seventeen : join_answers 17 9 9 (some (empties 17 0)) ≡ outOfOrder
unfolding join_answers sound owned joined ordered_hits insert_hit all_hits in_order apart nearer_hit every any rising ◌and◌ before class shard_of mixed
seventeen = refl
