-- Paper 02, 2.8: 'one for each of at most 32 callers'. Caller 0 always has its count and is one of the 32; another has one from its first call past 21,
-- 22 and 24 on. Definitions only.
use Prim.Native.Nat.{ℕ, zero, suc}
use mathlib.Core.Bool.{Bool, true, false, cond, not}
use mathlib.Core.List.{List, [], ◌∷◌}
use mathlib.Core.Option.{Option, none, some}
use lib.Dec.{eqb, leb, ltb}
use lib.ListN.{length}
use Rattle.spec.specs.Lists.{◌and◌, ◌or◌, every, find, rising, put, is_some}
use Rattle.spec.specs.Node.Refused.{counted}

-- 'at most 32 callers'; caller 0 is one of them
abbrev pub max_others : ℕ
max_others = 31

-- a caller other than 0, with its count
pub record Row : Type 0 where
  pub caller : ℕ
  pub refused : ℕ

-- caller 0's count, and the others by rising caller
pub record Counts : Type 0 where
  pub zeros : ℕ
  pub rows : List Row

-- none has called
abbrev pub fresh : Counts
fresh = record { zeros = 0; rows = [] }

abbrev pub row : (caller refused : ℕ) → Row
row c n = record { caller = c; refused = n }

abbrev pub row_below : Row → Row → Bool
row_below a b = ltb a.caller b.caller

abbrev pub is_caller : ℕ → Row → Bool
is_caller c r = eqb r.caller c

-- caller 0 has its count apart
abbrev pub is_other : Row → Bool
is_other r = ltb 0 r.caller

-- 24 for the counts themselves: a count over its limit, or callers that do not rise from 0
unfoldable pub well_formed_counts : Counts → Bool
well_formed_counts c = leb (length c.rows) max_others and every is_other c.rows and rising row_below c.rows

-- ---- places

abbrev pub refused_in : Option Row → Option ℕ
refused_in none = none
refused_in (some r) = some r.refused

-- a caller's count, none without a place
unfoldable pub count_of : Counts → (caller : ℕ) → Option ℕ
count_of c zero = some c.zeros
count_of c (suc w) = refused_in (find (is_caller (suc w)) c.rows)

abbrev pub has_place : Counts → (caller : ℕ) → Bool
has_place c who = is_some (count_of c who)

-- a place, or room for one
unfoldable pub room_for : Counts → (caller : ℕ) → Bool
room_for c who = has_place c who or ltb (length c.rows) max_others

-- a caller's count becomes n, in its place or a new one
unfoldable pub set_count : Counts → (caller n : ℕ) → Counts
set_count c zero n = record { zeros = n; rows = c.rows }
set_count c (suc w) n = record { zeros = c.zeros; rows = put row_below (row (suc w) n) c.rows }

-- ---- what a call makes of them

-- 'take a place at their first call'
abbrev pub placed_at : Counts → (caller : ℕ) → Option ℕ → Counts
placed_at c who none = set_count c who 0
placed_at c who (some n) = c

unfoldable pub placed : Counts → (caller : ℕ) → Counts
placed c who = placed_at c who (count_of c who)

-- one more, up to the largest u32; nothing without a place
abbrev pub moved_at : Counts → (caller : ℕ) → Option ℕ → Counts
moved_at c who none = c
moved_at c who (some n) = set_count c who (counted n true)

unfoldable pub moved_for : Counts → (caller : ℕ) → Counts
moved_for c who = moved_at c who (count_of c who)

-- what a call does to the counts: 21; 22 and 24; 32; accepted; refused with 17 to 20 or 23
pub data Effect : Type 0 where
  for_zero : Effect
  if_placed : Effect
  nothing : Effect
  places : Effect
  counts : Effect

-- by the number that the call answers, 0 if it is accepted
unfoldable pub effect_of : ℕ → Effect
effect_of n =
    cond (eqb n 0) places
    (cond (eqb n 21) for_zero
    (cond (eqb n 22 or eqb n 24) if_placed
    (cond (eqb n 32) nothing counts)))

unfoldable pub after : Counts → (caller : ℕ) → Effect → Counts
-- 'a call answered 21 is counted for 0', whoever is named
after c who for_zero = moved_for c 0
-- '22 or 24 to a caller without a place .. moves no count'
after c who if_placed = moved_for c who
-- '32 ..; no count moves'
after c who nothing = c
-- 'at their first call past 21, 22 and 24'
after c who places = placed c who
-- 'also one then refused with 17 to 20 or 23'
after c who counts = moved_for (placed c who) who

-- of counts that are malformed: 21 is counted for 0, 22 for 0 if 0 called, and 24 for the counts themselves moves none
unfoldable pub after_malformed : Counts → (caller : ℕ) → Effect → (number : ℕ) → Counts
after_malformed c who for_zero n = moved_for c 0
after_malformed c who if_placed n = cond (eqb n 22 and eqb who 0) (moved_for c 0) c
after_malformed c who nothing n = c
after_malformed c who places n = c
after_malformed c who counts n = c

-- the counts after a call of `who` that was answered the number n; of bytes that do not decode `who` is free
unfoldable pub counts_after : Counts → (caller number : ℕ) → Counts
counts_after c who n = cond (well_formed_counts c) (after c who (effect_of n)) (after_malformed c who (effect_of n) n)
