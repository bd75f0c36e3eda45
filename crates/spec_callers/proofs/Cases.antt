-- Messages of the second edition byte by byte, and what lists of calls make of the counts, computed by the checker. Assumes nothing.
use Prim.Native.Nat.{ℕ, zero, suc}
use mathlib.Core.Path.{◌≡◌, refl}
use mathlib.Core.Bool.{Bool, true, false}
use mathlib.Core.List.{List, [], ◌∷◌, ◌++◌, map}
use mathlib.Core.Option.{Option, none, some}
use lib.ListN.{replicate}
use Rattle.spec.specs.Keys.{Key}
use Rattle.spec.specs.Layout.Parts.{wire_delete}
use Rattle.spec.specs.Layout.Message.{Write, Query, encode_write, encode_search}
use Rattle.spec_callers.specs.Editions.{CalledWrite, CalledSearch, encode_called_write, decode_called_write, encode_called_search, decode_called_search, caller_in, plain}
use Rattle.spec_callers.specs.Counts.{Row, Counts, fresh, row, room_for, well_formed_counts, counts_after}
use Rattle.spec_callers.proofs.Opened.{all}

-- ---- one of each

-- key "a~" 3, epoch 7, Delete of id 6
abbrev write : Write
write = record { key = record { collection = 0x61 ∷ 0x7e ∷ []; shard = 3 }; epoch = 7; op = wire_delete 6 }

-- the same key and epoch, k 10, vector (-0.0)
abbrev query : Query
query = record { key = record { collection = 0x61 ∷ 0x7e ∷ []; shard = 3 }; epoch = 7; k = 10; bits = 0x80000000 ∷ [] }

abbrev key : List ℕ
key = 2 ∷ 0x61 ∷ 0x7e ∷ (replicate 30 0 ++ (3 ∷ 0 ∷ 0 ∷ 0 ∷ []))

abbrev seven : List ℕ
seven = 7 ∷ 0 ∷ 0 ∷ 0 ∷ 0 ∷ 0 ∷ 0 ∷ 0 ∷ []

-- 'a u64 caller placed after the code', least significant byte first
abbrev caller : List ℕ
caller = 2 ∷ 1 ∷ 0 ∷ 0 ∷ 0 ∷ 0 ∷ 0 ∷ 0x80 ∷ []

abbrev who : ℕ
who = 0x8000000000000102

pub bytes_28 : encode_called_write (record { caller = who; write = write })
    ≡ 0x28 ∷ (caller ++ (key ++ (seven ++ (2 ∷ 6 ∷ 0 ∷ 0 ∷ 0 ∷ 0 ∷ 0 ∷ 0 ∷ 0 ∷ []))))
unfolding all
bytes_28 = refl

pub bytes_29 : encode_called_search (record { caller = who; query = query })
    ≡ 0x29 ∷ (caller ++ (key ++ (seven ++ (10 ∷ 0 ∷ 0 ∷ 0 ∷ 1 ∷ 0 ∷ 0 ∷ 0 ∷ 0x80 ∷ []))))
unfolding all
bytes_29 = refl

-- 'which mean caller 0'
pub bytes_23 : encode_called_write (record { caller = 0; write = write }) ≡ encode_write write
unfolding all
bytes_23 = refl

pub bytes_24 : encode_called_search (record { caller = 0; query = query }) ≡ encode_search query
unfolding all
bytes_24 = refl

-- ---- what does not decode

abbrev is_read : {A : Type 0} → Option A → Bool
is_read none = false
is_read (some x) = true

-- caller 0 named; a 29 read as Write; a byte too many; and one that is read
pub read-or-not :
    map (λ (s : List ℕ). is_read (decode_called_write s))
    ((0x28 ∷ (replicate 8 0 ++ (key ++ (seven ++ (2 ∷ 6 ∷ 0 ∷ 0 ∷ 0 ∷ 0 ∷ 0 ∷ 0 ∷ 0 ∷ [])))))
    ∷ encode_called_search (record { caller = who; query = query })
    ∷ (encode_called_write (record { caller = who; write = write }) ++ (0 ∷ []))
    ∷ encode_called_write (record { caller = 1; write = write }) ∷ [])
    ≡ false ∷ false ∷ false ∷ true ∷ []
unfolding all
read-or-not = refl

-- ---- calls, one after the other

-- who calls, and what is answered
pub record Call : Type 0 where
  pub caller : ℕ
  pub number : ℕ

abbrev call : (caller number : ℕ) → Call
call c n = record { caller = c; number = n }

abbrev pub calls : Counts → List Call → Counts
calls c [] = c
calls c (x ∷ xs) = calls (counts_after c x.caller x.number) xs

-- accepted: a place at 0; 17 and 23: a place, and one more; 22 and 24: one more with a place, nothing without; 21 for 0; 32 nothing
pub counted : calls fresh
    (call 7 0 ∷ call 5 17 ∷ call 5 22 ∷ call 9 22 ∷ call 9 24 ∷ call 5 21 ∷ call 0 23 ∷ call 7 32 ∷ call 3 23 ∷ call 7 0 ∷ call 0 0 ∷ call 5 24 ∷ [])
    ≡ record { zeros = 2; rows = row 3 1 ∷ row 5 3 ∷ row 7 0 ∷ [] }
unfolding all
counted = refl

-- callers from n down to 1, each accepted
abbrev pub down_from : (n : ℕ) → List Call
down_from zero = []
down_from (suc n) = call (suc n) 0 ∷ down_from n

-- caller 0 and 31 others have places, and there is room for each of them; for a 33rd there is none
pub thirty_two : map (room_for (calls fresh (down_from 31))) (0 ∷ 1 ∷ 31 ∷ 32 ∷ []) ≡ true ∷ true ∷ true ∷ false ∷ []
unfolding all
thirty_two = refl

pub thirty_one : map (room_for (calls fresh (down_from 30))) (0 ∷ 1 ∷ 31 ∷ 32 ∷ []) ≡ true ∷ true ∷ true ∷ true ∷ []
unfolding all
thirty_one = refl

-- a count stops at its largest value
pub stops : calls (record { zeros = 4294967295; rows = row 5 4294967294 ∷ [] }) (call 0 17 ∷ call 5 18 ∷ call 5 19 ∷ [])
    ≡ record { zeros = 4294967295; rows = row 5 4294967295 ∷ [] }
unfolding all
stops = refl

-- malformed: 32 others, callers that do not rise, one twice, 0 among them
abbrev twice : Counts
twice = record { zeros = 9; rows = row 5 1 ∷ row 5 2 ∷ [] }

pub malformed : map well_formed_counts
    (calls fresh (down_from 31) ∷ twice ∷ record { zeros = 0; rows = row 5 1 ∷ row 4 1 ∷ [] } ∷ record { zeros = 0; rows = row 0 1 ∷ [] }
    ∷ record { zeros = 0; rows = replicate 32 (row 1 1) } ∷ [])
    ≡ true ∷ false ∷ false ∷ false ∷ false ∷ []
unfolding all
malformed = refl

-- beside malformed counts: 21 for 0; 22 for 0 if 0 called; 24 nothing
pub beside : map (λ (x : Call). (counts_after twice x.caller x.number).zeros) (call 5 21 ∷ call 5 22 ∷ call 0 22 ∷ call 0 24 ∷ call 5 24 ∷ [])
    ≡ 10 ∷ 9 ∷ 10 ∷ 9 ∷ 9 ∷ []
unfolding all
beside = refl
