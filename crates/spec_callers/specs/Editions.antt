-- Paper 02, 2.8: the second edition of the layout. 28 and 29 are Write and Search with a caller behind the code; 23 and 24 remain, and mean caller 0,
-- whom 28 and 29 may not name. Messages between nodes, requests and replies are those of the first edition (`spec` Layout). Definitions only.
use Prim.Native.Nat.{ℕ, zero, suc}
use mathlib.Core.Bool.{Bool, true, false, cond, not}
use mathlib.Core.Logic.{◌⊎◌, inl, inr}
use mathlib.Core.List.{List, [], ◌∷◌}
use mathlib.Core.Option.{Option, none, some}
use lib.Dec.{eqb, leb}
use lib.ListN.{length, get_or, drop}
use Rattle.spec.specs.Lists.{◌and◌, ◌or◌}
use Rattle.spec.specs.Layout.Format.{Format, code, ◌▸◌, either, Value, encode, value, whole, number_at}
use Rattle.spec.specs.Layout.Parts.{u64, u32, key_f, op_f, vector_f, key_of, key_value, op_of, op_value, whenever}
use Rattle.spec.specs.Layout.Message.{Write, Query}
use Rattle.spec.specs.Layout.Writable.{U64, GoodWrite, GoodQuery}

-- ---- what both editions carry: who, and a message

pub record CalledWrite : Type 0 where
  pub caller : ℕ
  pub write : Write

pub record CalledSearch : Type 0 where
  pub caller : ℕ
  pub query : Query

-- a caller is a u64
abbrev pub GoodCalledWrite : CalledWrite → Type 0
GoodCalledWrite m = U64 m.caller × GoodWrite m.write

abbrev pub GoodCalledSearch : CalledSearch → Type 0
GoodCalledSearch m = U64 m.caller × GoodQuery m.query

-- ---- 'a u64 caller placed after the code'

-- of a message's operands: 23 and 24 without a caller, 28 and 29 with one
abbrev pub called_f : (first second : ℕ) → Format → Format
called_f first second f = either first f (code second ▸ u64 ▸ f)

-- 'mean caller 0'
abbrev pub caller_of : (first second : ℕ) (f : Format) → Value (called_f first second f) → ℕ
caller_of a b f (inl v) = 0
caller_of a b f (inr v) = v.1.0

abbrev pub rest_of : (first second : ℕ) (f : Format) → Value (called_f first second f) → Value f
rest_of a b f (inl v) = v
rest_of a b f (inr v) = v.1.1

-- 'whom 28 and 29 may not name'
abbrev pub is_named : (first second : ℕ) (f : Format) → Value (called_f first second f) → Bool
is_named a b f (inl v) = true
is_named a b f (inr v) = not (eqb v.1.0 0)

-- each caller has one form: 0 the first edition's, any other the second's
abbrev pub called_value : (first second : ℕ) (f : Format) → (caller : ℕ) → Value f → Value (called_f first second f)
called_value a b f zero v = inl v
called_value a b f (suc c) v = inr (tt, (suc c, v))

-- ---- 23 and 28: key epoch op

abbrev pub write_operands_f : Format
write_operands_f = key_f ▸ u64 ▸ op_f

abbrev pub called_write_f : Format
called_write_f = called_f 0x23 0x28 write_operands_f

abbrev pub write_in : Value write_operands_f → Write
write_in v = record { key = key_of v.0; epoch = v.1.0; op = op_of v.1.1 }

abbrev pub write_as : Write → Value write_operands_f
write_as m = (key_value m.key, (m.epoch, op_value m.op))

abbrev pub called_write_of : Value called_write_f → CalledWrite
called_write_of v = record { caller = caller_of 0x23 0x28 write_operands_f v; write = write_in (rest_of 0x23 0x28 write_operands_f v) }

abbrev pub called_write_value : CalledWrite → Value called_write_f
called_write_value m = called_value 0x23 0x28 write_operands_f m.caller (write_as m.write)

-- 23 and 28: what the writer writes
unfoldable pub encode_called_write : CalledWrite → List ℕ
encode_called_write m = encode called_write_f (called_write_value m)

-- 23 and 28: only what the writer writes is read; bytes left over refuse
unfoldable pub decode_called_write : List ℕ → Option CalledWrite
decode_called_write s =
    let v = value called_write_f s 0 in
    whenever (whole called_write_f s and is_named 0x23 0x28 write_operands_f v) (called_write_of v)

-- ---- 24 and 29: key epoch, k u32, vector

abbrev pub search_operands_f : Format
search_operands_f = key_f ▸ u64 ▸ u32 ▸ vector_f

abbrev pub called_search_f : Format
called_search_f = called_f 0x24 0x29 search_operands_f

abbrev pub query_in : Value search_operands_f → Query
query_in v = record { key = key_of v.0; epoch = v.1.0; k = v.1.1.0; bits = v.1.1.1 }

abbrev pub query_as : Query → Value search_operands_f
query_as m = (key_value m.key, (m.epoch, (m.k, m.bits)))

abbrev pub called_search_of : Value called_search_f → CalledSearch
called_search_of v = record { caller = caller_of 0x24 0x29 search_operands_f v; query = query_in (rest_of 0x24 0x29 search_operands_f v) }

abbrev pub called_search_value : CalledSearch → Value called_search_f
called_search_value m = called_value 0x24 0x29 search_operands_f m.caller (query_as m.query)

-- 24 and 29: what the writer writes
unfoldable pub encode_called_search : CalledSearch → List ℕ
encode_called_search m = encode called_search_f (called_search_value m)

-- 24 and 29: only what the writer writes is read; bytes left over refuse
unfoldable pub decode_called_search : List ℕ → Option CalledSearch
decode_called_search s =
    let v = value called_search_f s 0 in
    whenever (whole called_search_f s and is_named 0x24 0x29 search_operands_f v) (called_search_of v)

-- ---- the caller taken off

-- bytes that begin with a code of the second edition
unfoldable pub is_second : List ℕ → Bool
is_second s = eqb (get_or s 0 0) 0x28 or eqb (get_or s 0 0) 0x29

-- the caller behind the code, other than 0
abbrev pub caller_behind : List ℕ → Option ℕ
caller_behind s = whenever (leb 9 (length s) and not (eqb (number_at 8 s 1) 0)) (number_at 8 s 1)

-- who calls: 0 where the bytes begin with no code of the second edition
unfoldable pub caller_in : List ℕ → Option ℕ
caller_in s = cond (is_second s) (caller_behind s) (some 0)

-- the code of the same message without a caller
abbrev pub first_code : ℕ → ℕ
first_code c = cond (eqb c 0x28) 0x23 0x24

-- the message of the first edition that 28 and 29 are with a caller; any other bytes as they are
unfoldable pub plain : List ℕ → List ℕ
plain s = cond (is_second s) (first_code (get_or s 0 0) ∷ drop 9 s) s
