-- Paper 02, 2.8: Write and Search of both editions, at a node with counts: 21, 22, 24 of the counts or of the lent state, 32, then paper 01's call.
-- Definitions only.
use Prim.Native.Nat.{ℕ}
use mathlib.Core.Bool.{Bool, true, false, cond, not}
use mathlib.Core.List.{List}
use mathlib.Core.Option.{Option, none, some}
use Rattle.spec.specs.Lists.{◌and◌}
use Rattle.spec.specs.Keys.{Key}
use Rattle.spec.specs.Refusals.{Refusal, undecodable, outside_domain, malformed, number_of}
use Rattle.spec.specs.Node.Held.{Node}
use Rattle.spec.specs.Node.Shards.{Result}
use Rattle.spec.specs.Node.Wire.{patterns_in_domain, op_in_domain, floats_of, stored_op}
use Rattle.spec.specs.Node.Client.{WriteAnswer, accepted, write_refused, on_write, SearchAnswer, found, search_refused, on_search}
use Rattle.spec.specs.Node.Calls.{late_time}
use Rattle.spec_callers.specs.Editions.{CalledWrite, CalledSearch, decode_called_write, decode_called_search}
use Rattle.spec_callers.specs.Counts.{Counts, well_formed_counts, room_for, counts_after}

-- an answer of paper 01, or 32
pub data Answered (A : Type 0) : Type 0 where
  answered : A → Answered A
  beyond : Answered A

-- the answer, the node and the counts after
pub record Ended (A : Type 0) : Type 0 where
  pub answer : Answered A
  pub node : Node
  pub counts : Counts

-- 'a caller beyond the 32 kept'
abbrev pub beyond_number : ℕ
beyond_number = 32

-- ---- the number of an answer, 0 if it is accepted

abbrev pub write_number : WriteAnswer → ℕ
write_number (accepted o) = 0
write_number (write_refused r) = number_of r

abbrev pub search_number : SearchAnswer → ℕ
search_number (found l) = 0
search_number (search_refused r) = number_of r

module _ {A : Type 0} (number : A → ℕ) where
  abbrev pub number_in : Answered A → ℕ
  number_in (answered a) = number a
  number_in beyond = beyond_number

  -- the call of `who` ends with an answer, and is counted
  abbrev pub ends : Counts → (who : ℕ) → Answered A → Node → Ended A
  ends c who a n = record { answer = a; node = n; counts = counts_after c who (number_in a) }

  -- paper 01's call, and its count
  abbrev pub serves : Counts → (who : ℕ) → Result A Node → Ended A
  serves c who r = ends c who (answered r.answer) r.after

-- ---- Write

-- past 21: 22, 24, 32, then the call
abbrev pub write_called : (Key → Bool) → Counts → Node → (now least : ℕ) → Option CalledWrite → Ended WriteAnswer
write_called lent c n now least none = ends write_number c 0 (answered (write_refused undecodable)) n
write_called lent c n now least (some m) =
    let w = m.write in
    cond (not (op_in_domain w.op)) (ends write_number c m.caller (answered (write_refused outside_domain)) n)
    (cond (not (well_formed_counts c and lent w.key)) (ends write_number c m.caller (answered (write_refused malformed)) n)
    (cond (not (room_for c m.caller)) (ends write_number c m.caller beyond n)
    (serves write_number c m.caller (on_write n now least w.key w.epoch (stored_op w.op)))))

-- Write, of bytes of either edition
unfoldable pub write_by : (Key → Bool) → Counts → Node → (now least : ℕ) → List ℕ → Ended WriteAnswer
write_by lent c n now least s =
    cond (late_time now) (ends write_number c 0 (answered (write_refused undecodable)) n) (write_called lent c n now least (decode_called_write s))

-- ---- Search

abbrev pub search_called : (Key → Bool) → Counts → Node → (now room : ℕ) → Option CalledSearch → Ended SearchAnswer
search_called lent c n now room none = ends search_number c 0 (answered (search_refused undecodable)) n
search_called lent c n now room (some m) =
    let q = m.query in
    cond (not (patterns_in_domain q.bits)) (ends search_number c m.caller (answered (search_refused outside_domain)) n)
    (cond (not (well_formed_counts c and lent q.key)) (ends search_number c m.caller (answered (search_refused malformed)) n)
    (cond (not (room_for c m.caller)) (ends search_number c m.caller beyond n)
    (serves search_number c m.caller (on_search n now room q.key q.epoch q.k (floats_of q.bits)))))

unfoldable pub search_by : (Key → Bool) → Counts → Node → (now room : ℕ) → List ℕ → Ended SearchAnswer
search_by lent c n now room s =
    cond (late_time now) (ends search_number c 0 (answered (search_refused undecodable)) n) (search_called lent c n now room (decode_called_search s))
