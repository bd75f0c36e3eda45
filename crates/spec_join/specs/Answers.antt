-- Paper 02, 2.2: the answers as bytes, an operand of the call (docs/LAYOUT.md). Each is the shard, a count of at most 1,024 and the hits as a search
-- leaves them, twelve bytes each. They follow one another to the end. Definitions only.
use Rattle.std.specs.Prelude.{ℕ, zero, suc, cond, List, [], ◌∷◌, map, eqb, length}
use Rattle.std.proofs.Math.Option.{Option, none, some}
use Rattle.spec.specs.Layout.Format.{Format, word, many, ◌▸◌, Value, encode, concat_map, fits, next, value}
use Rattle.spec_join.specs.Join.{Hit, Answer}

-- an id, u64, and the bits of its distance, u32
abbrev pub hit_f : Format
hit_f = word 8 ▸ word 4

-- a shard, u32, and its hits, counted by a u16: 'a log has no more' than 1,024
abbrev pub answer_f : Format
answer_f = word 4 ▸ many 2 0 1024 hit_f

abbrev pub hit_of : Value hit_f → Hit
hit_of v = record { id = v.0; bits = v.1 }

abbrev pub wire_hit : Hit → Value hit_f
wire_hit h = (h.id, h.bits)

abbrev pub answer_of : Value answer_f → Answer
answer_of v = record { shard = v.0; hits = map hit_of v.1 }

abbrev pub wire_answer : Answer → Value answer_f
wire_answer a = (a.shard, map wire_hit a.hits)

-- the twelve bytes of each hit
abbrev pub hits_bytes : List Hit → List ℕ
hits_bytes l = concat_map (λ (h : Hit). encode hit_f (wire_hit h)) l

-- ---- reading

-- one before the others, if those could be read
abbrev pub and_then : Answer → Option (List Answer) → Option (List Answer)
and_then a none = none
and_then a (some xs) = some (a ∷ xs)

-- at most `most` answers from a position on, up to the end; none if what stands there is no whole answer
unfoldable pub answers_from : (most : ℕ) → List ℕ → ℕ → Option (List Answer)
answers_from zero s at = cond (eqb at (length s)) (some []) none
answers_from (suc most) s at =
    cond (eqb at (length s)) (some [])
    (cond (fits answer_f s at) (and_then (answer_of (value answer_f s at)) (answers_from most s (next answer_f s at))) none)

-- all of them: there are no more than bytes
unfoldable pub answers_in : List ℕ → Option (List Answer)
answers_in s = answers_from (length s) s 0
