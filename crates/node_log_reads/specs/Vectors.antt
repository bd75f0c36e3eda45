-- What a replica is asked of its vectors (paper 01, 'The log', 'Who is turned down'; shard.rs, vector, len, is_empty). Definitions only.
use Rattle.std.specs.Prelude.{ℕ, ◌≡◌, Bool, true, not, cond, List, [], eqb, Float, length, Result, Ok, Err, Some, None}
use Rattle.std.specs.Prelude as std
use Rattle.std.proofs.Math.Option.{Option, none, some}
use Rattle.spec.specs.Lists.{find}
use Rattle.spec.specs.declared.Offset.{Offset}
use Rattle.spec.specs.Nearest.Search.{Vector}
use Rattle.spec.specs.Log.{Log, Vectors, play, lookup}
use Rattle.log_store.specs.Table.{Row, play_rows}
use Rattle.log_store.specs.Store.{Store, store_log}
use Rattle.log_calls.specs.Fits.{lent_fits}
use Rattle.node_log_reads.specs.declared.Refusal.{Refusal}
use Rattle.node_log_reads.specs.declared.Refusal.TheVariants.{Malformed}

-- ---- vector

abbrev pub has_id : ℕ → Vector → Bool
has_id id v = eqb v.id id

abbrev pub components_of : Option Vector → Option (List Float)
components_of none = none
components_of (some v) = some v.components

-- shard.rs, vector: the components of the vector that an id has, if it has one
unfoldable pub vector_in : ℕ → Vectors → Option (List Float)
vector_in id vs = components_of (find (has_id id) vs)

-- the offset of the entry that set an id's vector, if it has one, or why there is no answer
abbrev pub Standing : Type 0
Standing = Result (std.Option Offset) Refusal

abbrev pub row_of_id : ℕ → Row → Bool
row_of_id id r = eqb r.id id

abbrev pub standing_of : Option Row → Standing
standing_of none = Ok None
standing_of (some r) = Ok (Some (record { 0 = r.offset }))

-- 24; else the offset that the log played gives the id
unfoldable pub standing_lent : Store → ℕ → Standing
standing_lent s id =
    cond (not (lent_fits s)) (Err Malformed) (standing_of (find (row_of_id id) (play_rows (store_log s))))

-- what a lookup at the answered offset hands back
abbrev pub shown_at : Log → Standing → Option (List Float)
shown_at l (Ok (Some o)) = some (lookup l o.0)
shown_at l (Ok None) = none
shown_at l (Err x) = none

-- the answer; and, of a store that is not refused, that the lookup there is the vector that the id has by the log played
pub record Stands (s : Store) (id : ℕ) (r : Standing) : Type 0 where
  pub answer : r ≡ standing_lent s id
  pub vector : lent_fits s ≡ true → shown_at (store_log s) r ≡ vector_in id (play (store_log s))

abbrev pub or_empty : Option (List Float) → List Float
or_empty none = []
or_empty (some xs) = xs

-- the components of the vector that the id has by the log played; none where it has no vector, or the store is malformed
unfoldable pub vector_lent : Store → ℕ → List Float
vector_lent s id = cond (not (lent_fits s)) [] (or_empty (vector_in id (play (store_log s))))

-- ---- len, is_empty

-- shard.rs, len: the number of vectors held, or 24
unfoldable pub len_lent : Store → Result ℕ Refusal
len_lent s = cond (not (lent_fits s)) (Err Malformed) (Ok (length (play (store_log s))))

-- shard.rs, is_empty: whether none is held, or 24
unfoldable pub empty_lent : Store → Result Bool Refusal
empty_lent s =
    cond (not (lent_fits s)) (Err Malformed) (Ok (eqb (length (play (store_log s))) 0))
