-- The lent store of one shard, read as `spec`'s replica, and when it is malformed (24). Definitions only.
use Rattle.std.specs.Prelude.{ℕ, zero, suc, ◌+◌, ◌-◌, ◌≤◌, ◌≡◌, Bool, true, false, cond, List, [], ◌∷◌, eqb, leb, length, get_or, drop}
use Rattle.spec.specs.Lists.{◌and◌, every}
use Rattle.spec.specs.Limits.{max_components, max_entries, min_floats}
use Rattle.std.proofs.Math.Option.{Option, none, some}
use Rattle.spec.specs.Log.{Entry, Log, ShardReplica, push, Stored, through, gap, stale, store}
use Rattle.spec.specs.Node.Client.{overfull}
use Rattle.log_store.specs.declared.replica.Outcome.{Outcome}
use Rattle.log_store.specs.declared.replica.Outcome.TheVariants.{Through, Gap, Stale, Full}
use Rattle.spec.specs.Nearest.Order.{bits_in_domain}
use Rattle.spec.specs.Node.WellFormed.{numbered_from, well_formed_entry}
use Rattle.spec.specs.declared.Metric.{Metric}
use Rattle.log_store.specs.View.{Columns, log_of, Inscribed, written_all}
use Rattle.log_store.specs.Table.{Row, rows_of, play_rows, vectors_of}

-- the columns of the log, the two of the table, and how much of them is used
pub record Store : Type 0 where
  pub columns : Columns
  pub keys : List ℕ
  pub places : List ℕ
  pub count : ℕ
  pub stored : ℕ

abbrev pub lent : Columns → (keys places : List ℕ) → (count stored : ℕ) → Store
lent c ks ps count stored = record { columns = c; keys = ks; places = ps; count = count; stored = stored }

abbrev pub store_log : Store → Log
store_log s = log_of s.columns s.count

abbrev pub store_rows : Store → List Row
store_rows s = rows_of s.keys s.places s.stored

-- shard.rs, ShardReplica: the vectors are those of the entries that the rows name
unfoldable pub replica_in : (epoch : ℕ) → Metric → Store → ShardReplica
replica_in e m s = record { epoch = e; metric = m; log = store_log s; vectors = vectors_of (store_log s) (store_rows s) }

-- ---- 'Who is turned down', 24, of a store

-- p of 0, 1, .. n − 1
unfoldable pub every_below : (ℕ → Bool) → ℕ → Bool
every_below p zero = true
every_below p (suc n) = every_below p n and p n

-- 'an unlisted code', 'a count over its limit', 'outside the used floats': an Upsert of at most 32 floats, or a Delete
abbrev pub code_fits : Columns → ℕ → Bool
code_fits c i = cond (eqb (get_or c.codes i 0) 1) (leb (get_or c.lengths i 0) max_components) (eqb (get_or c.codes i 0) 2)

unfoldable pub same_rows : List Row → List Row → Bool
same_rows [] [] = true
same_rows [] (y ∷ ys) = false
same_rows (x ∷ xs) [] = false
same_rows (x ∷ xs) (y ∷ ys) = eqb x.id y.id and (eqb x.offset y.offset and same_rows xs ys)

-- each clause of the paper that speaks of a store, in its order; the rows name their entries, so that a table that
-- differs from the log played is one whose rows do
unfoldable pub well_formed_store : Store → Bool
well_formed_store s =
    leb s.count max_entries
    and (leb s.stored max_entries
    and (numbered_from 1 (store_log s)
    and (every_below (code_fits s.columns) s.count
    and (every well_formed_entry (store_log s)
    and (same_rows (store_rows s) (play_rows (store_log s))
    and leb min_floats (length s.columns.floats))))))

-- columns of 1,024 places each: what a lent array is by its type
pub record Sized (s : Store) : Type 0 where
  pub epochs : length s.columns.epochs ≡ 1024
  pub offsets : length s.columns.offsets ≡ 1024
  pub ids : length s.columns.ids ≡ 1024
  pub codes : length s.columns.codes ≡ 1024
  pub lengths : length s.columns.lengths ≡ 1024
  pub keys : length s.keys ≡ 1024
  pub places : length s.places ≡ 1024

-- an operation that may be stored: an Upsert of 1 to 32 components in the domain, or a Delete without any
pub record Storable (code : ℕ) (bits : List ℕ) : Type 0 where
  pub listed : cond (eqb code 1) (leb 1 (length bits)) (eqb code 2) ≡ true
  pub short : length bits ≤ max_components
  pub domain : every bits_in_domain bits ≡ true

-- what a change of the log leaves of every place. Of the log's columns only new entries are written, behind those that were there; of the
-- table's two columns the places past the log's length stay, and those between its rows and there are free. A log that is as long as it
-- was leaves every place as it was
pub record Spares (s t : Store) : Type 0 where
  pub entries : List Inscribed
  pub grown : t.count - s.count ≡ length entries
  pub columns : t.columns ≡ written_all s.columns s.count entries
  pub keys : drop t.count t.keys ≡ drop t.count s.keys
  pub places : drop t.count t.places ≡ drop t.count s.places
  pub same : t.count ≡ s.count → t ≡ s

-- a store after one entry more: `spec`'s replica with that entry pushed, well formed still
pub record Pushed (s t : Store) (e : Entry) : Type 0 where
  pub count : t.count ≡ s.count + 1
  pub replica : (epoch : ℕ) (m : Metric) → replica_in epoch m t ≡ push (replica_in epoch m s) e
  pub well : well_formed_store t ≡ true
  pub sized : Sized t
  pub spares : Spares s t

-- what became of an entry that arrived, in `spec`'s words; Full is 23, which nothing of the replica tells
abbrev pub answer_of : Outcome → Option Stored
answer_of (Through o) = some (through o.0)
answer_of (Gap o) = some (gap o.0)
answer_of (Stale e) = some (stale e.0)
answer_of Full = none

-- a store after an entry arrived: `spec`'s answer and replica, or 23 with nothing stored if the log would be overfull
pub record Arrived (own epoch : ℕ) (e : Entry) (s t : Store) (a : Outcome) : Type 0 where
  pub answer : (m : Metric) → let q = store (replica_in own m s) epoch e in
      answer_of a ≡ cond (overfull q.replica) none (some q.answer)
  pub replica : (m : Metric) → let q = store (replica_in own m s) epoch e in
      replica_in own m t ≡ cond (overfull q.replica) (replica_in own m s) q.replica
  pub well : well_formed_store t ≡ true
  pub sized : Sized t
  pub spares : Spares s t
