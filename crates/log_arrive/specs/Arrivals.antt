-- What an arriving message leaves in a lent store: `spec`'s answer and replica, and a store that is well formed still. Definitions only.
use Rattle.std.specs.Prelude.{ℕ, ◌≤◌, ◌≡◌, Bool, true, false, List, length, take}
use Rattle.spec.specs.Limits.{max_components, max_entries}
use Rattle.spec.specs.Refusals.{no_room}
use Rattle.spec.specs.Log.{Entry, last_offset, store_all}
use Rattle.spec.specs.Layout.Message.{reply_stored, reply_gap, reply_stale}
use Rattle.spec.specs.Layout.Parts.{WireOp}
use Rattle.spec.specs.Node.Wire.{op_in_domain, stored_op}
use Rattle.spec.specs.Node.Held.{Held}
use Rattle.spec.specs.Node.Shards.{gives, with_replica}
use Rattle.spec.specs.Node.Backup.{BackupAnswer, replied, backup_refused, copy_held}
use Rattle.spec.specs.declared.Metric.{Metric}
use Rattle.log_store.specs.View.{op_from}
use Rattle.log_store.specs.Store.{Store, Sized, Storable, Spares, Arrived, replica_in, well_formed_store}
use Rattle.log_store.specs.declared.replica.Outcome.{Outcome}
use Rattle.log_store.specs.declared.replica.Outcome.TheVariants.{Through, Gap, Stale, Full}
use Rattle.log_arrive.specs.declared.ops.OpRead.{OpRead}

-- an operation as a store takes it: code, id, and the first n of a column of bits
pub record Reads (w : WireOp) (r : OpRead) (bits : List ℕ) : Type 0 where
  pub op : op_from r.code r.id (take r.n bits) ≡ stored_op w
  pub storable : op_in_domain w ≡ true → Storable r.code (take r.n bits)
  pub short : r.n ≤ max_components
  pub column : length bits ≡ max_components

-- 'Who is turned down': StaleEpoch and 23
abbrev pub turned_down : Outcome → Bool
turned_down (Through o) = false
turned_down (Gap o) = false
turned_down (Stale e) = true
turned_down Full = true

-- an entry that arrived; turned down, it leaves every place of the lent store as it was, the free ones too
pub record Arrives (own epoch : ℕ) (e : Entry) (s t : Store) (a : Outcome) : Type 0 where
  pub arrived : Arrived own epoch e s t a
  pub kept : turned_down a ≡ true → t ≡ s

-- a log with room for a batch, stored at the own epoch
abbrev pub HasRoom : (own : ℕ) → List Entry → Store → Type 0
HasRoom own es s = (m : Metric) → last_offset (store_all (replica_in own m s) own es) ≤ max_entries

-- a batch stored whole at the own epoch
pub record StoresAll (own : ℕ) (es : List Entry) (s t : Store) : Type 0 where
  pub replica : (m : Metric) → replica_in own m t ≡ store_all (replica_in own m s) own es
  pub well : well_formed_store t ≡ true
  pub sized : Sized t
  pub spares : Spares s t

-- the answer to a CopyShard or a Replicate: 30, 31, 32, or 23
abbrev pub answer_as : Outcome → BackupAnswer
answer_as (Through o) = replied (reply_stored o.0)
answer_as (Gap o) = replied (reply_gap o.0)
answer_as (Stale e) = replied (reply_stale e.0)
answer_as Full = backup_refused no_room

-- 'Who is turned down', CopyShard, whatever shard has this replica
pub record Copies (own epoch : ℕ) (es : List Entry) (s t : Store) (a : Outcome) : Type 0 where
  pub same : (m : Metric) (h : Held) → h.replica ≡ replica_in own m s
      → gives (answer_as a) (with_replica h (replica_in own m t)) ≡ copy_held epoch es h
  pub kept : turned_down a ≡ true → t ≡ s
  pub well : well_formed_store t ≡ true
  pub sized : Sized t
  pub spares : Spares s t
