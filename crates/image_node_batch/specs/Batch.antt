-- What a batch leaves of a store in place: the log and the rows that its bytes are read as, and every byte. Definitions only.
use Rattle.std.specs.Prelude.{ℕ, ◌+◌, ◌*◌, ◌≤◌, ◌<◌, ◌≡◌, Bool, true, false, ◌⊎◌, List, map, length, get_or}
use Rattle.spec.specs.Limits.{max_entries}
use Rattle.spec.specs.Log.{Entry, ShardReplica, last_offset, store_all}
use Rattle.spec.specs.Layout.Format.{Bytes}
use Rattle.spec.specs.Layout.Parts.{WireEntry}
use Rattle.spec.specs.Node.Wire.{stored_entry}
use Rattle.spec.specs.declared.Metric.{Metric}
use Rattle.wire_read.specs.declared.EntryPart.{EntryPart}
use Rattle.log_store.specs.Store.{Store, lent, replica_in}
use Rattle.image_store.specs.Image.{keys_at, store_size, keys_in, places_in, log_at, rows_at, well_formed_image}
use Rattle.image_store.specs.Read.{columns_at}
use Rattle.image_store.specs.Write.{log_put, rows_put}
use Rattle.image_node.specs.Lent.{no_lent_store, stores_size}
use Rattle.image_store_append.specs.Put.{Grown, entry_by}
use Rattle.image_node_batch.specs.declared.Stock.{Stock}

-- how far a log of n entries goes after a batch, stored at its own epoch
abbrev pub Reaches : List WireEntry → (n : ℕ) → (ℕ → Type 0) → Type 0
Reaches es n P = (q : ShardReplica) → last_offset q ≡ n → P (last_offset (store_all q q.epoch (map stored_entry es)))

abbrev pub HoldsAll : List WireEntry → (n : ℕ) → Type 0
HoldsAll es n = Reaches es n (λ k. k ≤ max_entries)

pub record RoomAnswered (es : List WireEntry) (n : ℕ) (r : Bool) : Type 0 where
  pub yes : r ≡ true → HoldsAll es n
  pub over : r ≡ false → Reaches es n (λ k. max_entries < k)

-- the columns that a store's bytes are read as
abbrev pub store_at : List ℕ → (base count stored : ℕ) → Store
store_at s base count stored = lent (columns_at s base count no_lent_store.columns.floats) (keys_in s base) (places_in s base) count stored

-- one entry of a message: appended if it is the next
pub record Steps (s t : List ℕ) (base count stored : ℕ) (m : List ℕ) (e : EntryPart) (r : Stock) : Type 0 where
  pub next : e.offset.0 ≡ count + 1 → (r.count ≡ count + 1) × Grown s t base count (entry_by e.epoch.0 count m e.op) r.stored
  pub other : (e.offset.0 ≡ count + 1 → ⊥) → (r.count ≡ count) × (r.stored ≡ stored) × (t ≡ s)

-- the bytes t hold the batch: they pass the test, are read as the replica that the definition stores, and what lies outside the table is s
-- with the new entries
pub record Appends (s t : List ℕ) (slot count stored : ℕ) (es : List Entry) (r : Stock) : Type 0 where
  pub long : length t ≡ length s
  pub longer : count ≤ r.count
  pub well : well_formed_image t (slot * store_size) r.count r.stored ≡ true
  pub same : (own : ℕ) (m : Metric) → replica_in own m (store_at t (slot * store_size) r.count r.stored)
      ≡ store_all (replica_in own m (store_at s (slot * store_size) count stored)) own es
  pub apart : (j : ℕ) → (j < slot * store_size + keys_at) ⊎ (slot * store_size + store_size ≤ j)
      → get_or t j 0 ≡ get_or (log_put s (slot * store_size) count (log_at t (slot * store_size) r.count)) j 0

-- u is s with the new entries and the rows of the longer log, which `on` holds
pub record BatchStored (s u : List ℕ) (slot count stored : ℕ) (es : List Entry) (r : Stock) : Type 0 where
  pub on : List ℕ
  pub bytes : Bytes on
  pub there : stores_size ≤ length on
  pub appends : Appends s on slot count stored es r
  pub image : u ≡ rows_put (log_put s (slot * store_size) count (log_at on (slot * store_size) r.count)) (slot * store_size) (rows_at on (slot * store_size) r.stored)
