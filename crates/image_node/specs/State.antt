-- The whole state of a node as two byte images have it (docs/IMAGES.md): the header, and the log and the vectors of each store. Definitions
-- only.
use Rattle.std.specs.Prelude.{ℕ, ◌+◌, ◌*◌, ◌≤◌, ◌<◌, min, ◌≡◌, refl, Bool, true, false, List, length, get_or}
use Rattle.std.proofs.Math.Option.{some}
use Rattle.std.proofs.lemmas.List.Edits.{sets}
use Rattle.spec.specs.Keys.{Key}
use Rattle.spec.specs.Log.{Log}
use Rattle.spec.specs.Node.Held as held
use Rattle.spec.specs.Node.Shards.{Result, held_shard}
use Rattle.spec.specs.Node.WellFormed.{well_formed_header}
use Rattle.log_store.specs.View.{firsts}
use Rattle.log_store.specs.Table.{zipped, rows_of, play_rows, vectors_of}
use Rattle.log_store.proofs.Firsts.{firsts-length}
use Rattle.node_header.specs.declared.HeldRow.{HeldRow}
use Rattle.node_header.specs.View.{Stores, view_node}
use Rattle.node_header.specs.Formed.{formed_node}
use Rattle.node_header.specs.Slots.{slots_of}
use Rattle.node_lent.specs.Lend.{lent_for}
use Rattle.image_header.specs.Image.{header_lent, node_at}
use Rattle.image_header.specs.Becomes.{header_image}
use Rattle.image_store.specs.Image.{store_size, entry_at, log_at, rows_at, well_formed_image}
use Rattle.image_store.specs.Write.{log_put, rows_put}
use Rattle.image_node.specs.Lent.{begin_of, holds_key, held_row_of, lent_store_in}

-- what the bytes of eight stores hold, by slot: the log of so many entries, and the vectors that so many rows of the table name
unfoldable pub stores_in : List ℕ → Stores
unfolding log_at firsts zipped rows_of vectors_of
stores_in s = record {
  log = λ slot last. log_at s (slot * store_size) last;
  vectors = λ slot last stored. vectors_of (log_at s (slot * store_size) last) (rows_at s (slot * store_size) stored);
  long = λ slot last. firsts-length (entry_at s (slot * store_size)) last;
  bare = λ slot. refl;
}

-- 'Who is turned down', 24, of the store of a held shard, with as many entries and rows as the header counts
abbrev pub held_row_image : List ℕ → HeldRow → Bool
held_row_image s x = well_formed_image s (begin_of x) x.held.last x.stored

-- the store of a held shard with another log: the entries past those that both have, and the table of the log played
unfoldable pub store_with : List ℕ → HeldRow → Log → List ℕ
store_with s x l = rows_put (log_put s (begin_of x) (min x.held.last (length l)) l) (begin_of x) (play_rows l)

-- s' the stores with that of the shard x as the shard is then in g: its bytes, that those of every other slot stay, and that it passes the
-- test of a store again (24)
pub record StoreAfter (s s' : List ℕ) (x : HeldRow) (g : held.Held) : Type 0 where
  pub bytes : s' ≡ store_with s x g.replica.log
  pub beside : (slot at : ℕ) → (slot ≡ x.slot → ⊥) → slot * store_size ≤ at → at < slot * store_size + store_size → get_or s' at 0 ≡ get_or s at 0
  pub well : well_formed_image s' (begin_of x) (length g.replica.log) (length g.replica.vectors) ≡ true

-- the state that the bytes are
abbrev pub state_at : (header stores : List ℕ) → held.Node
state_at h s = view_node (stores_in s) (node_at h)

-- a call at the shard of a key was lent its state by the images h and s, and left h' and s', with the shards in these slots: they are read as
-- the node that the call's definition leaves of what h and s are read as; every byte of the header says that node and the slots, and every byte
-- of the stores the log that the shard then has. The header is well formed if that node is, so that the next call does not find it malformed
pub record StateAfter (A : Type 0) (does : (Key → Bool) → held.Node → Result A held.Node) (h s h' s' : List ℕ) (key : Key) (slots : List ℕ) : Type 0 where
  pub state : state_at h' s' ≡ (does (lent_for (stores_in s) (node_at h) (lent_store_in s (node_at h) key)) (state_at h s)).after
  pub lent : header_lent h' ≡ true
  pub slots_are : slots_of (node_at h') ≡ slots
  pub bytes : h' ≡ sets h 0 (header_image (state_at h' s') slots)
  pub store : holds_key (node_at h) key ≡ true → (g : held.Held) → held_shard (state_at h' s') key ≡ some g → StoreAfter s s' (held_row_of (node_at h) key) g
  pub none : holds_key (node_at h) key ≡ false → s' ≡ s
  pub formed : well_formed_header (state_at h' s') ≡ true → formed_node (node_at h') ≡ true
