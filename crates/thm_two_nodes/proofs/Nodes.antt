-- The two nodes as their headers and the lent stores are read, and that they pass the test of a lent state (24): before the Write with the
-- zeroed store, after it with the store that has its entry. Assumes nothing.
use Prim.Native.Nat.{ℕ}
use mathlib.Core.Path.{◌≡◌, refl, subst}
use mathlib.Core.Bool.{Bool, true, false, cond}
use mathlib.Core.List.{List, [], ◌∷◌}
use mathlib.Core.Option.{none, some}
use lib.Ieee.{fits}
use borrow.Author.Tests.{le-leb}
use native.Mathlib.Omega.{arith}
use Rattle.spec.specs.Log.{Log, Vectors}
use Rattle.spec.specs.Node.Held as held
use Rattle.spec.specs.declared.Peer.{Peer}
use Rattle.spec.specs.declared.Metric.TheVariants.{Euclidean}
use Rattle.spec.specs.declared.Role.{Role}
use Rattle.spec.specs.declared.Role.TheVariants.{Backup, Primary}
use Rattle.spec_laws.proofs.Lists.{and_true}
use Rattle.spec_run.proofs.Cases.Opened.{opened}
use Rattle.log_store.specs.View as view
use Rattle.log_store.specs.Table as table
use Rattle.log_store.specs.Store.{well_formed_store, every_below, same_rows}
use Rattle.log_calls.specs.Fits.{sized, lent_fits}
use Rattle.node_shard.specs.declared.Held.{Held}
use Rattle.std.specs.Prelude.{Some}
use Rattle.node_header.specs.declared.Node.{Node}
use Rattle.node_header.specs.View.{Stores, view_node, used}
use Rattle.node_header.specs.Formed.{lent_node, slots_fit, counts_fit}
use Rattle.image_store.specs.Read as read
use Rattle.node_lent.specs.Lend.{LentStore, store_in, held_row_store, lent_at, lent_for, slot_of, place_of}
use Rattle.image_node.specs.Lent.{holds_key, held_row_of, held_row_readable, lent_store_at, lent_store_in, lends_state}
use Rattle.image_node.specs.State.{held_row_image, stores_in}
use Rattle.thm_one_node.specs.Images.{stores}
use Rattle.thm_one_node.proofs.Map.{key}
use Rattle.thm_one_node.proofs.Headers.{nil}
use Rattle.thm_one_node.proofs.Columns.{before, after, entry, kept_read, stores_long, stored}
use Rattle.thm_one_node.proofs.Write.{vectors}
use Rattle.thm_one_node.proofs.Stored.{columns, image_stored, lends_stored, passes-stored}
use Rattle.thm_two_nodes.specs.Images.{leased, written, aligned, shown_second, adopted, holding}
use Rattle.thm_two_nodes.proofs.Map.{copies}
use Rattle.thm_two_nodes.proofs.Headers.{row, leads, follows, read-leased, read-written, read-aligned, read-second, read-adopted, read-holding}
use Rattle.thm_two_nodes.proofs.Put.{lent-leased, lent_written, lent-aligned, lent-second, lent-adopted, lent-holding}

-- ---- what they are read as

abbrev shard : (epoch : ℕ) → Log → Vectors → Role → Bool → List Peer → held.Held
shard epoch l v r own ps = record {
  key = key;
  replica = record { epoch = epoch; metric = Euclidean; log = l; vectors = v };
  holders = copies;
  role = r;
  own = own;
  peers = ps;
}

abbrev pub first : Log → Vectors → Peer → held.Node
first l v p = record {
  id = 1;
  incarnation = 4;
  expiry = some 100;
  version = 3;
  held = shard 1 l v (Primary (record { 0 = 1 }) (record { 0 = 0 })) true (p ∷ []) ∷ [];
}

abbrev pub second : (epoch : ℕ) → Log → Vectors → held.Node
second epoch l v = record { id = 2; incarnation = 4; expiry = none; version = 3; held = shard epoch l v Backup false [] ∷ [] }

pub first-empty : (s : Stores) → view_node s (leads (Some 100) 0 0 0 false) ≡ first [] [] (row 0 false)
first-empty s = rw (nil (s.log 0 0) (s.long 0 0), s.bare 0) refl

pub first_one : (s : Stores) (aligned : Bool) → s.log 0 1 ≡ entry ∷ [] → s.vectors 0 1 1 ≡ vectors
    → view_node s (leads (Some 100) 1 1 0 aligned) ≡ first (entry ∷ []) vectors (row 0 aligned)
first_one s aligned l v = rw (l, v) refl

pub second_empty : (s : Stores) (epoch : ℕ) → view_node s (follows epoch 0 0) ≡ second epoch [] []
second_empty s epoch = rw (nil (s.log 0 0) (s.long 0 0), s.bare 0) refl

pub second-one : (s : Stores) → s.log 0 1 ≡ entry ∷ [] → s.vectors 0 1 1 ≡ vectors → view_node s (follows 1 1 1) ≡ second 1 (entry ∷ []) vectors
second-one s l v = rw (l, v) refl

-- ---- with the zeroed store

pub leased_lent_store : lent_store_in stores (leads (Some 100) 0 0 0 false) key ≡ before
unfolding opened lent_store_at
leased_lent_store = kept_read

pub second_store : (epoch : ℕ) → lent_store_in stores (follows epoch 0 0) key ≡ before
unfolding opened lent_store_at
second_store epoch = kept_read

pub lends_leased : lends_state leased stores key ≡ true
unfolding opened lends_state held_row_readable read.all_readable every_below
lends_leased = rw (lent-leased, read-leased, stores_long, le-leb 1392640 1392640 (omega arith)) refl

pub lends_second : lends_state shown_second stores key ≡ true
unfolding opened lends_state held_row_readable read.all_readable every_below
lends_second = rw (lent-second, read-second, stores_long, le-leb 1392640 1392640 (omega arith)) refl

pub lends_adopted : lends_state adopted stores key ≡ true
unfolding opened lends_state held_row_readable read.all_readable every_below
lends_adopted = rw (lent-adopted, read-adopted, stores_long, le-leb 1392640 1392640 (omega arith)) refl

pub empty-fits : lent_fits (store_in before 0 0) ≡ true
unfolding opened lent_fits sized well_formed_store every_below same_rows view.log_of view.firsts table.rows_of table.zipped table.play_rows table.play_rows_from
empty-fits = refl

leased-node : (s : Stores) → lent_node s (leads (Some 100) 0 0 0 false) ≡ true
unfolding opened lent_node slots_fit counts_fit
leased-node s = rw (s.long 0 0) refl

leased-store : let n = leads (Some 100) 0 0 0 false in lent_at n before (place_of n key) ≡ true
unfolding opened lent_at held_row_store
leased-store = empty-fits

pub first_passes : (s : Stores) → lent_for s (leads (Some 100) 0 0 0 false) before key ≡ true
unfolding lent_for
first_passes s =
    let n = leads (Some 100) 0 0 0 false in and_true (lent_node s n) (lent_at n before (place_of n key)) (leased-node s) leased-store

empty-node : (s : Stores) (epoch : ℕ) → lent_node s (follows epoch 0 0) ≡ true
unfolding opened lent_node slots_fit counts_fit
empty-node s epoch = rw (s.long 0 0) refl

empty-store : (epoch : ℕ) → let n = follows epoch 0 0 in lent_at n before (place_of n key) ≡ true
unfolding opened lent_at held_row_store
empty-store epoch = empty-fits

pub second-passes : (s : Stores) (epoch : ℕ) → lent_for s (follows epoch 0 0) before key ≡ true
unfolding lent_for
second-passes s epoch =
    let n = follows epoch 0 0 in and_true (lent_node s n) (lent_at n before (place_of n key)) (empty-node s epoch) (empty-store epoch)

-- ---- with the store that has the entry

pub first-node : (aligned : Bool) (s : Stores) → lent_node s (leads (Some 100) 1 1 0 aligned) ≡ true
unfolding opened lent_node slots_fit counts_fit
first-node aligned s = rw (s.long 0 1) refl

second-node : (s : Stores) → lent_node s (follows 1 1 1) ≡ true
unfolding opened lent_node slots_fit counts_fit
second-node s = rw (s.long 0 1) refl

first_image : (aligned : Bool) → let n = leads (Some 100) 1 1 0 aligned in cond (holds_key n key) (held_row_image stored (held_row_of n key)) true ≡ true
unfolding opened
first_image aligned = image_stored

second_image : let n = follows 1 1 1 in cond (holds_key n key) (held_row_image stored (held_row_of n key)) true ≡ true
unfolding opened
second_image = image_stored

pub first-full : (aligned : Bool) → lent_store_in stored (leads (Some 100) 1 1 0 aligned) key ≡ columns
unfolding opened lent_store_at
first-full aligned = refl

pub second-full : lent_store_in stored (follows 1 1 1) key ≡ columns
unfolding opened lent_store_at
second-full = refl

pub lends_written : lends_state written stored key ≡ true
lends_written = lends_stored written _ lent_written read-written (first-node false) (first_image false) (stores_in [])

pub lends_aligned : lends_state aligned stored key ≡ true
lends_aligned = lends_stored aligned _ lent-aligned read-aligned (first-node true) (first_image true) (stores_in [])

pub lends_holding : lends_state holding stored key ≡ true
lends_holding = lends_stored holding _ lent-holding read-holding second-node second_image (stores_in [])

pub written-passes : (s : Stores) → lent_for s (leads (Some 100) 1 1 0 false) columns key ≡ true
written-passes s =
    subst (λ (a : LentStore). lent_for s (leads (Some 100) 1 1 0 false) a key ≡ true) (first-full false)
    (passes-stored written _ lent_written read-written (first-node false) (first_image false) s)

pub aligned-passes : (s : Stores) → lent_for s (leads (Some 100) 1 1 0 true) columns key ≡ true
aligned-passes s =
    subst (λ (a : LentStore). lent_for s (leads (Some 100) 1 1 0 true) a key ≡ true) (first-full true)
    (passes-stored aligned _ lent-aligned read-aligned (first-node true) (first_image true) s)

pub holding-passes : (s : Stores) → lent_for s (follows 1 1 1) columns key ≡ true
holding-passes s =
    subst (λ (a : LentStore). lent_for s (follows 1 1 1) a key ≡ true) second-full
    (passes-stored holding _ lent-holding read-holding second-node second_image s)

-- ---- the store in its slot, and what is left passes the test of a store

pub first_slot : (stored last : ℕ) (aligned : Bool) → slot_of (leads (Some 100) stored last 0 aligned) key ≡ 0
unfolding opened slot_of
first_slot stored last aligned = refl

pub second-slot : (epoch stored last : ℕ) → slot_of (follows epoch stored last) key ≡ 0
unfolding opened slot_of
second-slot epoch stored last = refl

pub first-slots : slots_fit (used (leads (Some 100) 1 1 0 false)) ≡ true
unfolding opened slots_fit
first-slots = refl

pub second-slots : (epoch stored last : ℕ) → slots_fit (used (follows epoch stored last)) ≡ true
unfolding opened slots_fit
second-slots epoch stored last = refl

pub one-fits : lent_fits (store_in after 1 1) ≡ true
unfolding opened fits lent_fits sized well_formed_store every_below same_rows view.log_of view.firsts view.entry_of view.op_of view.stretch table.rows_of table.zipped table.row_op table.play_rows table.play_rows_from
one-fits = refl
