-- The stores after the Write, read again: what was written is read back by laws, and nothing is computed of the bytes. They lend the shard's
-- store to any header that counts one entry and one row of it. Assumes nothing.
use Prim.Native.Nat.{ℕ, ◌≤◌}
use native.Mathlib.Omega.{arith}
use mathlib.Core.Path.{◌≡◌, refl, sym, ap, subst, ◌∙◌}
use mathlib.Core.Bool.{Bool, true, cond}
use mathlib.Core.List.{List, [], ◌∷◌}
use lib.ListN.{length, length-set}
use lib.Seq.{length-sets}
use borrow.Author.Tests.{le-leb}
use Rattle.spec.specs.Lists.{◌and◌}
use Rattle.spec.specs.Log.{Log}
use Rattle.spec_laws.proofs.Lists.{and_true, and_left, and_right}
use Rattle.spec_run.proofs.Cases.Opened.{opened}
use Rattle.log_store.specs.View as view
use Rattle.log_store.specs.Table as table
use Rattle.log_store.specs.Store.{well_formed_store}
use Rattle.node_header.specs.declared.Node.{Node}
use Rattle.node_header.specs.View.{Stores}
use Rattle.node_header.specs.Formed.{lent_node}
use Rattle.image_header.specs.Image.{node_at, header_lent}
use Rattle.image_store.specs.Image.{log_at, rows_at, well_formed_image}
use Rattle.image_store.specs.Read as read
use Rattle.image_store.specs.Write as write
use Rattle.image_store.proofs.Read.{image_log}
use Rattle.image_store.proofs.Test.{image_test}
use Rattle.node_lent.specs.Lend.{LentStore, store_of, lent_for, Lends}
use Rattle.image_node.specs.Lent.{no_lent_store, holds_key, held_row_of, lent_store_at, lent_store_in, lends_state, Writable}
use Rattle.image_node.specs.State.{held_row_image}
use Rattle.image_node.proofs.Pick.{floats-whole}
use Rattle.image_node.proofs.Back.{put-log, put-rows}
use Rattle.image_node.proofs.Again.{put-again}
use Rattle.image_node.proofs.State.{images_lent, images_test}
use Rattle.thm_one_node.proofs.Map.{key}
use Rattle.thm_one_node.proofs.Headers.{kept}
use Rattle.thm_one_node.specs.Images.{stores}
use Rattle.thm_one_node.proofs.Columns.{entry, row, after, log-after, rows-after, stored, is-put, puts, stores_long, stores-room, nothing}
use Rattle.thm_one_node.proofs.Write.{vectors, names, writes}

writable : Writable (kept 0 0) (kept 1 1) after
unfolding opened
writable = let q = writes.whole refl key names refl in record { slot = omega arith; sized = q.0; well = q.1 }

pub log-stored : log_at stored 0 1 ≡ entry ∷ []
log-stored =
    ap (λ (s : List ℕ). log_at s 0 1) is-put
    ∙ put-log stores (kept 0 0) (kept 1 1) after stores-room writable puts.fits nothing
    ∙ log-after

pub rows-stored : rows_at stored 0 1 ≡ row ∷ []
rows-stored =
    ap (λ (s : List ℕ). rows_at s 0 1) is-put
    ∙ put-rows stores (kept 0 0) (kept 1 1) after stores-room writable puts.fits
    ∙ rows-after

-- ---- they pass the test of a store

pub stored_long : length stored ≡ 1392640
unfolding stored write.rows_put write.entry_put write.numbers_put
stored_long = rw (length-sets, length-sets, length-set, length-set, length-sets, length-sets, length-sets, length-sets) stores_long

pub image_stored : well_formed_image stored 0 1 1 ≡ true
image_stored =
    ap (λ (s : List ℕ). well_formed_image s 0 1 1) is-put
    ∙ put-again stores (kept 0 0) (kept 1 1) after stores-room writable puts.fits nothing (λ k h. absurd (omega arith))

abbrev pub columns : LentStore
columns = lent_store_at stored (kept 1 1)

both : (read.all_readable stored 0 1 and well_formed_store (store_of columns (kept 1 1))) ≡ true
unfolding lent_store_at
both = image_test stored 0 1 1 no_lent_store.columns.floats floats-whole ∙ image_stored

-- the log and the rows of the columns that they are read into
pub columns-log : view.log_of columns.columns 1 ≡ entry ∷ []
unfolding lent_store_at
columns-log =
    image_log stored 0 1 1 no_lent_store.columns.floats columns.keys columns.places floats-whole
    (and_left (read.all_readable stored 0 1) _ both) (and_right (read.all_readable stored 0 1) _ both)
    ∙ log-stored

pub columns-rows : table.rows_of columns.keys columns.places 1 ≡ row ∷ []
unfolding lent_store_at
columns-rows = rows-stored

-- ---- what stores hold that have such columns in the slot 0

module _ (a : LentStore) (log : view.log_of a.columns 1 ≡ entry ∷ []) (rows : table.rows_of a.keys a.places 1 ≡ row ∷ []) where
  vectors_of_lem : table.vectors_of (view.log_of a.columns 1) (table.rows_of a.keys a.places 1) ≡ vectors
  unfolding opened table.vectors_of table.vector_of
  vectors_of_lem = rw (log, rows) refl

  module _ (s : Stores) (slot : ℕ) (zero : slot ≡ 0) (c : Lends s slot a) where
    pub log-lent : s.log 0 1 ≡ entry ∷ []
    log-lent = subst (λ (i : ℕ). s.log i 1 ≡ entry ∷ []) zero (c.log 1 ∙ log)

    pub vectors-lent : s.vectors 0 1 1 ≡ vectors
    vectors-lent = subst (λ (i : ℕ). s.vectors i 1 1 ≡ vectors) zero (c.vectors 1 1 ∙ vectors_of_lem)

-- ---- they are lent beside a header that counts them

module _ (h : List ℕ) (n : Node) (lent : header_lent h ≡ true) (is : node_at h ≡ n) (node : (z : Stores) → lent_node z n ≡ true)
    (image : cond (holds_key n key) (held_row_image stored (held_row_of n key)) true ≡ true) where
  images : (z : Stores) → images_lent z h stored key ≡ true
  images z =
      and_true (header_lent h) _ lent
      (and_true _ _ (le-leb 1392640 (length stored) (omega (arith, stored_long)))
      (subst (λ (v : Node). (lent_node z v and cond (holds_key v key) (held_row_image stored (held_row_of v key)) true) ≡ true) (sym is)
      (and_true (lent_node z n) _ (node z) image)))

  tests : (z : Stores) → (lends_state h stored key and lent_for z (node_at h) (lent_store_in stored (node_at h) key) key) ≡ true
  tests z = images_test z h stored key ∙ images z

  pub lends_stored : Stores → lends_state h stored key ≡ true
  lends_stored z = and_left (lends_state h stored key) _ (tests z)

  pub passes-stored : (z : Stores) → lent_for z n (lent_store_in stored n key) key ≡ true
  passes-stored z =
      subst (λ (v : Node). lent_for z v (lent_store_in stored v key) key ≡ true) is (and_right (lends_state h stored key) _ (tests z))
