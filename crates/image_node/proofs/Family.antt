-- A family of stores with the columns of one slot in place of what it has there: what the calls' promises are about. Assumes nothing.
use Prim.Native.Nat.{ℕ}
use mathlib.Core.Path.{◌≡◌, refl, sym, ◌∙◌}
use mathlib.Core.Bool.{true, false, cond}
use mathlib.Core.List.{List, []}
use lib.Dec.{eqb}
use lib.ListN.{length}
use borrow.Author.Tests.{eq-eqb}
use Rattle.spec.specs.Log.{Log, Vectors}
use Rattle.spec_laws.proofs.Lists.{by-test}
use Rattle.log_store.specs.View.{log_of}
use Rattle.log_store.specs.Table.{zipped, rows_of, vectors_of}
use Rattle.log_store.proofs.Columns.{log-length}
use Rattle.node_header.specs.declared.HeldRow.{HeldRow}
use Rattle.node_header.specs.View.{Stores, view_held_row}
use Rattle.node_lent.specs.Lend.{LentStore, Lends, Changes}
use Rattle.image_node.proofs.Slots.{kept_agree}

no_vectors : (l : Log) (ks ps : List ℕ) → vectors_of l (rows_of ks ps 0) ≡ []
unfolding rows_of vectors_of zipped
no_vectors l ks ps = refl

abbrev pub vectors_in : LentStore → (last stored : ℕ) → Vectors
vectors_in a last stored = vectors_of (log_of a.columns last) (rows_of a.keys a.places stored)

pub lent_in : Stores → ℕ → LentStore → Stores
lent_in s slot a = record {
  log = λ i last. cond (eqb i slot) (log_of a.columns last) (s.log i last);
  vectors = λ i last stored. cond (eqb i slot) (vectors_in a last stored) (s.vectors i last stored);
  long = λ i last.
      by-test (λ (l : Log). length l ≡ last) (eqb i slot) {x = log_of a.columns last} {y = s.log i last}
      (λ e. log-length a.columns last) (λ e. s.long i last);
  bare = λ i.
      by-test (λ (v : Vectors). v ≡ []) (eqb i slot) {x = vectors_in a 0 0} {y = s.vectors i 0 0}
      (λ e. no_vectors (log_of a.columns 0) a.keys a.places) (λ e. s.bare i);
}

module _ (s : Stores) (slot : ℕ) (a : LentStore) where
  -- the slot, and every other
  pub own-log : (i : ℕ) → eqb i slot ≡ true → (last : ℕ) → (lent_in s slot a).log i last ≡ log_of a.columns last
  unfolding lent_in
  own-log i e last = rw e

  pub own-vectors : (i : ℕ) → eqb i slot ≡ true → (last stored : ℕ) → (lent_in s slot a).vectors i last stored ≡ vectors_in a last stored
  unfolding lent_in
  own-vectors i e last stored = rw e

  pub other-log : (i : ℕ) → eqb i slot ≡ false → (last : ℕ) → (lent_in s slot a).log i last ≡ s.log i last
  unfolding lent_in
  other-log i e last = rw e

  pub other-vectors : (i : ℕ) → eqb i slot ≡ false → (last stored : ℕ) → (lent_in s slot a).vectors i last stored ≡ s.vectors i last stored
  unfolding lent_in
  other-vectors i e last stored = rw e

  lent_lends : Lends (lent_in s slot a) slot a
  lent_lends =
      let q = eq-eqb slot slot refl in
      record { log = own-log slot q; vectors = own-vectors slot q }

pub lent_changes : (s : Stores) (slot : ℕ) (a b : LentStore) → Changes (lent_in s slot a) (lent_in s slot b) slot a b
lent_changes s slot a b = record {
  before = lent_lends s slot a;
  after = lent_lends s slot b;
  log = λ i e last. other-log s slot b i e last ∙ sym (other-log s slot a i e last);
  vectors = λ i e last stored. other-vectors s slot b i e last stored ∙ sym (other-vectors s slot a i e last stored);
}

-- ---- a shard read with it

module _ (z : Stores) (slot : ℕ) (a : LentStore) (x : HeldRow) where
  -- a shard of another slot
  pub other-kept : eqb x.slot slot ≡ false → view_held_row (lent_in z slot a) x ≡ view_held_row z x
  other-kept e =
      kept_agree (lent_in z slot a) z x (other-log z slot a x.slot e x.held.last) (other-vectors z slot a x.slot e x.held.last x.stored)

  -- that of the slot, where the columns say the same
  pub own-kept : (t : Stores) → eqb x.slot slot ≡ true → t.log x.slot x.held.last ≡ log_of a.columns x.held.last
      → t.vectors x.slot x.held.last x.stored ≡ vectors_in a x.held.last x.stored
      → view_held_row t x ≡ view_held_row (lent_in z slot a) x
  own-kept t e l v =
      kept_agree t (lent_in z slot a) x (l ∙ sym (own-log z slot a x.slot e x.held.last))
      (v ∙ sym (own-vectors z slot a x.slot e x.held.last x.stored))
