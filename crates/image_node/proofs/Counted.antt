-- Every byte of the header at exit: a function of the node that the call's definition leaves, and of the slots. `image_header` says so of families
-- of stores whose tables have as many vectors as the header counts, as the bytes of eight stores have for counts of at most 1,024. Assumes
-- nothing.
use Prim.Native.Nat.{ℕ, zero, suc, ◌+◌, ◌*◌, ◌≤◌, ◌<◌}
use mathlib.Core.Path.{◌≡◌, refl, sym, ap, subst, ◌∙◌}
use mathlib.Core.Bool.{Bool, true, false, cond}
use mathlib.Core.List.{List, [], ◌∷◌, map}
use native.Mathlib.Omega.{arith}
use lib.Dec.{eqb, leb}
use lib.ListN.{length, get_or, take, replicate, length-map, length-take, length-replicate}
use lib.Seq.{get_or-take}
use borrow.Author.Tests.{leb-true, le-leb, eqb-true, eq-eqb}
use Rattle.spec.specs.Lists.{◌and◌, every}
use Rattle.spec.specs.Log.{Log, Vectors}
use Rattle.spec.specs.Nearest.Search.{Vector}
use Rattle.spec_laws.proofs.Lists.{by-test, and_left, and_right}
use Rattle.spec_laws.proofs.Map.Rows.{every_tail, every_cons}
use Rattle.log_store.specs.Table.{Row, rows_of, vector_of, vectors_of}
use Rattle.log_store.proofs.Rows.{rows-length, zipped-length}
use Rattle.node_header.specs.declared.HeldRow.{HeldRow}
use Rattle.node_header.specs.declared.Node.{Node}
use Rattle.node_header.specs.View.{Stores, view_held_row, view_node, used, no_held_row}
use Rattle.node_header.specs.Formed.{held_row_fits, formed_node}
use Rattle.node_header.proofs.Lists.{by_case}
use Rattle.node_header.proofs.Formed.{header-fit}
use Rattle.node_lent.specs.Lend.{LentStore}
use Rattle.image_header.specs.Becomes.{table_fits}
use Rattle.image_store.specs.Image.{log_at, keys_in, places_in, rows_at}
use Rattle.image_store.proofs.Words.{words-length}
use Rattle.image_node.specs.State.{stores_in}
use Rattle.image_node.proofs.Slots.{kept_agree, nodes_agree}
use Rattle.image_node.proofs.Family.{vectors_in, lent_in, own-log, own-vectors, other-vectors, other-kept}

-- a table of so many vectors, whatever they are
some_vector : Vector
some_vector = record { id = 0; components = [] }

none-counted : (v : Vectors) → v ≡ [] → cond (eqb (length v) 0) v (replicate 0 some_vector) ≡ []
none-counted v e = rw e refl

-- a family of which every table has as many vectors as it is asked for
pub counted : Stores → Stores
counted z = record {
  log = z.log;
  vectors = λ i last stored. cond (eqb (length (z.vectors i last stored)) stored) (z.vectors i last stored) (replicate stored some_vector);
  long = z.long;
  bare = λ i. none-counted (z.vectors i 0 0) (z.bare i);
}

module _ (z : Stores) where
  pub counted-all : (i last stored : ℕ) → length ((counted z).vectors i last stored) ≡ stored
  unfolding counted
  counted-all i last stored =
      by-test (λ (v : Vectors). length v ≡ stored) (eqb (length (z.vectors i last stored)) stored) {x = z.vectors i last stored}
      {y = replicate stored some_vector}
      (λ e. eqb-true (length (z.vectors i last stored)) stored e) (λ e. length-replicate {A = Vector} stored some_vector)

  -- a table that has them stays
  pub counted-kept : (x : HeldRow) → length (z.vectors x.slot x.held.last x.stored) ≡ x.stored → view_held_row (counted z) x ≡ view_held_row z x
  unfolding counted
  counted-kept x h =
      let v = z.vectors x.slot x.held.last x.stored in
      kept_agree (counted z) z x refl (ap (λ (b : Bool). cond b v (replicate x.stored some_vector)) (eq-eqb (length v) x.stored h))

-- the rows of the bytes, and of columns of 1,024 places
pub vectors-length : (l : Log) (ks ps : List ℕ) (stored : ℕ) → length ks ≡ 1024 → length ps ≡ 1024 → stored ≤ 1024
    → length (vectors_of l (rows_of ks ps stored)) ≡ stored
unfolding vectors_of
vectors-length l ks ps stored a b h =
    length-map (rows_of ks ps stored) (vector_of l) ∙ rows-length ks ps stored (omega arith) (omega arith)

pub stores-length : (s : List ℕ) (i last stored : ℕ) → stored ≤ 1024 → length ((stores_in s).vectors i last stored) ≡ stored
unfolding stores_in
stores-length s i last stored h =
    vectors-length (log_at s (i * 174080) last) (keys_in s (i * 174080)) (places_in s (i * 174080)) stored
    (words-length 8 1024 s (i * 174080 + 157696)) (words-length 8 1024 s (i * 174080 + 165888)) h

-- the bytes of a store hold no more rows than a table, whatever count is asked for
stores-most : (s : List ℕ) (i last stored : ℕ) → length ((stores_in s).vectors i last stored) ≤ 1024
unfolding stores_in vectors_of rows_of
stores-most s i last stored =
    let ks = keys_in s (i * 174080) in
    let ps = places_in s (i * 174080) in
    let a = length-take stored ks in
    let b = length-take stored ps in
    let k = words-length 8 1024 s (i * 174080 + 157696) in
    let p = words-length 8 1024 s (i * 174080 + 165888) in
    let z = zipped-length (take stored ks) (take stored ps) (omega arith) in
    let m = length-map (rows_of ks ps stored) (vector_of (log_at s (i * 174080) last)) in
    omega arith

pub tables_fit : (s : List ℕ) (l : List HeldRow) → every table_fits (map (view_held_row (stores_in s)) l) ≡ true
tables_fit s [] = unfold every in refl
tables_fit s (x ∷ xs) =
    every_cons table_fits (view_held_row (stores_in s) x) (map (view_held_row (stores_in s)) xs)
    (le-leb (length ((stores_in s).vectors x.slot x.held.last x.stored)) 1024 (stores-most s x.slot x.held.last x.stored)) (tables_fit s xs)

-- a header's counts are within their limit
stored-fits : (l : List HeldRow) → every held_row_fits l ≡ true → (i : ℕ) → i < length l → (get_or l i no_held_row).stored ≤ 1024
unfolding held_row_fits
stored-fits [] e i h = absurd (omega arith)
stored-fits (x ∷ xs) e zero h =
    leb-true x.stored 1024 (and_left (leb x.stored 1024) _ (and_right (leb x.key.collection.len 32) _ (every_tail held_row_fits x xs e).0))
stored-fits (x ∷ xs) e (suc i) h = stored-fits xs (every_tail held_row_fits x xs e).1 i (omega arith)

module _ (s : List ℕ) (n : Node) (formed : formed_node n ≡ true) (slot : ℕ) (a : LentStore) where
  -- before a call the counted family says what the bytes do
  pub counted-before : view_node (lent_in (counted (stores_in s)) slot a) n ≡ view_node (lent_in (stores_in s) slot a) n
  counted-before =
      nodes_agree (lent_in (counted (stores_in s)) slot a) (lent_in (stores_in s) slot a) n
      (λ i h.
      let u = get_or (used n) i no_held_row in
      let few = stored-fits (used n) (header-fit n formed) i h in
      by_case (eqb u.slot slot)
      (λ e.
      kept_agree (lent_in (counted (stores_in s)) slot a) (lent_in (stores_in s) slot a) u
      (own-log (counted (stores_in s)) slot a u.slot e u.held.last ∙ sym (own-log (stores_in s) slot a u.slot e u.held.last))
      (own-vectors (counted (stores_in s)) slot a u.slot e u.held.last u.stored
      ∙ sym (own-vectors (stores_in s) slot a u.slot e u.held.last u.stored)))
      (λ e. other-kept (counted (stores_in s)) slot a u e ∙ counted-kept (stores_in s) u (stores-length s u.slot u.held.last u.stored few) ∙ sym (other-kept (stores_in s) slot a u e)))

module _ (s : List ℕ) (slot : ℕ) (b : LentStore) where
  -- after it, a family that is counted in the lent slot too
  abbrev pub afterwards : Stores
  afterwards = counted (lent_in (counted (stores_in s)) slot b)

  -- .. which says the same of a header whose shard in that slot counts the rows of the columns
  pub counted-after : (p : Node)
      → ((i : ℕ) → i < length (used p) → let u = get_or (used p) i no_held_row in eqb u.slot slot ≡ true → length (vectors_in b u.held.last u.stored) ≡ u.stored)
      → view_node afterwards p ≡ view_node (lent_in (counted (stores_in s)) slot b) p
  counted-after p few =
      nodes_agree afterwards (lent_in (counted (stores_in s)) slot b) p
      (λ i h.
      let u = get_or (used p) i no_held_row in
      counted-kept (lent_in (counted (stores_in s)) slot b) u
      (by_case (eqb u.slot slot)
      (λ e. ap length (own-vectors (counted (stores_in s)) slot b u.slot e u.held.last u.stored) ∙ few i h e)
      (λ e.
      ap length (other-vectors (counted (stores_in s)) slot b u.slot e u.held.last u.stored)
      ∙ counted-all (stores_in s) u.slot u.held.last u.stored)))
