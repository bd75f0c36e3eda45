-- The stores at entry and at exit of a call at a shard that is held, read beside the header: at entry the lent columns say nothing else than
-- the bytes, and at exit the bytes say what the columns do. Assumes nothing.
use Prim.Native.Nat.{ℕ, ◌+◌, ◌*◌, ◌≤◌, ◌<◌, min}
use mathlib.Core.Path.{◌≡◌, refl, sym, ap, subst, ◌∙◌}
use mathlib.Core.Bool.{Bool, true, false, cond}
use mathlib.Core.List.{List, map}
use mathlib.Core.Option.{some}
use native.Mathlib.Omega.{arith}
use native.Mathlib.Nat.{min-le_left}
use lib.Dec.{eqb, leb}
use lib.ListN.{length, get_or, take, length-map, length-take}
use lib.Seq.{length-take-le, get_or-take}
use borrow.Author.Tests.{eqb-true, eqb-false, eq-eqb, lt-ltb, leb-true}
use Rattle.spec.specs.Lists.{◌and◌, nth, lead}
use Rattle.spec.specs.Keys.{Key}
use Rattle.spec.specs.Log.{Log, Vectors}
use Rattle.spec.specs.Layout.Format.{Bytes}
use Rattle.spec.specs.Node.Held as held
use Rattle.spec.specs.Node.Shards.{held_shard}
use Rattle.spec_laws.proofs.Lists.{and_left, and_right, nth-same}
use Rattle.spec_retained.specs.Retained.{Retains, Carries, CarriesAll}
use Rattle.spec_retained.proofs.Places.{others, found-carried}
use Rattle.node_shard.specs.Formed.{formed_held}
use Rattle.log_store.specs.View.{log_of}
use Rattle.log_store.specs.Table.{Row, rows_of, play_rows, vectors_of}
use Rattle.log_store.specs.Store.{well_formed_store}
use Rattle.log_store.proofs.Columns.{log-length}
use Rattle.log_store.proofs.Facts.{facts}
use Rattle.log_store.proofs.Firsts.{firsts-take}
use Rattle.node_header.specs.declared.HeldRow.{HeldRow}
use Rattle.node_header.specs.declared.Node.{Node}
use Rattle.node_header.specs.View.{Stores, view_held_row, view_node, used, no_held_row}
use Rattle.node_header.specs.Formed.{formed_node, slots_fit}
use Rattle.node_header.specs.Slots.{slots_of, SameSlots}
use Rattle.node_header.proofs.Lists.{by_case, map-lead}
use Rattle.node_header.proofs.Formed.{header-apart, shard-formed}
use Rattle.node_lent.specs.Lend.{LentStore, store_of, place_of, slot_of}
use Rattle.node_lent.proofs.Lend.{slot_held}
use Rattle.image_store.specs.Image.{entry_at, log_at, rows_at, keys_in, places_in, well_formed_image}
use Rattle.image_store.specs.Read.{all_readable}
use Rattle.image_store.specs.Write.{log_put, rows_put}
use Rattle.image_store.proofs.Read.{image_log}
use Rattle.image_store.proofs.Image.{table_same}
use Rattle.image_node.specs.Lent.{no_lent_store, begin_of, lent_store_at, holds_key, held_row_of, lent_store_in, store_put, stores_put, Writable, StoreFits}
use Rattle.image_node.specs.State.{stores_in, store_with, StoreAfter}
use Rattle.image_node.proofs.Pick.{floats-whole}
use Rattle.image_node.proofs.Slots.{slots-one, slot_at, kept_agree, nodes_agree, view-nth}
use Rattle.image_node.proofs.Family.{vectors_in, lent_in, own-log, own-vectors, other-kept, own-kept}
use Rattle.image_node.proofs.Counted.{vectors-length}
use Rattle.image_node.proofs.Back.{put-rows, put-log, put-beside, slot-log}
use Rattle.image_node.proofs.Again.{read_listed, put-again}

formed-last : (x : HeldRow) → formed_held x.held ≡ true → x.held.last ≤ 1024
unfolding formed_held
formed-last x e = leb-true x.held.last 1024 (and_left (leb x.held.last 1024) _ (and_right (leb x.held.holders 8) _ e))

module _ (s : List ℕ) (n : Node) (k : Key) (formed : formed_node n ≡ true) (inside : n.count ≤ length n.held) (under : place_of n k < n.count) where
  abbrev at : ℕ
  at = place_of n k

  abbrev x : HeldRow
  x = get_or n.held at no_held_row

  abbrev slot : ℕ
  slot = slot_of n k

  -- what the stores hold, with the lent columns in the shard's slot
  abbrev pub before : Stores
  before = lent_in (stores_in s) slot (lent_store_in s n k)

  abbrev pub after : LentStore → Stores
  after b = lent_in (stores_in s) slot b

  many : length (used n) ≡ n.count
  many = length-take-le n.count n.held inside

  row : get_or (used n) at no_held_row ≡ x
  row = get_or-take n.count n.held at no_held_row under

  own : slot ≡ x.slot
  own = slot_held n k at refl under

  lent : lent_store_in s n k ≡ lent_store_at s x
  lent = rw (lt-ltb at n.count under) refl

  -- ---- at entry

  module _ (fine : all_readable s (begin_of x) x.held.last ≡ true) (well : well_formed_store (store_of (lent_store_at s x) x) ≡ true) where
    read_log : log_of (lent_store_in s n k).columns x.held.last ≡ log_at s (begin_of x) x.held.last
    unfolding lent_store_at
    read_log =
        ap (λ (l : LentStore). log_of l.columns x.held.last) lent
        ∙ image_log s (begin_of x) x.held.last x.stored no_lent_store.columns.floats (keys_in s (begin_of x)) (places_in s (begin_of x)) floats-whole fine well

    read-rows : rows_of (lent_store_in s n k).keys (lent_store_in s n k).places x.stored ≡ rows_at s (begin_of x) x.stored
    unfolding lent_store_at
    read-rows = ap (λ (l : LentStore). rows_of l.keys l.places x.stored) lent

    entry_kept : (i : ℕ) → i < length (used n) → view_held_row before (get_or (used n) i no_held_row) ≡ view_held_row (stores_in s) (get_or (used n) i no_held_row)
    unfolding stores_in
    entry_kept i h =
        let u = get_or (used n) i no_held_row in
        by_case (eqb u.slot slot)
        (λ e.
        let most = many in
        let is : i ≡ at =
        slots-one (used n) (header-apart n formed) i at h (omega arith) (eqb-true u.slot slot e ∙ own ∙ ap (λ (y : HeldRow). y.slot) (sym row)) in
        let same : x ≡ u = sym (ap (λ (j : ℕ). get_or (used n) j no_held_row) is ∙ row) in
        subst (λ (y : HeldRow). view_held_row before y ≡ view_held_row (stores_in s) y) same
        (sym (own-kept (stores_in s) slot (lent_store_in s n k) x (stores_in s) (eq-eqb x.slot slot (sym own))
        (sym read_log) (ap (vectors_of (log_at s (begin_of x) x.held.last)) (sym read-rows)
        ∙ ap (λ (l : Log). vectors_of l (rows_of (lent_store_in s n k).keys (lent_store_in s n k).places x.stored)) (sym read_log)))))
        (other-kept (stores_in s) slot (lent_store_in s n k) u)

    pub entry-view : view_node before n ≡ view_node (stores_in s) n
    entry-view = nodes_agree before (stores_in s) n entry_kept

    -- ---- at exit: p and b the header and the columns after

    module _ (p : Node) (b : LentStore) (slots_are : SameSlots n p) (fit : slots_fit (used p) ≡ true) (carried : CarriesAll (view_node before n) (view_node (after b) p))
        (there : 1392640 ≤ length s) (bytes : Bytes s) (w : Writable x (get_or p.held at no_held_row) b) (f : StoreFits (get_or p.held at no_held_row) b) where
      abbrev y : HeldRow
      y = get_or p.held at no_held_row

      abbrev from : ℕ
      from = min x.held.last y.held.last

      many-after : length (used p) ≡ n.count
      many-after = sym (length-map (used p) (λ (q : HeldRow). q.slot)) ∙ ap length slots_are ∙ length-map (used n) (λ (q : HeldRow). q.slot) ∙ many

      row-after : get_or (used p) at no_held_row ≡ y
      row-after =
          let m = many-after in
          let l = length-take p.count p.held in
          get_or-take p.count p.held at no_held_row (omega arith)

      slot_same : y.slot ≡ x.slot
      slot_same =
          ap (λ (q : HeldRow). q.slot) (sym row-after) ∙ sym (slot_at p at) ∙ ap (λ (l : List ℕ). get_or l at 0) slots_are ∙ slot_at n at ∙ ap (λ (q : HeldRow). q.slot) row

      -- each shard in its place, as the call carried it
      carry : (i : ℕ) → i < n.count → Carries (view_held_row before (get_or (used n) i no_held_row)) (view_held_row (after b) (get_or (used p) i no_held_row))
      carry i h =
          let m = many in
          let o = many-after in
          let g = carried i (view_held_row before (get_or (used n) i no_held_row)) (view-nth before n i (omega arith)) in
          subst (Carries (view_held_row before (get_or (used n) i no_held_row)))
          (nth-same (view_node (after b) p).held i g.0 (view_held_row (after b) (get_or (used p) i no_held_row)) g.1 (view-nth (after b) p i (omega arith))) g.2

      last-most : (i : ℕ) → i < n.count → (get_or (used p) i no_held_row).held.last ≤ 1024
      last-most i h =
          let u = get_or (used n) i no_held_row in
          let v = get_or (used p) i no_held_row in
          let e : u ≡ get_or n.held i no_held_row = get_or-take n.count n.held i no_held_row h in
          let few : u.held.last ≤ 1024 = subst (λ (q : HeldRow). q.held.last ≤ 1024) (sym e) (formed-last (get_or n.held i no_held_row) (shard-formed n formed inside i h no_held_row)) in
          let l = before.long u.slot u.held.last in
          let m = (after b).long v.slot v.held.last in
          let g = (carry i h).most (omega arith) in
          omega arith

      -- the entries that both logs have stand in the image
      stand : log_at s (begin_of x) from ≡ take from (log_of b.columns y.held.last)
      unfolding log_at
      stand =
          let i = x.held.last in
          let j = y.held.last in
          let c : Carries (view_held_row before x) (view_held_row (after b) y) =
          subst (λ (q : HeldRow). Carries (view_held_row before x) (view_held_row (after b) q)) row-after
          (subst (λ (q : HeldRow). Carries (view_held_row before q) (view_held_row (after b) (get_or (used p) at no_held_row))) row (carry at under)) in
          let lx : before.log x.slot i ≡ log_at s (begin_of x) i = own-log (stores_in s) slot (lent_store_in s n k) x.slot (eq-eqb x.slot slot (sym own)) i ∙ read_log in
          let ly : (after b).log y.slot j ≡ log_of b.columns j = own-log (stores_in s) slot b y.slot (eq-eqb y.slot slot (slot_same ∙ sym own)) j in
          let r : Retains (log_at s (begin_of x) i) (log_of b.columns j) =
          subst (λ (l : Log). Retains l (log_of b.columns j)) lx (subst (Retains (before.log x.slot i)) ly c.log) in
          let bx = sym (ap length lx) ∙ before.long x.slot i in
          let q : min (length (log_at s (begin_of x) i)) (length (log_of b.columns j)) ≡ from =
          ap (λ (m : ℕ). min m (length (log_of b.columns j))) bx ∙ ap (min i) (log-length b.columns j) in
          sym (firsts-take (entry_at s (begin_of x)) i from (min-le_left i j))
          ∙ sym (ap (λ (m : ℕ). take m (log_at s (begin_of x) i)) q)
          ∙ sym r
          ∙ ap (λ (m : ℕ). take m (log_of b.columns j)) q

      abbrev written : List ℕ
      written = store_put s x y b

      own-after : view_held_row (stores_in written) y ≡ view_held_row (after b) y
      unfolding stores_in
      own-after =
          let i = y.held.last in
          let l : log_at written (y.slot * 174080) i ≡ log_of b.columns i = ap (λ (m : ℕ). log_at written (m * 174080) i) slot_same ∙ put-log s x y b there w f stand in
          let r : rows_at written (y.slot * 174080) y.stored ≡ rows_of b.keys b.places y.stored =
          ap (λ (m : ℕ). rows_at written (m * 174080) y.stored) slot_same ∙ put-rows s x y b there w f in
          own-kept (stores_in s) slot b y (stores_in written) (eq-eqb y.slot slot (slot_same ∙ sym own)) l
          (ap (λ (m : Log). vectors_of m (rows_at written (y.slot * 174080) y.stored)) l ∙ ap (vectors_of (log_of b.columns i)) r)

      other_after : (u : HeldRow) → u.held.last ≤ 1024 → eqb u.slot slot ≡ false → view_held_row (stores_in written) u ≡ view_held_row (after b) u
      unfolding stores_in
      other_after u most e =
          let same = put-beside s x y b there w f u.slot (λ q. eqb-false u.slot slot e (q ∙ sym own)) in
          let l = slot-log written s (u.slot * 174080) u.held.last most bytes same in
          let r = table_same written s (u.slot * 174080) u.stored (λ j p q. same j (omega arith) (omega arith)) in
          kept_agree (stores_in written) (stores_in s) u l
          (ap (λ (m : Log). vectors_of m (rows_at written (u.slot * 174080) u.stored)) l ∙ ap (vectors_of (log_at s (u.slot * 174080) u.held.last)) r)
          ∙ sym (other-kept (stores_in s) slot b u e)

      exit_kept : (i : ℕ) → i < length (used p) → view_held_row (stores_in written) (get_or (used p) i no_held_row) ≡ view_held_row (after b) (get_or (used p) i no_held_row)
      exit_kept i h =
          let u = get_or (used p) i no_held_row in
          let m = many-after in
          by_case (eqb u.slot slot)
          (λ e.
          let is : i ≡ at =
          slots-one (used p) fit i at h (omega arith) (eqb-true u.slot slot e ∙ own ∙ sym slot_same ∙ ap (λ (q : HeldRow). q.slot) (sym row-after)) in
          subst (λ (q : HeldRow). view_held_row (stores_in written) q ≡ view_held_row (after b) q) (sym (ap (λ (j : ℕ). get_or (used p) j no_held_row) is ∙ row-after)) own-after)
          (other_after u (last-most i (omega arith)))

      pub exit_view : view_node (stores_in (stores_put s n p b at)) p ≡ view_node (after b) p
      exit_view =
          ap (λ (t : Bool). view_node (stores_in (cond t written s)) p) (lt-ltb at n.count under)
          ∙ nodes_agree (stores_in written) (after b) p exit_kept

      -- the shard in the slot counts the rows of its columns
      pub exit_few : (i : ℕ) → i < length (used p) → let u = get_or (used p) i no_held_row in
          eqb u.slot slot ≡ true → length (vectors_in b u.held.last u.stored) ≡ u.stored
      exit_few i h e =
          let m = many-after in
          let is : i ≡ at =
          slots-one (used p) fit i at h (omega arith)
          (eqb-true (get_or (used p) i no_held_row).slot slot e ∙ own ∙ sym slot_same ∙ ap (λ (q : HeldRow). q.slot) (sym row-after)) in
          subst (λ (q : HeldRow). length (vectors_in b q.held.last q.stored) ≡ q.stored) (sym (ap (λ (j : ℕ). get_or (used p) j no_held_row) is ∙ row-after))
          (vectors-length (log_of b.columns y.held.last) b.keys b.places y.stored w.sized.keys w.sized.places
          (facts (store_of b y) w.well).stored)

      -- ---- the bytes of the store

      found : (g : held.Held) → held_shard (view_node (after b) p) k ≡ some g → g ≡ view_held_row (after b) y
      found g e =
          let m = many in
          let o = many-after in
          let c = length-map (used n) (view_held_row before) in
          let place : lead (others k) (view_node before n).held ≡ at = map-lead (view_held_row before) (others k) (used n) in
          nth-same (view_node (after b) p).held at g (view_held_row (after b) y)
          (subst (λ (i : ℕ). nth (view_node (after b) p).held i ≡ some g) place
          (found-carried k (view_node before n) (view_node (after b) p) g carried (omega (arith, place)) e))
          (view-nth (after b) p at (omega arith) ∙ ap (λ (q : HeldRow). some (view_held_row (after b) q)) row-after)

      pub exit_store : (g : held.Held) → held_shard (view_node (after b) p) k ≡ some g → StoreAfter s (stores_put s n p b at) x g
      unfolding store_put store_with
      exit_store g e =
          let l = log_of b.columns y.held.last in
          let q = eq-eqb y.slot slot (slot_same ∙ sym own) in
          let is : g.replica.log ≡ l = ap (λ (u : held.Held). u.replica.log) (found g e) ∙ own-log (stores_in s) slot b y.slot q y.held.last in
          let vs : g.replica.vectors ≡ vectors_in b y.held.last y.stored =
          ap (λ (u : held.Held). u.replica.vectors) (found g e) ∙ own-vectors (stores_in s) slot b y.slot q y.held.last y.stored in
          let put : stores_put s n p b at ≡ store_put s x y b = ap (λ (t : Bool). cond t (store_put s x y b) s) (lt-ltb at n.count under) in
          let long : length g.replica.log ≡ y.held.last = ap length is ∙ log-length b.columns y.held.last in
          let many : length g.replica.vectors ≡ y.stored =
          ap length vs
          ∙ vectors-length l b.keys b.places y.stored w.sized.keys w.sized.places (facts (store_of b y) w.well).stored in
          record {
            bytes =
                put
                ∙ ap (rows_put (log_put s (begin_of x) from l) (begin_of x)) (facts (store_of b y) w.well).rows
                ∙ ap (λ (i : ℕ). rows_put (log_put s (begin_of x) (min x.held.last i) l) (begin_of x) (play_rows l)) (sym (log-length b.columns y.held.last))
                ∙ ap (λ (z : Log). rows_put (log_put s (begin_of x) (min x.held.last (length z)) z) (begin_of x) (play_rows z)) (sym is);
            beside = λ i j d p q. ap (λ (t : List ℕ). get_or t j 0) put ∙ put-beside s x y b there w f i d j p q;
            well =
                ap (λ (t : List ℕ). well_formed_image t (begin_of x) (length g.replica.log) (length g.replica.vectors)) put
                ∙ ap (λ (i : ℕ). well_formed_image (store_put s x y b) (begin_of x) i (length g.replica.vectors)) long
                ∙ ap (well_formed_image (store_put s x y b) (begin_of x) y.held.last) many
                ∙ put-again s x y b there w f stand (read_listed s x well);
          }
