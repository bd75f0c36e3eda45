-- Laws of a lent store: its test, how a shard is read with it, and that a call which changes it changes no other shard. Assumes nothing.
use Prim.Native.Nat.{ℕ, zero, suc, ◌<◌, ◌≤◌}
use mathlib.Core.Path.{◌≡◌, refl, sym, ap, subst, ◌∙◌}
use mathlib.Core.Bool.{Bool, true, false, cond, not}
use mathlib.Core.List.{List, [], ◌∷◌, map}
use native.Mathlib.Omega.{arith}
use lib.Dec.{eqb, leb}
use lib.ListN.{length, get_or, take, set}
use lib.Seq.{take-set-lt, length-take-le, get_or-take}
use borrow.Author.Tests.{eqb-true, eqb-false, eq-eqb, lt-ltb, le-ltb, le-leb, not-true}
use Rattle.spec.specs.Lists.{◌and◌, any, lead}
use Rattle.spec.specs.Keys.{Key}
use Rattle.spec.specs.Log.{Log, Vectors}
use Rattle.spec.specs.Map.Apply.{update}
use Rattle.spec.specs.Node.Held as held
use Rattle.spec.specs.Node.Shards.{Result, gives, of_key, with_held, at_shard}
use Rattle.spec_laws.proofs.Lists.{by-test, and_left, and_right, not_both}
use Rattle.spec_laws.proofs.Node.Shards.{at_held}
use Rattle.node_shard.specs.declared.Held.{Held}
use Rattle.node_shard.specs.View.{view_held}
use Rattle.map_tables.specs.Names.{view_key}
use Rattle.map_tables.proofs.Tables.{update-at, map-set, used-size, used-row}
use Rattle.log_store.specs.View.{log_of}
use Rattle.log_store.specs.Table.{zipped, rows_of, vectors_of}
use Rattle.log_store.specs.Store.{Sized, well_formed_store}
use Rattle.log_store.proofs.Columns.{log-length}
use Rattle.node_log_write.specs.Writes.{view_stored}
use Rattle.log_calls.proofs.FitLaws.{fits-sized, fits-well}
use Rattle.node_header.specs.declared.HeldRow.{HeldRow}
use Rattle.node_header.specs.declared.Node.{Node}
use Rattle.node_header.specs.View.{Stores, view_held_row, view_node, used, no_held_row}
use Rattle.node_header.specs.Formed.{lent_node, formed_node, on_slot, slots_fit}
use Rattle.node_header.proofs.Lists.{by_case, map-lead}
use Rattle.node_header.proofs.Formed.{header-few, header-apart, formed-lent}
use Rattle.node_header.proofs.Shards.{shard_some}
use Rattle.node_lent.specs.Lend.{LentStore, store_in, store_of, held_row_store, place_of, lent_at, lent_for, slot_of, Lends, Changes, Absents, Found, held_row_with, with_store}

-- ---- the test

module _ (a : LentStore) (x : HeldRow) where
  kept-is : held_row_store a x ≡ true → Sized (store_of a x)
  unfolding held_row_store
  kept-is e = fits-sized (store_of a x) e

  kept-well : held_row_store a x ≡ true → well_formed_store (store_of a x) ≡ true
  unfolding held_row_store
  kept-well e = fits-well (store_of a x) e

module _ (n : Node) (k : Key) (a : LentStore) where
  pub lent_malformed : ((s : Stores) → false ≡ lent_node s n) → (s : Stores) → lent_for s n a k ≡ false
  unfolding lent_for ◌and◌
  lent_malformed e s = rw (← e s)

  module _ (formed : formed_node n ≡ true) where
    lent-at : (b : Bool) → lent_at n a (place_of n k) ≡ b → (s : Stores) → lent_for s n a k ≡ b
    unfolding lent_for ◌and◌
    lent-at b e s = rw (← formed-lent n s, formed) e

    module _ (at : ℕ) (is : at ≡ place_of n k) (inside : n.count ≤ length n.held) where
      module _ (gone : n.count ≤ at) where
        absent-at : (b : Bool) → leb 32768 (length a.columns.floats) ≡ b → lent_at n a (place_of n k) ≡ b
        unfolding lent_at
        absent-at b e = rw (← is) (rw (le-ltb _ _ gone) e)

        pub absent-found : 32768 ≤ length a.columns.floats → Absents n k a
        absent-found h = record {
          lent = lent-at true (absent-at true (le-leb _ _ h));
          inside = inside;
          gone = subst (λ (i : ℕ). n.count ≤ i) is gone;
          formed = formed;
        }

      module _ (under : at < n.count) where
        held_at : (b : Bool) → held_row_store a (get_or n.held at no_held_row) ≡ b → lent_at n a (place_of n k) ≡ b
        unfolding lent_at
        held_at b e = rw (← is) (rw (lt-ltb _ _ under) e)

        pub held_found : held_row_store a (get_or n.held at no_held_row) ≡ true → Found n k a at
        held_found e = record {
          lent = lent-at true (held_at true e);
          inside = inside;
          is = is;
          under = under;
          formed = formed;
          sized = kept-is a (get_or n.held at no_held_row) e;
          well = kept-well a (get_or n.held at no_held_row) e;
        }

-- the place of a held shard is one of the eight
pub few-held : (n : Node) (k : Key) (a : LentStore) (at : ℕ) → Found n k a at → at < 8
few-held n k a at g =
    let few = header-few n g.formed in
    let under = g.under in
    omega arith

-- a held shard's own slot
pub slot_held : (n : Node) (k : Key) (at : ℕ) → at ≡ place_of n k → at < n.count → slot_of n k ≡ (get_or n.held at no_held_row).slot
unfolding slot_of
slot_held n k at is h = rw (← is) (rw (lt-ltb _ _ h))

-- ---- a shard read with the lent store

pub lends_view : (s : Stores) (slot : ℕ) (a : LentStore) → Lends s slot a → (x : HeldRow) → x.slot ≡ slot
    → view_held_row s x ≡ view_stored (view_key x.key) x.held (store_of a x)
lends_view s slot a d x e =
    let last = x.held.last in
    let l : s.log x.slot last ≡ log_of a.columns last = ap (λ (i : ℕ). s.log i last) e ∙ d.log last in
    let v : s.vectors x.slot last x.stored ≡ vectors_of (log_of a.columns last) (rows_of a.keys a.places x.stored) =
    ap (λ (i : ℕ). s.vectors i last x.stored) e ∙ d.vectors last x.stored in
    ap (λ (z : Log). view_held (view_key x.key) z (s.vectors x.slot last x.stored) x.held) l
    ∙ ap (λ (z : Vectors). view_held (view_key x.key) (log_of a.columns last) z x.held) v

-- no shard of a list has the slot
any_tail : {A : Type 0} (p : A → Bool) (x : A) (xs : List A) → any p (x ∷ xs) ≡ false → (p x ≡ false) × (any p xs ≡ false)
unfolding any
any_tail p x xs = go (p x)
  where
    go : (b : Bool) → cond b true (any p xs) ≡ false → (b ≡ false) × (any p xs ≡ false)
    go true e = not_both false (sym e) refl
    go false e = (refl, e)

none-at : (q : ℕ) (l : List HeldRow) (i : ℕ) → any (on_slot q) l ≡ false → i < length l → eqb (get_or l i no_held_row).slot q ≡ false
none-at q [] i e h = absurd (omega arith)
none-at q (x ∷ xs) zero e h = (any_tail (on_slot q) x xs e).0
none-at q (x ∷ xs) (suc i) e h = none-at q xs i (any_tail (on_slot q) x xs e).1 (omega arith)

not_eqb : (p q : ℕ) → eqb p q ≡ false → eqb q p ≡ false
not_eqb p q e = by_case (eqb q p) (λ z. absurd (eqb-false p q e (sym (eqb-true q p z)))) (λ z. z)

module _ (s t : Stores) (slot : ℕ) (a b : LentStore) (c : Changes s t slot a b) where
  other-view : (x : HeldRow) → eqb x.slot slot ≡ false → view_held_row t x ≡ view_held_row s x
  other-view x e =
      let last = x.held.last in
      ap (λ (z : Log). view_held (view_key x.key) z (t.vectors x.slot last x.stored) x.held) (c.log x.slot e last)
      ∙ ap (λ (z : Vectors). view_held (view_key x.key) (s.log x.slot last) z x.held) (c.vectors x.slot e last x.stored)

  others-view : (l : List HeldRow) → any (on_slot slot) l ≡ false → map (view_held_row t) l ≡ map (view_held_row s) l
  others-view [] e = refl
  others-view (x ∷ xs) e =
      let r = any_tail (on_slot slot) x xs e in
      ap (λ (y : held.Held). y ∷ map (view_held_row t) xs) (other-view x r.0) ∙ ap (λ (l : List held.Held). view_held_row s x ∷ l) (others-view xs r.1)

  -- all but one shard are read as before
  apart-view : (l : List HeldRow) (at : ℕ) (z : held.Held) → at < length l → slots_fit l ≡ true → (get_or l at no_held_row).slot ≡ slot
      → set (map (view_held_row t) l) at z ≡ set (map (view_held_row s) l) at z
  unfolding slots_fit
  apart-view [] at z h f e = absurd (omega arith)
  apart-view (x ∷ xs) zero z h f e =
      let r = not-true _ (and_left _ _ (and_right _ _ f)) in
      ap (λ (l : List held.Held). z ∷ l) (others-view xs (subst (λ (q : ℕ). any (on_slot q) xs ≡ false) e r))
  apart-view (x ∷ xs) (suc i) z h f e =
      let g = and_right _ _ f in
      let r : any (on_slot x.slot) xs ≡ false = not-true _ (and_left _ _ g) in
      let o : eqb x.slot slot ≡ false = not_eqb slot x.slot (subst (λ (q : ℕ). eqb q x.slot ≡ false) e (none-at x.slot xs i r (omega arith))) in
      ap (λ (y : held.Held). y ∷ set (map (view_held_row t) xs) i z) (other-view x o)
      ∙ ap (λ (l : List held.Held). view_held_row s x ∷ l) (apart-view xs i z (omega arith) (and_right _ _ g) e)

  -- a call on the shard with its store: it is put back as the call left it
  module _ (n : Node) (k : Key) (at : ℕ) (is : at ≡ place_of n k) (inside : n.count ≤ length n.held) (under : at < n.count) (formed : formed_node n ≡ true)
      (own : (get_or n.held at no_held_row).slot ≡ slot) where
    place : at ≡ lead (λ x. not (of_key k x)) (map (view_held_row s) (used n))
    place = is ∙ sym (map-lead (view_held_row s) (λ x. not (of_key k x)) (used n))

    row_put : (f : held.Held → held.Held) (y : HeldRow) → view_held_row t y ≡ f (view_held_row s (get_or n.held at no_held_row))
        → map (view_held_row t) (take n.count (set n.held at y)) ≡ update (of_key k) f (map (view_held_row s) (used n))
    row_put f y e =
        let l = used n in
        let z = view_held_row t y in
        let x = get_or n.held at no_held_row in
        let short : at < length l = rw (length-take-le n.count n.held inside) under in
        let row : get_or l at no_held_row ≡ x = get_or-take n.count n.held at no_held_row under in
        ap (map (view_held_row t)) (take-set-lt n.count n.held at y under)
        ∙ map-set (view_held_row t) l at y
        ∙ apart-view l at z short (header-apart n formed) (ap (λ (q : HeldRow). q.slot) row ∙ own)
        ∙ ap (set (map (view_held_row s) l) at) (e ∙ ap f (sym (used-row (view_held_row s) n.held n.count inside at no_held_row under)))
        ∙ sym (update-at (of_key k) (view_held_row s no_held_row) f (map (view_held_row s) l) (rw (← place, used-size (view_held_row s) n.held n.count inside) under)
        ∙ ap (λ (i : ℕ). set (map (view_held_row s) l) i (f (get_or (map (view_held_row s) l) i (view_held_row s no_held_row)))) (sym place))

    pub call-store : {A : Type 0} (absent : A) (f : held.Held → Result A held.Held) (w : A) (h : Held) (stored : ℕ)
        → let x = get_or n.held at no_held_row in
        gives w (view_stored (view_key x.key) h (store_in b h.last stored)) ≡ f (view_stored (view_key x.key) x.held (store_of a x))
        → gives w (view_node t (with_store n at h stored)) ≡ at_shard (view_node s n) k absent f
    call-store {A} absent f w h stored e =
        let x = get_or n.held at no_held_row in
        let y = held_row_with x h stored in
        let q : gives w (view_held_row t y) ≡ f (view_held_row s x) =
        ap (λ (z : held.Held). gives w z) (lends_view t slot b c.after y own) ∙ e ∙ ap f (sym (lends_view s slot a c.before x own)) in
        ap (λ (l : List held.Held). gives w (with_held (view_node s n) l)) (row_put (λ z. (f z).after) y (ap (λ (r : Result A held.Held). r.after) q))
        ∙ ap (λ (v : A). gives v (with_held (view_node s n) (update (of_key k) (λ z. (f z).after) (map (view_held_row s) (used n))))) (ap (λ (r : Result A held.Held). r.answer) q)
        ∙ sym (at_held (view_node s n) k absent f (view_held_row s x) (shard_some s n k inside at is under))

-- the lent store stays: every shard is read as before
module _ (s t : Stores) (slot : ℕ) (a : LentStore) (c : Changes s t slot a a) where
  kept-view : (x : HeldRow) → view_held_row t x ≡ view_held_row s x
  kept-view x =
      by_case (eqb x.slot slot)
      (λ e. let q = eqb-true x.slot slot e in lends_view t slot a c.after x q ∙ sym (lends_view s slot a c.before x q))
      (other-view s t slot a a c x)

  kepts_view : (l : List HeldRow) → map (view_held_row t) l ≡ map (view_held_row s) l
  kepts_view [] = refl
  kepts_view (x ∷ xs) =
      ap (λ (y : held.Held). y ∷ map (view_held_row t) xs) (kept-view x) ∙ ap (λ (l : List held.Held). view_held_row s x ∷ l) (kepts_view xs)

  pub node-view : (n : Node) → view_node t n ≡ view_node s n
  node-view n = ap (with_held (view_node s n)) (kepts_view (used n))

-- ---- the promises are of families that there are: any, with the lent columns in a slot

bare-store : (l : Log) (ks ps : List ℕ) → vectors_of l (rows_of ks ps 0) ≡ []
unfolding rows_of vectors_of zipped
bare-store l ks ps = refl

pub holding : Stores → ℕ → LentStore → Stores
holding s slot a = record {
  log = λ i last. cond (eqb i slot) (log_of a.columns last) (s.log i last);
  vectors = λ i last stored. cond (eqb i slot) (vectors_of (log_of a.columns last) (rows_of a.keys a.places stored)) (s.vectors i last stored);
  long = λ i last. by-test (λ (l : Log). length l ≡ last) (eqb i slot) {x = log_of a.columns last} {y = s.log i last} (λ e. log-length a.columns last) (λ e. s.long i last);
  bare = λ i.
      by-test (λ (v : Vectors). v ≡ []) (eqb i slot) {x = vectors_of (log_of a.columns 0) (rows_of a.keys a.places 0)} {y = s.vectors i 0 0}
      (λ e. bare-store (log_of a.columns 0) a.keys a.places) (λ e. s.bare i);
}

pub holding_changes : (s : Stores) (slot : ℕ) (a b : LentStore) → Changes (holding s slot a) (holding s slot b) slot a b
unfolding holding
holding_changes s slot a b =
    let q : eqb slot slot ≡ true = eq-eqb slot slot refl in
    record {
      before = record { log = λ last. rw q; vectors = λ last stored. rw q };
      after = record { log = λ last. rw q; vectors = λ last stored. rw q };
      log = λ i e last. rw e;
      vectors = λ i e last stored. rw e;
    }
