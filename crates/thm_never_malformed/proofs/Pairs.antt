-- The shards of a node with their slots: the store of each passes its test (24), before a call and after it, by what the call changed. Assumes
-- nothing.
use Prim.Native.Nat.{ℕ, zero, suc, ◌*◌, ◌≤◌, ◌<◌}
use mathlib.Core.Path.{◌≡◌, refl, sym, ap, subst, ◌∙◌}
use mathlib.Core.Bool.{Bool, true, false, cond, not}
use mathlib.Core.List.{List, [], ◌∷◌, ◌++◌, map, append_assoc, append-nil}
use mathlib.Core.Option.{some}
use native.Mathlib.Omega.{arith}
use lib.Dec.{eqb, leb, ltb}
use lib.ListN.{length, get_or, length-map}
use borrow.Author.Tests.{leb-true, eqb-false, not-true}
use Rattle.spec.specs.Lists.{◌and◌, any, every, find, lead, put}
use Rattle.spec.specs.Limits.{max_held}
use Rattle.spec.specs.Keys.{Key, key_below, same_key}
use Rattle.spec.specs.Map.Apply.{update}
use Rattle.spec.specs.Node.Held.{Held}
use Rattle.spec.specs.Node.Shards.{of_key, held_below}
use Rattle.spec_laws.proofs.Lists.{by-test, not_both, none_some, some_same, and_left, and_right}
use Rattle.spec_laws.proofs.Map.Orders.{keys}
use Rattle.spec_laws.proofs.Map.Rows.{every_tail, every_cons}
use Rattle.map_tables.specs.Names.{view_key}
use Rattle.node_shard.specs.View.{insert_at}
use Rattle.node_header.specs.declared.HeldRow.{HeldRow}
use Rattle.node_header.specs.View.{Stores, view_held_row, other_key, no_held_row}
use Rattle.node_header.specs.Formed.{on_slot, slots_fit, held_row_fits}
use Rattle.node_header.specs.Grow.{lowest_slot, below_key}
use Rattle.node_show_slots.specs.Slots.{slot_before, slotted}
use Rattle.image_store.specs.Image.{store_size, well_formed_image}
use Rattle.image_node.specs.State.{stores_in, held_row_image}
use Rattle.image_node.proofs.Counted.{stores-length}
use Rattle.image_node.proofs.Slots.{none-on}

-- the store in a slot passes as that of the shard
abbrev pub StoreFits : List ℕ → ℕ → Held → Type 0
StoreFits s slot g = well_formed_image s (slot * store_size) (length g.replica.log) (length g.replica.vectors) ≡ true

-- a fact of each slot with its shard
abbrev pub Pairs : (ℕ → Held → Type 0) → List ℕ → List Held → Type 0
Pairs P [] hs = Unit {0}
Pairs P (i ∷ is) [] = Unit {0}
Pairs P (i ∷ is) (h ∷ hs) = P i h × Pairs P is hs

abbrev pub slots : List HeldRow → List ℕ
slots l = map (λ (x : HeldRow). x.slot) l

-- ---- the rows of a header

-- a table has 1,024 rows at most
pub kept-few : (x : HeldRow) → held_row_fits x ≡ true → x.stored ≤ 1024
unfolding held_row_fits
kept-few x f = leb-true x.stored 1024 (and_left (leb x.stored 1024) _ (and_right (leb x.key.collection.len 32) _ f))

module _ (s : List ℕ) where
  abbrev view : HeldRow → Held
  view x = view_held_row (stores_in s) x

  kept-fits : (x : HeldRow) → held_row_fits x ≡ true
      → well_formed_image s (x.slot * store_size) (length (view x).replica.log) (length (view x).replica.vectors) ≡ held_row_image s x
  kept-fits x f =
      ap (λ (n : ℕ). well_formed_image s (x.slot * store_size) n (length (view x).replica.vectors)) ((stores_in s).long x.slot x.held.last)
      ∙ ap (well_formed_image s (x.slot * store_size) x.held.last) (stores-length s x.slot x.held.last x.stored (kept-few x f))

  pub to_pairs : (l : List HeldRow) → every held_row_fits l ≡ true → every (held_row_image s) l ≡ true → Pairs (StoreFits s) (slots l) (map view l)
  to_pairs [] f e = tt
  to_pairs (x ∷ xs) f e =
      let g = every_tail held_row_fits x xs f in
      let d = every_tail (held_row_image s) x xs e in
      (kept-fits x g.0 ∙ d.0, to_pairs xs g.1 d.1)

  pub of_pairs : (l : List HeldRow) → every held_row_fits l ≡ true → Pairs (StoreFits s) (slots l) (map view l) → every (held_row_image s) l ≡ true
  of_pairs [] f p = unfold every in refl
  of_pairs (x ∷ xs) f p =
      let g = every_tail held_row_fits x xs f in
      every_cons (held_row_image s) x xs (sym (kept-fits x g.0) ∙ p.0) (of_pairs xs g.1 p.1)

-- ---- one shard changed

-- which keeps its log and its vectors
pub pairs-update : (P : ℕ → Held → Type 0) (p : Held → Bool) (f : Held → Held) → ((i : ℕ) (h : Held) → P i h → P i (f h))
    → (is : List ℕ) (hs : List Held) → Pairs P is hs → Pairs P is (update p f hs)
unfolding update
pairs-update P p f each [] hs q = tt
pairs-update P p f each (i ∷ is) [] q = tt
pairs-update P p f each (i ∷ is) (h ∷ hs) q =
    let more = pairs-update P p f each is hs q.1 in
    by-test (λ (l : List Held). Pairs P (i ∷ is) l) (p h) {x = f h ∷ hs} {y = h ∷ update p f hs}
    (λ e. (each i h q.0, q.1)) (λ e. (q.0, more))

neither : (b c : Bool) → cond b true c ≡ false → (b ≡ false) × (c ≡ false)
neither true c e = not_both true refl e
neither false c e = (refl, e)

module _ (st : Stores) (P Q : ℕ → Held → Type 0) where
  abbrev v : HeldRow → Held
  v x = view_held_row st x

  -- the shards in other slots
  others : (q : ℕ) (l : List HeldRow) → any (on_slot q) l ≡ false → ((i : ℕ) (g : Held) → (i ≡ q → ⊥) → P i g → Q i g)
      → Pairs P (slots l) (map v l) → Pairs Q (slots l) (map v l)
  unfolding any
  others q [] e f p = tt
  others q (x ∷ xs) e f p =
      let d = neither (eqb x.slot q) (any (on_slot q) xs) e in
      (f x.slot (v x) (eqb-false x.slot q d.0) p.0, others q xs d.1 f p.1)

  -- the shard of a key, whose store is written; every other store stays
  pub pairs-at : (k : Key) (f : Held → Held) (l : List HeldRow) → slots_fit l ≡ true → lead (other_key k) l < length l
      → let x = get_or l (lead (other_key k) l) no_held_row in
      ((i : ℕ) (g : Held) → (i ≡ x.slot → ⊥) → P i g → Q i g) → Q x.slot (f (v x)) → Pairs P (slots l) (map v l)
      → Pairs Q (slots l) (update (of_key k) f (map v l))
  unfolding update lead slots_fit
  pairs-at k f [] fit h = absurd (omega arith)
  pairs-at k f (x ∷ xs) fit h =
      let t = and_right (ltb x.slot max_held) _ fit in
      go (same_key (view_key x.key) k) h (not-true _ (and_left (not (any (on_slot x.slot) xs)) _ t))
      (pairs-at k f xs (and_right (not (any (on_slot x.slot) xs)) _ t))
    where
      go : (b : Bool) → cond (not b) (suc (lead (other_key k) xs)) zero < suc (length xs) → any (on_slot x.slot) xs ≡ false
          → (lead (other_key k) xs < length xs → let y = get_or xs (lead (other_key k) xs) no_held_row in
          ((i : ℕ) (g : Held) → (i ≡ y.slot → ⊥) → P i g → Q i g) → Q y.slot (f (v y)) → Pairs P (slots xs) (map v xs)
          → Pairs Q (slots xs) (update (of_key k) f (map v xs)))
          → let y = get_or (x ∷ xs) (cond (not b) (suc (lead (other_key k) xs)) zero) no_held_row in
          ((i : ℕ) (g : Held) → (i ≡ y.slot → ⊥) → P i g → Q i g) → Q y.slot (f (v y)) → P x.slot (v x) × Pairs P (slots xs) (map v xs)
          → Pairs Q (x.slot ∷ slots xs) (cond b (f (v x) ∷ map v xs) (v x ∷ update (of_key k) f (map v xs)))
      go true h apart more beside own p = (own, others x.slot xs apart beside p.1)
      go false h apart more beside own p =
          (beside x.slot (v x) (λ e. none-on x.slot xs (lead (other_key k) xs) apart (omega arith) (sym e)) p.0, more (omega arith) beside own p.1)

-- ---- one shard more, put in by its key

pub pairs-put : (st : Stores) (P : ℕ → Held → Type 0) (slot : ℕ) (g : Held) → P slot g → (l : List HeldRow)
    → length (put held_below g (map (view_held_row st) l)) ≡ suc (length l) → Pairs P (slots l) (map (view_held_row st) l)
    → Pairs P (insert_at (slots l) (lead (below_key g.key) l) slot) (put held_below g (map (view_held_row st) l))
unfolding put lead
pairs-put st P slot g own [] e p = (own, tt)
pairs-put st P slot g own (x ∷ xs) e p =
    go (key_below g.key (view_key x.key)) (key_below (view_key x.key) g.key) refl refl e (λ d. pairs-put st P slot g own xs d p.1)
  where
    go : (a b : Bool) → key_below g.key (view_key x.key) ≡ a → key_below (view_key x.key) g.key ≡ b
        → length (cond a (g ∷ view_held_row st x ∷ map (view_held_row st) xs) (cond b (view_held_row st x ∷ put held_below g (map (view_held_row st) xs)) (g ∷ map (view_held_row st) xs))) ≡ suc (suc (length xs))
        → (length (put held_below g (map (view_held_row st) xs)) ≡ suc (length xs) → Pairs P (insert_at (slots xs) (lead (below_key g.key) xs) slot) (put held_below g (map (view_held_row st) xs)))
        → Pairs P (insert_at (x.slot ∷ slots xs) (cond b (suc (lead (below_key g.key) xs)) zero) slot) (cond a (g ∷ view_held_row st x ∷ map (view_held_row st) xs) (cond b (view_held_row st x ∷ put held_below g (map (view_held_row st) xs)) (g ∷ map (view_held_row st) xs)))
    go true true a b e more = not_both (key_below (view_key x.key) g.key) b (keys.apart g.key (view_key x.key) a)
    go true false a b e more = (own, p)
    go false true a b e more = (p.0, more (omega arith))
    go false false a b e more = absurd (omega (arith, length-map xs (view_held_row st)))

-- ---- the slots after a map

-- a shard that was held has its slot before
pub pairs-found : (st : Stores) (P : ℕ → Held → Type 0) (k : Key) (h : Held) (l : List HeldRow) → slots_fit l ≡ true
    → find (of_key k) (map (view_held_row st) l) ≡ some h → Pairs P (slots l) (map (view_held_row st) l)
    → let t = slot_before (map (λ (g : Held). g.key) (map (view_held_row st) l)) (slots l) k in P t h × (ltb t max_held ≡ true)
unfolding find lead slots_fit
pairs-found st P k h [] fit e p = none_some e
pairs-found st P k h (x ∷ xs) fit e p =
    let t = and_right (ltb x.slot max_held) _ fit in
    go (same_key (view_key x.key) k) e (and_left (ltb x.slot max_held) _ fit)
    (λ d. pairs-found st P k h xs (and_right (not (any (on_slot x.slot) xs)) _ t) d p.1)
  where
    go : (b : Bool) → cond b (some (view_held_row st x)) (find (of_key k) (map (view_held_row st) xs)) ≡ some h → ltb x.slot max_held ≡ true
        → (find (of_key k) (map (view_held_row st) xs) ≡ some h
        → let t = slot_before (map (λ (g : Held). g.key) (map (view_held_row st) xs)) (slots xs) k in P t h × (ltb t max_held ≡ true))
        → let t = get_or (x.slot ∷ slots xs) (cond (not b) (suc (lead (λ (j : Key). not (same_key j k)) (map (λ (g : Held). g.key) (map (view_held_row st) xs)))) zero) max_held in
        P t h × (ltb t max_held ≡ true)
    go true e below more = (subst (P x.slot) (some_same e) p.0, below)
    go false e below more = more e

-- every slot is one of the eight
pub slots-below : (l : List HeldRow) → slots_fit l ≡ true → every (λ t. ltb t max_held) (slots l) ≡ true
unfolding slots_fit
slots-below [] fit = unfold every in refl
slots-below (x ∷ xs) fit =
    every_cons (λ t. ltb t max_held) x.slot (slots xs) (and_left (ltb x.slot max_held) _ fit)
    (slots-below xs (and_right (not (any (on_slot x.slot) xs)) _ (and_right (ltb x.slot max_held) _ fit)))

-- one that has a slot keeps it, and one that has none is given any
abbrev pub AtSlots : (ℕ → Held → Type 0) → ℕ → Held → Type 0
AtSlots P t h = (u : ℕ) → (ltb t max_held ≡ true → u ≡ t) → P u h

-- no shards are left
pairs-none : (P : ℕ → Held → Type 0) (ts : List ℕ) → Pairs P ts []
pairs-none P [] = tt
pairs-none P (t ∷ ts) = tt

pub pairs-slotted : (P : ℕ → Held → Type 0) (ts a : List ℕ) (hs : List Held) → Pairs (AtSlots P) ts hs
    → (us : List ℕ) × (slotted a ts ≡ a ++ us) × Pairs P us hs
unfolding slotted
pairs-slotted P [] a hs p = ([], sym (append-nil a), tt)
pairs-slotted P (t ∷ ts) a [] p =
    let u = cond (ltb t max_held) t (lowest_slot (a ++ ts)) in
    let more = pairs-slotted P ts (a ++ (u ∷ [])) [] (pairs-none (AtSlots P) ts) in
    (u ∷ more.0, more.1 ∙ append_assoc a (u ∷ []) more.0, tt)
pairs-slotted P (t ∷ ts) a (h ∷ hs) p =
    let u = cond (ltb t max_held) t (lowest_slot (a ++ ts)) in
    let more = pairs-slotted P ts (a ++ (u ∷ [])) hs p.1 in
    (u ∷ more.0, more.1 ∙ append_assoc a (u ∷ []) more.0, (p.0 u (λ e. ap (λ (b : Bool). cond b t (lowest_slot (a ++ ts))) e), more.2))
