-- Laws of a shard that begins: a slot is left for it, which no other shard has, and it is put in as in the definition. Assumes nothing.
use mathlib.Core.Path.{◌≡◌, refl, sym, ap, ◌∙◌, subst}
use mathlib.Core.Bool.{Bool, true, false, cond, not}
use mathlib.Core.List.{List, [], ◌∷◌, map}
use mathlib.Core.Option.{none, some}
use Prim.Native.Nat.{ℕ, zero, suc, ◌+◌, ◌-◌, ◌<◌, ◌≤◌}
use native.Mathlib.Omega.{arith}
use lib.Dec.{eqb, ltb}
use lib.ListN.{length, take, get_or, length-map}
use lib.Seq.{length-take-le, get_or-take}
use borrow.Author.Tests.{eqb-true, eqb-false, ne_eqb, lt-ltb, ltb-true, ltb-false, not-true}
use Rattle.spec.specs.Lists.{◌and◌, any, find, lead, put}
use Rattle.spec.specs.Limits.{max_held}
use Rattle.spec.specs.Keys.{Key, key_below, same_key}
use Rattle.spec.specs.Log.{Log, Vectors}
use Rattle.spec.specs.Node.Held as held
use Rattle.spec.specs.Node.Shards.{held_below, of_key, held_shard, with_held}
use Rattle.spec_laws.proofs.Lists.{not_both, none_some, and_true, and_left, and_right}
use Rattle.spec_laws.proofs.Map.Orders.{keys, key-same}
use Rattle.node_shard.specs.declared.Held.{Held}
use Rattle.node_shard.specs.View.{view_held, insert_at}
use Rattle.map_tables.specs.declared.ShardKey.{ShardKey}
use Rattle.map_tables.specs.Names.{view_key}
use Rattle.map_tables.proofs.Tables.{insert-row, used-row, used-size}
use Rattle.node_header.specs.declared.HeldRow.{HeldRow}
use Rattle.node_header.specs.declared.Node.{Node}
use Rattle.node_header.specs.View.{Stores, view_held_row, view_node, used, no_held_row}
use Rattle.node_header.specs.Formed.{on_slot, slots_fit}
use Rattle.node_header.specs.Slots.{slots_of}
use Rattle.node_header.specs.Grow.{free_from, lowest_slot, lowest_free, below_key, Inserts}
use Rattle.node_header.proofs.Lists.{by_case, map-any, map-lead}

-- ---- rows by their places

module _ {A : Type 0} (p : A → Bool) (d : A) where
  -- where a scan stops, the row does not pass
  lead-at : (l : List A) → lead p l < length l → p (get_or l (lead p l) d) ≡ false
  unfolding lead
  lead-at [] = λ h. absurd (omega arith)
  lead-at (y ∷ ys) = go (p y) refl (lead-at ys)
    where
      go : (b : Bool) → p y ≡ b → (lead p ys < length ys → p (get_or ys (lead p ys) d) ≡ false) → cond b (suc (lead p ys)) zero < suc (length ys)
          → p (get_or (y ∷ ys) (cond b (suc (lead p ys)) zero) d) ≡ false
      go true q more h = more (omega arith)
      go false q more h = q

  pub stop_at : (xs : List A) (n at : ℕ) → n ≤ length xs → at ≡ lead p (take n xs) → at < n → p (get_or xs at d) ≡ false
  stop_at xs n at le is h =
      subst (λ (z : A). p z ≡ false) (ap (λ (i : ℕ). get_or (take n xs) i d) (sym is) ∙ get_or-take n xs at d h)
      (lead-at (take n xs) (let q = length-take-le n xs le in omega arith))

  -- where none is found, no row passes
  none-at : (l : List A) (i : ℕ) → find p l ≡ none → i < length l → p (get_or l i d) ≡ false
  unfolding find
  none-at [] i e h = absurd (omega arith)
  none-at (y ∷ ys) i e h = go (p y) refl i e h (none-at ys)
    where
      go : (b : Bool) → p y ≡ b → (i : ℕ) → cond b (some y) (find p ys) ≡ none → i < suc (length ys)
          → ((i : ℕ) → find p ys ≡ none → i < length ys → p (get_or ys i d) ≡ false) → p (get_or (y ∷ ys) i d) ≡ false
      go true q i e h more = none_some (sym e)
      go false q zero e h more = q
      go false q (suc i) e h more = more i e (omega arith)

-- ---- the loop over the slots

-- the slots of these shards, and whether one of them has that slot
abbrev slots : List HeldRow → List ℕ
slots l = map (λ (x : HeldRow). x.slot) l

has-slot : (t : ℕ) (l : List HeldRow) → any (λ u. eqb u t) (slots l) ≡ any (on_slot t) l
has-slot t l = map-any (λ (x : HeldRow). x.slot) (λ u. eqb u t) l

module _ (l : List HeldRow) (s : ℕ) (inv : lowest_free l ≡ free_from (8 - s) s (slots l)) (h : s < 8) where
  more : 8 - s ≡ suc (8 - (s + 1))
  more = omega arith

  pub free_on : any (on_slot s) l ≡ true → lowest_free l ≡ free_from (8 - (s + 1)) (s + 1) (slots l)
  unfolding free_from
  free_on e = inv ∙ rw more (rw (has-slot s l ∙ e))

  pub free_stop : any (on_slot s) l ≡ false → s ≡ lowest_free l
  unfolding free_from
  free_stop e = sym (inv ∙ rw more (rw (has-slot s l ∙ e)))

pub free-end : (l : List HeldRow) (s : ℕ) → lowest_free l ≡ free_from (8 - s) s (slots l) → 8 ≤ s → s ≡ lowest_free l
unfolding free_from
free-end l s inv h = let z : 8 - s ≡ 0 = omega arith in sym (inv ∙ rw z)

-- ---- a slot is left

abbrev is : ℕ → ℕ → Bool
is t u = eqb u t

-- the slots without the first that is that one
without : ℕ → List ℕ → List ℕ
without t [] = []
without t (x ∷ xs) = cond (eqb x t) xs (x ∷ without t xs)

one_less : (t : ℕ) (l : List ℕ) → any (is t) l ≡ true → length l ≡ suc (length (without t l))
unfolding any without
one_less t [] = λ e. not_both false e refl
one_less t (x ∷ xs) = go (eqb x t) (one_less t xs)
  where
    go : (b : Bool) → (any (is t) xs ≡ true → length xs ≡ suc (length (without t xs))) → cond b true (any (is t) xs) ≡ true
        → suc (length xs) ≡ suc (length (cond b xs (x ∷ without t xs)))
    go true more e = refl
    go false more e = ap suc (more e)

others_stay : (t u : ℕ) (l : List ℕ) → (u ≡ t → ⊥) → any (is u) l ≡ true → any (is u) (without t l) ≡ true
unfolding any without
others_stay t u [] d = λ e. e
others_stay t u (x ∷ xs) d = go (eqb x t) refl (eqb x u) refl (others_stay t u xs d)
  where
    go : (b : Bool) → eqb x t ≡ b → (a : Bool) → eqb x u ≡ a → (any (is u) xs ≡ true → any (is u) (without t xs) ≡ true)
        → cond a true (any (is u) xs) ≡ true → any (is u) (cond b xs (x ∷ without t xs)) ≡ true
    go true p true q more e = absurd (d (sym (eqb-true _ _ q) ∙ eqb-true _ _ p))
    go true p false q more e = e
    go false p true q more e = rw q
    go false p false q more e = rw q (more e)

-- as many as there are slots among them
crowd : (m : ℕ) (l : List ℕ) → ((t : ℕ) → t < m → any (is t) l ≡ true) → m ≤ length l
crowd zero l f = omega arith
crowd (suc m) l f =
    let e = one_less m l (f m (omega arith)) in
    let r = crowd m (without m l) (λ t h. others_stay m t l (λ z. omega arith) (f t (omega arith))) in
    omega arith

apart_above : (a b : ℕ) → a ≤ b → (a ≡ b → ⊥) → a + 1 ≤ b
apart_above a b h d =
    by_case (ltb a b) (λ e. let z = ltb-true a b e in omega arith) (λ e. absurd (d (let z = ltb-false a b e in omega arith)))

-- every slot passed is taken, and the one it stops at is not
passed : (k s : ℕ) (l : List ℕ) (t : ℕ) → s ≤ t → t < free_from k s l → any (is t) l ≡ true
unfolding free_from
passed zero s l t a = λ b. absurd (omega arith)
passed (suc k) s l t a = go (any (is s) l) refl (eqb s t) refl (passed k (s + 1) l t)
  where
    go : (b : Bool) → any (is s) l ≡ b → (c : Bool) → eqb s t ≡ c → (s + 1 ≤ t → t < free_from k (s + 1) l → any (is t) l ≡ true)
        → t < cond b (free_from k (s + 1) l) s → any (is t) l ≡ true
    go true p true q more h = subst (λ (u : ℕ). any (is u) l ≡ true) (eqb-true s t q) p
    go true p false q more h = more (apart_above s t a (eqb-false s t q)) h
    go false p c q more h = absurd (omega arith)

stops : (k s : ℕ) (l : List ℕ) → free_from k s l < s + k → any (is (free_from k s l)) l ≡ false
unfolding free_from
stops zero s l = λ h. absurd (omega arith)
stops (suc k) s l = go (any (is s) l) refl (stops k (s + 1) l)
  where
    go : (b : Bool) → any (is s) l ≡ b → (free_from k (s + 1) l < s + 1 + k → any (is (free_from k (s + 1) l)) l ≡ false)
        → cond b (free_from k (s + 1) l) s < s + suc k → any (is (cond b (free_from k (s + 1) l) s)) l ≡ false
    go true p more h = more (omega arith)
    go false p more h = p

-- fewer than eight leave one of the eight
lowest_left : (l : List ℕ) → length l < 8 → lowest_slot l < 8
lowest_left l h =
    by_case (ltb (lowest_slot l) 8) (λ e. ltb-true (lowest_slot l) 8 e)
    (λ e.
    let z = ltb-false (lowest_slot l) 8 e in
    let c = crowd 8 l (λ t a. passed 8 0 l t (omega arith) (omega arith)) in
    absurd (omega arith))

pub slot-left : (l : List HeldRow) → length l < 8 → lowest_free l < 8
slot-left l h = lowest_left (slots l) (let z = length-map l (λ (x : HeldRow). x.slot) in omega arith)

pub slot-free : (l : List HeldRow) → length l < 8 → any (on_slot (lowest_free l)) l ≡ false
slot-free l h = sym (has-slot (lowest_free l) l) ∙ stops 8 0 (slots l) (slot-left l h)

-- ---- slots that fit, with one more

module _ {A : Type 0} (p : A → Bool) where
  pub none_tail : (y : A) (ys : List A) → any p (y ∷ ys) ≡ false → (p y ≡ false) × (any p ys ≡ false)
  unfolding any
  none_tail y ys = go (p y) refl
    where
      go : (b : Bool) → p y ≡ b → cond b true (any p ys) ≡ false → (p y ≡ false) × (any p ys ≡ false)
      go true q e = not_both true refl e
      go false q e = (q, e)

  pub none_cons : (y : A) (ys : List A) → p y ≡ false → any p ys ≡ false → any p (y ∷ ys) ≡ false
  unfolding any
  none_cons y ys a b = rw a b

  none_in : (l : List A) (i : ℕ) (x : A) → p x ≡ false → any p l ≡ false → any p (insert_at l i x) ≡ false
  none_in l zero x a b = none_cons x l a b
  none_in [] (suc i) x a b = none_cons x [] a b
  none_in (y ∷ ys) (suc i) x a b =
      let t = none_tail y ys b in
      none_cons y (insert_at ys i x) t.0 (none_in ys i x a t.1)

slots_cons : (x : HeldRow) (l : List HeldRow) → ltb x.slot max_held ≡ true → any (on_slot x.slot) l ≡ false → slots_fit l ≡ true → slots_fit (x ∷ l) ≡ true
unfolding slots_fit
slots_cons x l a b e =
    and_true (ltb x.slot max_held) (not (any (on_slot x.slot) l) and slots_fit l) a (and_true (not (any (on_slot x.slot) l)) (slots_fit l) (ap not b) e)

pub slots_in : (l : List HeldRow) (i : ℕ) (x : HeldRow) → ltb x.slot max_held ≡ true → any (on_slot x.slot) l ≡ false → slots_fit l ≡ true
    → slots_fit (insert_at l i x) ≡ true
slots_in l zero x a b e = slots_cons x l a b e
slots_in [] (suc i) x a b e = slots_cons x [] a b e
slots_in (y ∷ ys) (suc i) x a b e =
    let t = none_tail (on_slot x.slot) y ys b in
    let f : ltb y.slot max_held and not (any (on_slot y.slot) ys) and slots_fit ys ≡ true = (unfold slots_fit in e) in
    let r = and_right (ltb y.slot max_held) (not (any (on_slot y.slot) ys) and slots_fit ys) f in
    slots_cons y (insert_at ys i x) (and_left (ltb y.slot max_held) (not (any (on_slot y.slot) ys) and slots_fit ys) f)
    (none_in (on_slot y.slot) ys i x (ne_eqb x.slot y.slot (λ z. eqb-false y.slot x.slot t.0 (sym z)))
    (not-true _ (and_left (not (any (on_slot y.slot) ys)) (slots_fit ys) r)))
    (slots_in ys i x a t.1 (and_right (not (any (on_slot y.slot) ys)) (slots_fit ys) r))

-- ---- put in by its key

slots_are_in : (l : List HeldRow) (i : ℕ) (x : HeldRow) → slots (insert_at l i x) ≡ insert_at (slots l) i x.slot
slots_are_in l zero x = refl
slots_are_in [] (suc i) x = refl
slots_are_in (y ∷ ys) (suc i) x = ap (λ (z : List ℕ). y.slot ∷ z) (slots_are_in ys i x)

module _ (n : Node) (le : n.count ≤ length n.held) (x : HeldRow) (at : ℕ) (is : at ≡ lead (below_key (view_key x.key)) (used n)) where
  module _ (s : Stores) where
    place : at ≡ lead (λ y. held_below y (view_held_row s x)) (map (view_held_row s) (used n))
    place = is ∙ sym (map-lead (view_held_row s) (λ y. held_below y (view_held_row s x)) (used n))

    -- the shard at that place stands above: it is not below, and not the same
    above : held_shard (view_node s n) (view_key x.key) ≡ none → at < n.count → held_below (view_held_row s x) (view_held_row s (get_or n.held at no_held_row)) ≡ true
    above e h =
        let y = get_or n.held at no_held_row in
        by_case (key_below (view_key x.key) (view_key y.key))
        (λ q. q)
        (λ q.
        let same = keys.level (view_key x.key) (view_key y.key) q (stop_at (below_key (view_key x.key)) no_held_row n.held n.count at le is h) in
        let size = used-size (view_held_row s) n.held n.count le in
        let f : find (of_key (view_key x.key)) (map (view_held_row s) (used n)) ≡ none = (unfold held_shard in e) in
        let free = none-at (of_key (view_key x.key)) (view_held_row s no_held_row) (map (view_held_row s) (used n)) at f (omega arith) in
        not_both (same_key (view_key y.key) (view_key x.key))
        (subst (λ (k : Key). same_key k (view_key x.key) ≡ true) same (key-same (view_key x.key)))
        (subst (λ (z : held.Held). of_key (view_key x.key) z ≡ false) (used-row (view_held_row s) n.held n.count le at no_held_row h) free))

    pub put_in : (out : List HeldRow) → take (n.count + 1) out ≡ insert_at (used n) at x → held_shard (view_node s n) (view_key x.key) ≡ none
        → map (view_held_row s) (take (n.count + 1) out) ≡ put held_below (view_held_row s x) (map (view_held_row s) (used n))
    put_in out e a =
        ap (map (view_held_row s)) e
        ∙ sym (insert-row (view_held_row s) n.held n.count le held_below x (λ y. keys.apart y.key (view_key x.key)) at place no_held_row (above a))

-- ---- a shard whose log is empty

no_entries : (l : Log) → length l ≡ 0 → l ≡ []
no_entries [] e = refl
no_entries (x ∷ xs) e = absurd (omega arith)

-- its store holds nothing of it, whichever that is
pub view-bare : (s : Stores) (x : HeldRow) → x.held.last ≡ 0 → x.stored ≡ 0 → view_held_row s x ≡ view_held (view_key x.key) [] [] x.held
view-bare s x e z =
    ap (λ (l : Log). view_held (view_key x.key) l (s.vectors x.slot x.held.last x.stored) x.held)
    (no_entries (s.log x.slot x.held.last) (s.long x.slot x.held.last ∙ e))
    ∙ ap (λ (v : Vectors). view_held (view_key x.key) [] v x.held)
    (ap (λ (i : ℕ). s.vectors x.slot i x.stored) e ∙ ap (s.vectors x.slot 0) z ∙ s.bare x.slot)

module _ (n : Node) (le : n.count ≤ length n.held) (key : ShardKey) (h : Held) (room : n.count < 8) (slot at : ℕ) (out : List HeldRow) where
  abbrev new : HeldRow
  new = record { key = key; slot = slot; stored = 0; held = h }

  pub inserts : slot ≡ lowest_free (used n) → at ≡ lead (below_key (view_key key)) (used n) → take (n.count + 1) out ≡ insert_at (used n) at new
      → Inserts n key h
      (record { id = n.id; incarnation = n.incarnation; expiry = n.expiry; version = n.version; held = out; count = n.count + 1 })
  inserts q is e =
      let size = length-take-le n.count n.held le in
      record {
        count = refl;
        slots = λ f. ap slots_fit e
            ∙ slots_in (used n) at new
            (lt-ltb slot max_held (let left = slot-left (used n) (omega arith) in omega arith))
            (ap (λ (t : ℕ). any (on_slot t) (used n)) q ∙ slot-free (used n) (omega arith))
            f;
        same = λ s last none.
            ap (with_held (view_node s n))
            (put_in n le new at is s out e none
            ∙ ap (λ (v : held.Held). put held_below v (map (view_held_row s) (used n))) (view-bare s new last refl));
        slots_are = ap slots e
            ∙ slots_are_in (used n) at new
            ∙ ap (λ (i : ℕ). insert_at (slots_of n) i slot) is
            ∙ ap (insert_at (slots_of n) (lead (below_key (view_key key)) (used n))) q;
      }

-- ---- the same where a shard has no slot yet

pub slot_left_open : (l : List HeldRow) (t : ℕ) → 8 ≤ t → any (on_slot t) l ≡ true → length l ≤ 8 → lowest_free l < 8
slot_left_open l t out e h =
    by_case (ltb (lowest_free l) 8) (λ q. ltb-true (lowest_free l) 8 q)
    (λ q.
    let z = ltb-false (lowest_free l) 8 q in
    let size = length-map l (λ (x : HeldRow). x.slot) in
    let less = one_less t (slots l) (has-slot t l ∙ e) in
    let c = crowd 8 (without t (slots l)) (λ u a. others_stay t u (slots l) (λ w. omega arith) (passed 8 0 (slots l) u (omega arith) (omega arith))) in
    absurd (omega arith))

pub slot_free_open : (l : List HeldRow) → lowest_free l < 8 → any (on_slot (lowest_free l)) l ≡ false
slot_free_open l h = sym (has-slot (lowest_free l) l) ∙ stops 8 0 (slots l) h
