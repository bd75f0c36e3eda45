-- Laws of a map shown: the slots of the shards held after, and each way out. Assumes nothing.
use mathlib.Core.Path.{◌≡◌, refl, sym, ap, ◌∙◌, subst}
use mathlib.Core.Bool.{Bool, true, false, not}
use mathlib.Core.List.{List, [], ◌∷◌, ◌++◌, map}
use Prim.Native.Nat.{ℕ, zero, suc, ◌<◌, ◌≤◌}
use native.Mathlib.Omega.{arith}
use lib.Dec.{eqb, ltb}
use lib.ListN.{length, take, get_or, length-map, length-take, get_or-map, get_or-eq_default}
use lib.Seq.{length-take-le, get_or-take}
use borrow.Author.Tests.{eq-eqb, ne_eqb, lt-ltb, le-ltb, ltb-true, not-true}
use Rattle.spec.specs.Lists.{◌and◌, ◌or◌, any, every, lead, rising}
use Rattle.spec.specs.Limits.{max_held}
use Rattle.spec.specs.Keys.{Key, key_below, same_key}
use Rattle.spec.specs.Map.Create.{shard_below}
use Rattle.spec.specs.Node.Held as held
use Rattle.spec.specs.Node.Shown as show
use Rattle.spec.specs.Node.Calls as calls
use Rattle.spec_laws.proofs.Lists.{not_both, and_true, and_left, and_right}
use Rattle.spec_laws.proofs.Map.Rows.{every_cons}
use Rattle.map_tables.specs.declared.ShardMap.{ShardMap}
use Rattle.map_tables.specs.Names.{view_key}
use Rattle.map_tables.specs.View as view
use Rattle.node_header.specs.declared.HeldRow.{HeldRow}
use Rattle.node_header.specs.declared.Node.{Node}
use Rattle.node_header.specs.View.{Stores, view_held_row, view_node, used, no_held_row}
use Rattle.node_header.specs.Formed.{on_slot, slots_fit, lent_node, held_row_below, formed_node}
use Rattle.node_header.specs.Slots.{slots_of}
use Rattle.node_header.proofs.Lists.{map-any, map-lead}
use Rattle.node_header.proofs.Formed.{header-rise, header-apart}
use Rattle.node_header.proofs.Grow.{none_cons}
use Rattle.node_show.specs.declared.Start.{Start}
use Rattle.node_show.specs.declared.NodeShown.{NodeShown}
use Rattle.node_show.specs.declared.ShownAnswer.TheVariants as A
use Rattle.node_show_row.specs.Rows.{dead_at}
use Rattle.node_show.specs.Rows.{Taken, view_taken, held_row_of, start_of, place_of, SlotFrom, opens, stays}
use Rattle.node_show_slots.specs.Slots.{keys_of, slot_before, slotted, slots_after, open_fits, slots_open, Assigns}
use Rattle.node_show.specs.Walks.{Walked, shards_after, Walks}
use Rattle.node_show.specs.Shows.{view_starts, StartsOver, TakesMap, ShowsMap}
use Rattle.node_show_slots.proofs.Slots.{slot_in, or_left, or_right, some_here, open_cons}
use Rattle.node_show_slots.proofs.Keys.{below_each, never_below, rising_tail}
use Rattle.node_show_slots.proofs.SlotList.{slotted-all, own-slots}
use Rattle.node_show.proofs.Walk.{taken_key, rising-keys}

-- ---- slots that fit

slots-parts : (x : HeldRow) (xs : List HeldRow) → slots_fit (x ∷ xs) ≡ true
    → (slot_in x ≡ true) × (any (on_slot x.slot) xs ≡ false) × (slots_fit xs ≡ true)
unfolding slots_fit
slots-parts x xs e =
    let r = and_right (slot_in x) (not (any (on_slot x.slot) xs) and slots_fit xs) e in (
      and_left (slot_in x) (not (any (on_slot x.slot) xs) and slots_fit xs) e,
      not-true _ (and_left (not (any (on_slot x.slot) xs)) (slots_fit xs) r),
      and_right (not (any (on_slot x.slot) xs)) (slots_fit xs) r,
    )

slot_at : (l : List HeldRow) (i : ℕ) (d : HeldRow) → slots_fit l ≡ true → i < length l → slot_in (get_or l i d) ≡ true
slot_at [] i d e h = absurd (omega arith)
slot_at (x ∷ xs) zero d e h = (slots-parts x xs e).0
slot_at (x ∷ xs) (suc i) d e h = slot_at xs i d (slots-parts x xs e).2 (omega arith)

-- two places with the same slot are one
one_place : (l : List HeldRow) (i j : ℕ) (d : HeldRow) → slots_fit l ≡ true → i < length l → j < length l → (get_or l i d).slot ≡ (get_or l j d).slot → i ≡ j
one_place [] i j d e h k q = absurd (omega arith)
one_place (x ∷ xs) zero zero d e h k q = refl
one_place (x ∷ xs) zero (suc j) d e h k q =
    not_both (any (on_slot x.slot) xs) (some_here (on_slot x.slot) xs j d (omega arith) (eq-eqb (get_or xs j d).slot x.slot (sym q))) (slots-parts x xs e).1
one_place (x ∷ xs) (suc i) zero d e h k q =
    not_both (any (on_slot x.slot) xs) (some_here (on_slot x.slot) xs i d (omega arith) (eq-eqb (get_or xs i d).slot x.slot q)) (slots-parts x xs e).1
one_place (x ∷ xs) (suc i) (suc j) d e h k q = ap suc (one_place xs i j d (slots-parts x xs e).2 (omega arith) (omega arith) q)

-- ---- no row passes

none_of : {A : Type 0} (p : A → Bool) (l : List A) → ((i : ℕ) (d : A) → i < length l → p (get_or l i d) ≡ false) → any p l ≡ false
none_of p [] f = unfold any in refl
none_of p (x ∷ xs) f = none_cons p x xs (f 0 x (omega arith)) (none_of p xs (λ i d h. f (suc i) d (omega arith)))

-- ---- shards whose slots are those of the node before, or none yet

module _ (n : Node) (le : n.count ≤ length n.held) (fit : slots_fit (used n) ≡ true) where
  size : length (used n) ≡ n.count
  size = length-take-le n.count n.held le

  abbrev From : List Taken → Type 0
  From l = (i : ℕ) (d : Taken) → i < length l → SlotFrom n (get_or l i d).kept

  pub from_open : (y : HeldRow) → SlotFrom n y → open_fits y ≡ true
  from_open y (opens p a b c) =
      or_right (slot_in y) (eqb y.held.last 0 and eqb y.stored 0)
      (and_true (eqb y.held.last 0) (eqb y.stored 0) (eq-eqb y.held.last 0 b) (eq-eqb y.stored 0 c))
  from_open y (stays q p h a b) =
      let e = slot_at (used n) q no_held_row fit (omega (arith, size)) in
      or_left (slot_in y) (eqb y.held.last 0 and eqb y.stored 0)
      (subst (λ (t : ℕ). ltb t max_held ≡ true) (ap (λ (z : HeldRow). z.slot) (get_or-take n.count n.held q no_held_row h) ∙ a) e)

  every_open : (l : List Taken) → From l → every open_fits (map held_row_of l) ≡ true
  every_open [] f = unfold every in refl
  every_open (x ∷ xs) f =
      every_cons open_fits (held_row_of x) (map held_row_of xs) (from_open x.kept (f 0 x (omega arith))) (every_open xs (λ i d h. f (suc i) d (omega arith)))

  -- two of them with the same slot have the same key
  same-slot : (x y : HeldRow) → SlotFrom n x → SlotFrom n y → slot_in x ≡ true → y.slot ≡ x.slot → view_key x.key ≡ view_key y.key
  same-slot x y (opens p a b c) g q e = absurd (let z = ltb-true x.slot max_held q in omega arith)
  same-slot x y (stays i u h a k) (opens p b c d) q e = absurd (let z = ltb-true x.slot max_held q in omega arith)
  same-slot x y (stays i u h a k) (stays j v g b m) q e =
      let p = one_place (used n) i j no_held_row fit (omega (arith, size)) (omega (arith, size))
      (ap (λ (z : HeldRow). z.slot) (get_or-take n.count n.held i no_held_row h) ∙ a ∙ sym e ∙ sym b
      ∙ ap (λ (z : HeldRow). z.slot) (sym (get_or-take n.count n.held j no_held_row g))) in
      sym k ∙ ap (λ (t : ℕ). view_key (get_or n.held t no_held_row).key) p ∙ m

  open_from : (l : List Taken) → From l → rising key_below (map taken_key l) ≡ true → slots_open (map held_row_of l) ≡ true
  open_from [] f e = unfold slots_open in refl
  open_from (x ∷ xs) f e =
      open_cons x.kept (map held_row_of xs)
      (λ q. none_of (on_slot x.kept.slot) (map held_row_of xs) (λ i d h.
      let k : i < length xs = (let s = length-map xs held_row_of in omega arith) in
      let at : get_or (map held_row_of xs) i d ≡ (get_or xs i x).kept = past xs i d x k in
      ap (on_slot x.kept.slot) at
      ∙ ne_eqb (get_or xs i x).kept.slot x.kept.slot (λ z.
      never_below (taken_key x)
      (subst (λ (j : Key). key_below (taken_key x) j ≡ true)
      (get_or-map taken_key xs i x ∙ sym (same-slot x.kept (get_or xs i x).kept (f 0 x (omega arith)) (f (suc i) x (omega arith)) q z))
      (below_each (taken_key x) (map taken_key xs) e i (taken_key x) (let s = length-map xs taken_key in omega arith))))))
      (open_from xs (λ i d h. f (suc i) d (omega arith)) (rising_tail (taken_key x) (map taken_key xs) e))
    where
      past : (l : List Taken) (i : ℕ) (d : HeldRow) (y : Taken) → i < length l → get_or (map held_row_of l) i d ≡ (get_or l i y).kept
      past [] i d y h = absurd (omega arith)
      past (z ∷ zs) zero d y h = refl
      past (z ∷ zs) (suc i) d y h = past zs i d y (omega arith)

  -- each has the slot that its key's shard had
  module _ (s : Stores) where
    abbrev before : Key → ℕ
    before k = slot_before (keys_of (view_node s n)) (slots_of n) k

    placed : (k : Key) → lead (λ j. not (same_key j k)) (keys_of (view_node s n)) ≡ place_of n k
    placed k =
        map-lead (λ (h : held.Held). h.key) (λ j. not (same_key j k)) (map (view_held_row s) (used n))
        ∙ map-lead (view_held_row s) (λ h. not (same_key h.key k)) (used n)

    slot-from : (y : HeldRow) → SlotFrom n y → y.slot ≡ before (view_key y.key)
    slot-from y (opens p a b c) =
        a ∙ sym (get_or-eq_default (slots_of n) max_held {n = lead (λ j. not (same_key j (view_key y.key))) (keys_of (view_node s n))}
        (let z = length-map (used n) (λ (x : HeldRow). x.slot) in let w = placed (view_key y.key) in let v = size in omega arith))
    slot-from y (stays q p h a b) =
        sym a
        ∙ ap (λ (z : HeldRow). z.slot) (sym (get_or-take n.count n.held q no_held_row h))
        ∙ sym (row-slot (used n) q (omega (arith, size)))
        ∙ ap (λ (i : ℕ). get_or (slots_of n) i max_held) (p ∙ sym (placed (view_key y.key)))
      where
        row-slot : (l : List HeldRow) (i : ℕ) → i < length l → get_or (map (λ (x : HeldRow). x.slot) l) i max_held ≡ (get_or l i no_held_row).slot
        row-slot [] i h = absurd (omega arith)
        row-slot (x ∷ xs) zero h = refl
        row-slot (x ∷ xs) (suc i) h = row-slot xs i (omega arith)

    slots-from : (l : List Taken) → From l → map (λ (x : HeldRow). x.slot) (map held_row_of l) ≡ map before (map taken_key l)
    slots-from [] f = refl
    slots-from (x ∷ xs) f =
        ap (λ (t : ℕ). t ∷ map (λ (y : HeldRow). y.slot) (map held_row_of xs)) (slot-from x.kept (f 0 x (omega arith)))
        ∙ ap (λ (t : List ℕ). before (taken_key x) ∷ t) (slots-from xs (λ i d h. f (suc i) d (omega arith)))

  module _ (m : ShardMap) (r : Walked) (w : Walks n m r) (plain : List HeldRow)
      (is : take r.count plain ≡ map held_row_of (take r.count r.items)) where
    from : From (take r.count r.items)
    from i d h =
        let s = length-take-le r.count r.items w.long in
        let k : i < r.count = omega arith in
        subst (λ (y : Taken). SlotFrom n y.kept) (sym (get_or-take r.count r.items i d k)) (w.slots i d k)

    pub walked_open : every open_fits (take r.count plain) ≡ true
    walked_open = ap (every open_fits) is ∙ every_open (take r.count r.items) from

    pub walked-apart : r.full ≡ false → rising shard_below (view.view_map m).shards ≡ true → slots_open (take r.count plain) ≡ true
    walked-apart q e =
        ap slots_open is
        ∙ open_from (take r.count r.items) from (sym (rising-keys held_row_of held_row_below taken_key (λ x y. refl) (take r.count r.items)) ∙ w.rise q e)

    pub walked-slots : (s : Stores)
        → map (λ (x : HeldRow). x.slot) (take r.count plain) ≡ map (slot_before (keys_of (view_node s n)) (slots_of n)) (map taken_key (take r.count r.items))
    walked-slots s = ap (map (λ (x : HeldRow). x.slot)) is ∙ slots-from s (take r.count r.items) from

-- ---- a node that is as it was

slots_in : (l : List HeldRow) → slots_fit l ≡ true → every (λ t. ltb t max_held) (map (λ (x : HeldRow). x.slot) l) ≡ true
slots_in [] e = unfold every in refl
slots_in (x ∷ xs) e = let p = slots-parts x xs e in every_cons (λ t. ltb t max_held) x.slot (map (λ (y : HeldRow). y.slot) xs) p.0 (slots_in xs p.2)

pub slots_are_same : (n : Node) → formed_node n ≡ true → (s : Stores) → slots_of n ≡ slots_after (view_node s n) (slots_of n) (view_node s n)
unfolding slots_after
slots_are_same n e s =
    sym (ap (slotted [])
    (own-slots (keys_of (view_node s n)) (slots_of n)
    (let a = length-map (map (view_held_row s) (used n)) (λ (h : held.Held). h.key) in
    let b = length-map (used n) (view_held_row s) in
    let c = length-map (used n) (λ (x : HeldRow). x.slot) in
    omega arith)
    (ap (rising key_below) (all-keys s (used n)) ∙ sym (rising-keys (λ (x : HeldRow). x) held_row_below (λ x. view_key x.key) (λ x y. refl) (used n))
    ∙ ap (rising held_row_below) (same (used n)) ∙ header-rise n e))
    ∙ slotted-all [] (slots_of n) (slots_in (used n) (header-apart n e)))
  where
    same : (l : List HeldRow) → map (λ (x : HeldRow). x) l ≡ l
    same [] = refl
    same (x ∷ xs) = ap (λ (l : List HeldRow). x ∷ l) (same xs)

    all-keys : (s : Stores) (l : List HeldRow) → map (λ (h : held.Held). h.key) (map (view_held_row s) l) ≡ map (λ (x : HeldRow). view_key x.key) l
    all-keys s [] = refl
    all-keys s (x ∷ xs) = ap (λ (l : List Key). view_key x.key ∷ l) (all-keys s xs)

-- ---- a map that is taken

keys-taken : (s : Stores) (l : List Taken) → map (λ (h : held.Held). h.key) (map (view_held_row s) (map held_row_of l)) ≡ map taken_key l
keys-taken s [] = refl
keys-taken s (x ∷ xs) = ap (λ (v : List Key). taken_key x ∷ v) (keys-taken s xs)

all-starts : (s : Stores) (l : List Taken) → view_starts (map start_of l) ≡ show.all_starts (map (view_taken s) l)
unfolding view_starts show.all_starts
all-starts s [] = refl
all-starts s (x ∷ xs) = ap (λ (v : List show.Worker). (view_taken s x).start ++ v) (all-starts s xs)

all_held : (s : Stores) (l : List Taken) → map (view_held_row s) (map held_row_of l) ≡ map show.held_of (map (view_taken s) l)
all_held s [] = refl
all_held s (x ∷ xs) = ap (λ (v : List held.Held). view_held_row s x.kept ∷ v) (all_held s xs)

module _ (n : Node) (m : ShardMap) (r : Walked) (w : Walks n m r) where
  pub taken-full : formed_node n ≡ true → r.full ≡ true → (starts : List Start)
      → TakesMap n m (record { answer = A.Refused 23; starts = starts; count = 0; node = n })
  taken-full formed q starts = record {
    same = λ s. unfold show.take_map view_starts in rw (w.over q s);
    slots = header-apart n formed;
    slots_are = slots_are_same n formed;
  }

  fits : r.full ≡ false → (s : Stores) → show.too_many (shards_after s n m) ≡ false
  unfolding ◌or◌
  fits q s =
      let a = length-map (take r.count r.items) (view_taken s) in
      let b = length-take r.count r.items in
      let c = w.few in
      ap show.too_many (w.same q s)
      ∙ rw (le-ltb max_held (length (map (view_taken s) (take r.count r.items))) (omega arith)) (w.fits q s)

  pub taken-whole : r.full ≡ false → (starts : List Start) → take r.count starts ≡ map start_of (take r.count r.items)
      → (plain new : List HeldRow) → take r.count plain ≡ map held_row_of (take r.count r.items) → Assigns (take r.count plain) (take r.count new)
      → slots_open (take r.count plain) ≡ true
      → ((s : Stores) → map (λ (x : HeldRow). x.slot) (take r.count plain)
      ≡ map (slot_before (keys_of (view_node s n)) (slots_of n)) (map taken_key (take r.count r.items)))
      → TakesMap n m (record {
        answer = A.Shown;
        starts = starts;
        count = r.count;
        node = record { id = n.id; incarnation = n.incarnation; expiry = n.expiry; version = m.version; held = new; count = r.count };
      })
  taken-whole q starts e plain new f a o b = record {
    same = λ s.
        let l = take r.count r.items in
        let ss = shards_after s n m in
        let workers : view_starts (take r.count starts) ≡ show.all_starts ss =
        ap view_starts e ∙ all-starts s l ∙ ap show.all_starts (sym (w.same q s)) in
        let shards : map (view_held_row s) (take r.count new) ≡ map show.held_of ss =
        a.same s ∙ ap (map (view_held_row s)) f ∙ all_held s l ∙ ap (map show.held_of) (sym (w.same q s)) in
        ap (λ (v : List show.Worker). record { answer = A.Shown; workers = v; node = after s (map (view_held_row s) (take r.count new)) }) workers
        ∙ ap (λ (v : List held.Held). record { answer = A.Shown; workers = show.all_starts ss; node = after s v }) shards
        ∙ sym (unfold show.take_map in rw (fits q s));
    slots = a.slots o;
    slots_are = λ s.
        unfold slots_after in
        (a.slots_are
        ∙ ap (slotted [])
        (b s
        ∙ ap (map (slot_before (keys_of (view_node s n)) (slots_of n)))
        (sym (ap (map (λ (h : held.Held). h.key)) (a.same s ∙ ap (map (view_held_row s)) f) ∙ keys-taken s (take r.count r.items)))));
  }
    where
      after : Stores → List held.Held → held.Node
      after s v = record {
        id = n.id.0;
        incarnation = n.incarnation;
        expiry = (view_node s n).expiry;
        version = m.version;
        held = v;
      }

-- ---- a map shown

module _ (n : Node) (m : ShardMap) (fresh : ℕ) where
  abbrev Lent : Bool → Type 0
  Lent b = (s : Stores) → b ≡ lent_node s n

  dead-is : (s : Stores) (b : Bool) → b ≡ any (dead_at n.id.0 n.incarnation) (take m.nodes.count m.nodes.items)
      → any (show.dead_as (view_node s n)) (view.view_map m).nodes ≡ b
  dead-is s b e = map-any view.view_node (show.dead_as (view_node s n)) (take m.nodes.count m.nodes.items) ∙ sym e

  module _ (none : List Start) where
    pub shown_malformed : Lent false → formed_node n ≡ false → ShowsMap n m fresh (record { answer = A.Refused 24; starts = none; count = 0; node = n })
    shown_malformed a f = record {
      same = λ s. unfold calls.shown_with view_starts in rw (← a s);
      slots = λ e. not_both (formed_node n) e f;
      slots_are = λ e. not_both (formed_node n) e f;
      stays = λ e. refl;
    }

    pub shown_older : Lent true → m.version < n.version → ShowsMap n m fresh (record { answer = A.Shown; starts = none; count = 0; node = n })
    shown_older a h = record {
      same = λ s. unfold calls.shown_with show.on_map view_starts in rw (← a s) (rw (lt-ltb m.version n.version h));
      slots = λ e. header-apart n e;
      slots_are = λ e. slots_are_same n e;
      stays = λ e. refl;
    }

    pub shown-dead : Lent true → formed_node n ≡ true → n.version ≤ m.version → (b : Bool)
        → b ≡ any (dead_at n.id.0 n.incarnation) (take m.nodes.count m.nodes.items) → b ≡ true → (r : Node) → StartsOver n fresh r
        → ShowsMap n m fresh (record { answer = A.Shown; starts = none; count = 0; node = r })
    shown-dead a f h b d q r x = record {
      same = λ s.
          unfold calls.shown_with show.on_map view_starts in
          (ap (λ (v : held.Node). record { answer = A.Shown; workers = []; node = v }) (x.same s)
          ∙ sym (rw (← a s) (rw (le-ltb m.version n.version h) (rw (dead-is s b d ∙ q)))));
      slots = λ e. x.slots;
      slots_are = λ e s. x.slots_are ∙ sym (ap (slots_after (view_node s n) (slots_of n)) (x.same s) ∙ (unfold slots_after slotted in refl));
      stays = λ e. not_both (formed_node n) f e;
    }

  pub shown-taken : Lent true → formed_node n ≡ true → n.version ≤ m.version → (b : Bool)
      → b ≡ any (dead_at n.id.0 n.incarnation) (take m.nodes.count m.nodes.items) → b ≡ false → (r : NodeShown) → TakesMap n m r
      → ShowsMap n m fresh r
  shown-taken a f h b d q r x = record {
    same = λ s.
        x.same s
        ∙ sym (unfold calls.shown_with show.on_map in rw (← a s) (rw (le-ltb m.version n.version h) (rw (dead-is s b d ∙ q))));
    slots = λ e. x.slots;
    slots_are = λ e. x.slots_are;
    stays = λ e. not_both (formed_node n) f e;
  }
