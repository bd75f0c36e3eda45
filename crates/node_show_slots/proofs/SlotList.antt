-- Laws of the slots after a map, as lists of slots: those that the loop gives out one after the other, and those of a node whose shards are
-- the same before and after. Assumes nothing.
use mathlib.Core.Path.{◌≡◌, refl, sym, ap, ◌∙◌, subst}
use mathlib.Core.Bool.{Bool, true, false, cond}
use mathlib.Core.List.{List, [], ◌∷◌, ◌++◌, map, append_assoc}
use Prim.Native.Nat.{ℕ, zero, suc, ◌+◌, ◌<◌, ◌≤◌}
use native.Mathlib.Numerals.{add-one}
use native.Mathlib.Omega.{arith}
use lib.Dec.{eqb, ltb}
use lib.ListN.{length, take, drop, get_or, set, drop_of_length-le, take-append-drop}
use lib.Seq.{drop-cons, drop-set-lt, take_all}
use borrow.Author.Tests.{ne_eqb, lt-ltb, le-ltb}
use Rattle.spec.specs.Lists.{any, every, lead, rising}
use Rattle.spec.specs.Limits.{max_held}
use Rattle.spec.specs.Keys.{Key, key_below, same_key}
use Rattle.spec_laws.proofs.Lists.{and_left}
use Rattle.spec_laws.proofs.Map.Orders.{key-same, same_key_lem}
use Rattle.spec_laws.proofs.Map.Rows.{every_tail}
use Rattle.node_shard.proofs.Loops.{take_next, take_put}
use Rattle.node_header.specs.Grow.{free_from, lowest_slot}
use Rattle.node_header.proofs.Lists.{by_case}
use Rattle.node_show_slots.specs.Slots.{slot_before, slotted}
use Rattle.node_show_slots.proofs.Keys.{never_below, rising_less, rising_tail}

-- ---- a slot that is none of the eight takes none away

any_past : (s t : ℕ) (a b : List ℕ) → (t ≡ s → ⊥) → any (λ u. eqb u s) (a ++ (t ∷ b)) ≡ any (λ u. eqb u s) (a ++ b)
unfolding any
any_past s t [] b d = rw (ne_eqb t s d)
any_past s t (x ∷ xs) b d = ap (λ (c : Bool). cond (eqb x s) true c) (any_past s t xs b d)

free_past : (k s t : ℕ) (a b : List ℕ) → s + k ≤ t → free_from k s (a ++ (t ∷ b)) ≡ free_from k s (a ++ b)
unfolding free_from
free_past zero s t a b h = refl
free_past (suc k) s t a b h =
    ap (λ (c : Bool). cond c (free_from k (s + 1) (a ++ (t ∷ b))) s) (any_past s t a b (λ e. omega arith))
    ∙ ap (λ (f : ℕ). cond (any (λ u. eqb u s) (a ++ b)) f s) (free_past k (s + 1) t a b (omega arith))

-- ---- one turn of the loop

module _ (a : List ℕ) (t : ℕ) (l : List ℕ) where
  keeps-slot : ltb t max_held ≡ true → slotted a (t ∷ l) ≡ slotted (a ++ (t ∷ [])) l
  unfolding slotted
  keeps-slot e = ap (λ (b : Bool). slotted (a ++ (cond b t (lowest_slot (a ++ l)) ∷ [])) l) e

  takes-slot : ltb t max_held ≡ false → slotted a (t ∷ l) ≡ slotted (a ++ (lowest_slot (a ++ l) ∷ [])) l
  unfolding slotted
  takes-slot e = ap (λ (b : Bool). slotted (a ++ (cond b t (lowest_slot (a ++ l)) ∷ [])) l) e

module _ (l : List ℕ) (i : ℕ) (h : i < length l) (d : ℕ) where
  abbrev slot : ℕ
  slot = get_or l i d

  apart : drop i l ≡ slot ∷ drop (i + 1) l
  apart = rw add-one (drop-cons l i d h)

  -- a shard that has a slot
  pub slotted-on : slot < max_held → slotted (take i l) (drop i l) ≡ slotted (take (i + 1) l) (drop (i + 1) l)
  slotted-on q =
      ap (slotted (take i l)) apart
      ∙ keeps-slot (take i l) slot (drop (i + 1) l) (lt-ltb slot max_held q)
      ∙ ap (λ (a : List ℕ). slotted a (drop (i + 1) l)) (sym (take_next l i d h))

  -- one that has none
  pub slotted-set : max_held ≤ slot → (s : ℕ) → s ≡ lowest_slot l → slotted (take i l) (drop i l) ≡ slotted (take (i + 1) (set l i s)) (drop (i + 1) (set l i s))
  slotted-set q s e =
      ap (slotted (take i l)) apart
      ∙ takes-slot (take i l) slot (drop (i + 1) l) (le-ltb slot max_held q)
      ∙ ap (λ (u : ℕ). slotted (take i l ++ (u ∷ [])) (drop (i + 1) l)) (sym lowest)
      ∙ ap (λ (a : List ℕ). slotted a (drop (i + 1) l)) (sym (take_put l i s h))
      ∙ ap (slotted (take (i + 1) (set l i s))) (sym (drop-set-lt (i + 1) l i s (omega arith)))
    where
      lowest : s ≡ lowest_slot (take i l ++ drop (i + 1) l)
      lowest =
          e ∙ ap lowest_slot (sym (take-append-drop i l) ∙ ap (λ (b : List ℕ). take i l ++ b) apart)
          ∙ free_past max_held 0 slot (take i l) (drop (i + 1) l) q

pub slotted-end : (l : List ℕ) (i : ℕ) → length l ≤ i → slotted (take i l) (drop i l) ≡ l
slotted-end l i h = ap (slotted (take i l)) (drop_of_length-le l {i = i} h) ∙ (unfold slotted in take_all i l h)

-- ---- shards that all have a slot keep it

pub slotted-all : (a l : List ℕ) → every (λ t. ltb t max_held) l ≡ true → slotted a l ≡ a ++ l
slotted-all a [] e = unfold slotted in sym (nil a)
  where
    nil : (l : List ℕ) → l ++ [] ≡ l
    nil [] = refl
    nil (x ∷ xs) = ap (λ (r : List ℕ). x ∷ r) (nil xs)
slotted-all a (t ∷ l) e =
    let p = every_tail (λ u. ltb u max_held) t l e in
    keeps-slot a t l p.0
    ∙ slotted-all (a ++ (t ∷ [])) l p.1
    ∙ append_assoc a (t ∷ []) l

-- ---- the shards of rising keys have their own slots before

module _ (k : Key) (ks : List Key) (t : ℕ) (ts : List ℕ) where
  first : slot_before (k ∷ ks) (t ∷ ts) k ≡ t
  unfolding lead
  first = rw (key-same k)

  later : (j : Key) → key_below k j ≡ true → slot_before (k ∷ ks) (t ∷ ts) j ≡ slot_before ks ts j
  unfolding lead
  later j e = by_case (same_key k j) (λ q. absurd (never_below j (subst (λ (i : Key). key_below i j ≡ true) (same_key_lem k j q) e))) (λ q. rw q)

  rest : (l : List Key) → rising key_below (k ∷ l) ≡ true → map (slot_before (k ∷ ks) (t ∷ ts)) l ≡ map (slot_before ks ts) l
  rest [] e = refl
  rest (j ∷ js) e =
      ap (λ (u : ℕ). u ∷ map (slot_before (k ∷ ks) (t ∷ ts)) js) (later j (unfold rising in and_left (key_below k j) (rising key_below (j ∷ js)) e))
      ∙ ap (λ (l : List ℕ). slot_before ks ts j ∷ l) (rest js (rising_less (k ∷ []) j js e))

pub own-slots : (ks : List Key) (ts : List ℕ) → length ks ≡ length ts → rising key_below ks ≡ true → map (slot_before ks ts) ks ≡ ts
own-slots [] [] h e = refl
own-slots [] (t ∷ ts) h e = absurd (omega arith)
own-slots (k ∷ ks) [] h e = absurd (omega arith)
own-slots (k ∷ ks) (t ∷ ts) h e =
    ap (λ (u : ℕ). u ∷ map (slot_before (k ∷ ks) (t ∷ ts)) ks) (first k ks t ts)
    ∙ ap (λ (l : List ℕ). t ∷ l) (rest k ks t ts ks e ∙ own-slots ks ts (omega arith) (rising_tail k ks e))
