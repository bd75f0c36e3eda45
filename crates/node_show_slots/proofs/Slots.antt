-- Laws of the slots that the shards held after a map get, one for each turn of the loop. Assumes nothing.
use mathlib.Core.Path.{◌≡◌, refl, sym, ap, ◌∙◌, subst}
use mathlib.Core.Bool.{Bool, true, false, cond, not}
use mathlib.Core.List.{List, [], ◌∷◌, ◌++◌, map}
use Prim.Native.Nat.{ℕ, zero, suc, ◌+◌, ◌<◌, ◌≤◌}
use native.Mathlib.Omega.{arith}
use lib.Dec.{eqb, leb, ltb}
use lib.ListN.{length, take, drop, get_or, set, length-map, length-take, get_or-map}
use lib.Seq.{length-take-le, get_or-take, take-set-lt}
use borrow.Author.Tests.{eqb-true, eqb-false, ne_eqb, eq-eqb, lt-ltb, le-ltb, lt-leb, ltb-true, leb-false, not-true}
use Rattle.spec.specs.Lists.{◌and◌, ◌or◌, any, every}
use Rattle.spec.specs.Limits.{max_held}
use Rattle.spec_laws.proofs.Lists.{not_both, and_true, and_left, and_right}
use Rattle.spec_laws.proofs.Map.Rows.{every_tail, every_cons}
use Rattle.node_shard.proofs.Loops.{take_next, take_put}
use Rattle.map_tables.proofs.Tables.{map-set, every-at}
use Rattle.node_header.specs.declared.HeldRow.{HeldRow}
use Rattle.node_header.specs.View.{Stores, view_held_row}
use Rattle.node_header.specs.Formed.{on_slot, slots_fit}
use Rattle.node_header.specs.Grow.{lowest_free}
use Rattle.node_header.proofs.Grow.{none_tail, none_cons, view-bare, slot_left_open, slot_free_open}
use Rattle.node_show_slots.specs.Slots.{slotted_at, open_fits, slots_open, slotted, Assigns}
use Rattle.node_show_slots.proofs.SlotList.{slotted-on, slotted-set, slotted-end}

abbrev pub slot_in : HeldRow → Bool
slot_in x = ltb x.slot max_held

pub or_right : (a b : Bool) → b ≡ true → a or b ≡ true
unfolding ◌or◌
or_right true b e = refl
or_right false b e = e

or_rest : (a b : Bool) → a or b ≡ true → a ≡ false → b ≡ true
unfolding ◌or◌
or_rest true b e q = not_both true refl q
or_rest false b e q = e

pub or_left : (a b : Bool) → a ≡ true → a or b ≡ true
unfolding ◌or◌
or_left a b e = rw e

-- ---- one row of a list set

module _ {A : Type 0} (p : A → Bool) where
  every_set : (l : List A) (i : ℕ) (y : A) → every p l ≡ true → p y ≡ true → every p (set l i y) ≡ true
  every_set [] i y e q = e
  every_set (x ∷ xs) zero y e q = every_cons p y xs q (every_tail p x xs e).1
  every_set (x ∷ xs) (suc i) y e q = let t = every_tail p x xs e in every_cons p x (set xs i y) t.0 (every_set xs i y t.1 q)

  every_snoc : (l : List A) (y : A) → every p l ≡ true → p y ≡ true → every p (l ++ (y ∷ [])) ≡ true
  every_snoc [] y e q = every_cons p y [] q e
  every_snoc (x ∷ xs) y e q = let t = every_tail p x xs e in every_cons p x (xs ++ (y ∷ [])) t.0 (every_snoc xs y t.1 q)

  none-set : (l : List A) (i : ℕ) (y : A) → any p l ≡ false → p y ≡ false → any p (set l i y) ≡ false
  none-set [] i y e q = e
  none-set (x ∷ xs) zero y e q = none_cons p y xs q (none_tail p x xs e).1
  none-set (x ∷ xs) (suc i) y e q = let t = none_tail p x xs e in none_cons p x (set xs i y) t.0 (none-set xs i y t.1 q)

  pub some_here : (l : List A) (i : ℕ) (d : A) → i < length l → p (get_or l i d) ≡ true → any p l ≡ true
  unfolding any
  some_here [] i d h q = absurd (omega arith)
  some_here (x ∷ xs) zero d h q = rw q
  some_here (x ∷ xs) (suc i) d h q = go (p x) (some_here xs i d (omega arith) q)
    where
      go : (b : Bool) → any p xs ≡ true → cond b true (any p xs) ≡ true
      go true e = refl
      go false e = e

set_same : {A : Type 0} (l : List A) (i : ℕ) (d : A) → set l i (get_or l i d) ≡ l
set_same [] i d = refl
set_same (x ∷ xs) zero d = refl
set_same {A} (x ∷ xs) (suc i) d = ap (λ (v : List A). x ∷ v) (set_same xs i d)

-- ---- slots that are apart

pub open_cons : (x : HeldRow) (l : List HeldRow) → (slot_in x ≡ true → any (on_slot x.slot) l ≡ false) → slots_open l ≡ true → slots_open (x ∷ l) ≡ true
unfolding slots_open
open_cons x l f e =
    and_true (leb max_held x.slot or not (any (on_slot x.slot) l)) (slots_open l) (go (leb max_held x.slot) refl) e
  where
    go : (b : Bool) → leb max_held x.slot ≡ b → b or not (any (on_slot x.slot) l) ≡ true
    go true q = or_left true (not (any (on_slot x.slot) l)) refl
    go false q = or_right false (not (any (on_slot x.slot) l)) (ap not (f (lt-ltb x.slot max_held (leb-false max_held x.slot q))))

open_tail : (x : HeldRow) (l : List HeldRow) → slots_open (x ∷ l) ≡ true → (slot_in x ≡ true → any (on_slot x.slot) l ≡ false) × (slots_open l ≡ true)
unfolding slots_open
open_tail x l e = (
  λ q. not-true _ (or_rest (leb max_held x.slot) (not (any (on_slot x.slot) l))
      (and_left (leb max_held x.slot or not (any (on_slot x.slot) l)) (slots_open l) e)
      (lt-leb max_held x.slot (ltb-true x.slot max_held q))),
  and_right (leb max_held x.slot or not (any (on_slot x.slot) l)) (slots_open l) e,
)

-- a slot that no shard has, given to one of them
open_set : (l : List HeldRow) (i : ℕ) (y : HeldRow) → any (on_slot y.slot) l ≡ false → slots_open l ≡ true → slots_open (set l i y) ≡ true
open_set [] i y f e = e
open_set (x ∷ xs) zero y f e = open_cons y xs (λ q. (none_tail (on_slot y.slot) x xs f).1) (open_tail x xs e).1
open_set (x ∷ xs) (suc i) y f e =
    let t = open_tail x xs e in
    let g = none_tail (on_slot y.slot) x xs f in
    open_cons x (set xs i y)
    (λ q. none-set (on_slot x.slot) xs i y (t.0 q) (ne_eqb y.slot x.slot (λ z. eqb-false x.slot y.slot g.0 (sym z))))
    (open_set xs i y g.1 t.1)

-- where each has one of the eight, they fit
open_fits_lem : (l : List HeldRow) → slots_open l ≡ true → every slot_in l ≡ true → slots_fit l ≡ true
unfolding slots_fit
open_fits_lem [] e f = refl
open_fits_lem (x ∷ xs) e f =
    let t = open_tail x xs e in
    let g = every_tail slot_in x xs f in
    and_true (slot_in x) (not (any (on_slot x.slot) xs) and slots_fit xs) g.0
    (and_true (not (any (on_slot x.slot) xs)) (slots_fit xs) (ap not (t.0 g.0)) (open_fits_lem xs t.1 g.1))

-- ---- the loop

abbrev slots : List HeldRow → List ℕ
slots l = map (λ (x : HeldRow). x.slot) l

slot_row : (l : List HeldRow) (i : ℕ) (d : HeldRow) → get_or (slots l) i d.slot ≡ (get_or l i d).slot
slot_row l i d = get_or-map (λ (x : HeldRow). x.slot) l i d

pub record Assigning (old new : List HeldRow) (count i : ℕ) : Type 0 where
  pub opens : every open_fits (take count new) ≡ true
  pub same : (s : Stores) → map (view_held_row s) (take count new) ≡ map (view_held_row s) (take count old)
  pub apart : slots_open (take count old) ≡ true → slots_open (take count new) ≡ true
  pub done : every slot_in (take i new) ≡ true
  pub slots_are : slotted [] (slots (take count old)) ≡ slotted (take i (slots (take count new))) (drop i (slots (take count new)))

pub assign_start : (l : List HeldRow) (count : ℕ) → every open_fits (take count l) ≡ true → Assigning l l count 0
unfolding every
assign_start l count e = record { opens = e; same = λ s. refl; apart = λ q. q; done = refl; slots_are = refl }

module _ (old new : List HeldRow) (count i : ℕ) (le : count ≤ length new) (few : count ≤ 8) (h : i < count) (d : HeldRow) (a : Assigning old new count i) where
  abbrev at : HeldRow
  at = get_or new i d

  -- its slot among the slots
  among : i < length (slots (take count new))
  among = let a = length-map (take count new) (λ (x : HeldRow). x.slot) in let b = length-take-le count new le in omega arith

  its : get_or (slots (take count new)) i d.slot ≡ at.slot
  its = slot_row (take count new) i d ∙ ap (λ (x : HeldRow). x.slot) (get_or-take count new i d h)

  pub assign_on : at.slot < 8 → Assigning old new count (i + 1)
  assign_on q = record {
    opens = a.opens;
    same = a.same;
    apart = a.apart;
    done = ap (every slot_in) (take_next new i d (omega arith)) ∙ every_snoc slot_in (take i new) at a.done (lt-ltb at.slot max_held q);
    slots_are = a.slots_are ∙ slotted-on (slots (take count new)) i among d.slot (let e = its in omega arith);
  }

  module _ (out : 8 ≤ at.slot) (slot : ℕ) (is : slot ≡ lowest_free (take count new)) where
    abbrev y : HeldRow
    y = slotted_at at slot

    size : length (take count new) ≡ count
    size = length-take-le count new le

    left : slot < 8
    left =
        let taken = some_here (on_slot at.slot) (take count new) i d (omega (arith, size))
        (ap (on_slot at.slot) (get_or-take count new i d h) ∙ eq-eqb at.slot at.slot refl) in
        let free = slot_left_open (take count new) at.slot out taken (omega (arith, size)) in
        omega arith

    alone : any (on_slot slot) (take count new) ≡ false
    alone = let l = left in ap (λ (t : ℕ). any (on_slot t) (take count new)) is ∙ slot_free_open (take count new) (omega arith)

    bare : (eqb at.held.last 0 and eqb at.stored 0) ≡ true
    bare = or_rest (slot_in at) (eqb at.held.last 0 and eqb at.stored 0) (every-at open_fits new count i d le a.opens h) (le-ltb at.slot max_held out)

    seen : (s : Stores) → view_held_row s y ≡ view_held_row s at
    seen s =
        let e = eqb-true at.held.last 0 (and_left (eqb at.held.last 0) (eqb at.stored 0) bare) in
        let z = eqb-true at.stored 0 (and_right (eqb at.held.last 0) (eqb at.stored 0) bare) in
        view-bare s y e z ∙ sym (view-bare s at e z)

    pub assign_set : Assigning old (set new i y) count (i + 1)
    assign_set =
        let t = take-set-lt count new i y h in
        record {
          opens = ap (every open_fits) t
              ∙ every_set open_fits (take count new) i y a.opens (or_left (slot_in y) _ (lt-ltb slot max_held left));
          same = λ s. ap (map (view_held_row s)) t ∙ map-set (view_held_row s) (take count new) i y
              ∙ ap (set (map (view_held_row s) (take count new)) i) (seen s ∙ ap (view_held_row s) (sym (get_or-take count new i d h)))
              ∙ sym (map-set (view_held_row s) (take count new) i (get_or (take count new) i d))
              ∙ ap (map (view_held_row s)) (set_same (take count new) i d) ∙ a.same s;
          apart = λ q. ap slots_open t ∙ open_set (take count new) i y alone (a.apart q);
          done = ap (every slot_in) (take_put new i y (omega arith)) ∙ every_snoc slot_in (take i new) y a.done (lt-ltb slot max_held left);
          slots_are = a.slots_are
              ∙ slotted-set (slots (take count new)) i among d.slot (let e = its in omega arith) slot is
              ∙ ap (λ (l : List ℕ). slotted (take (i + 1) l) (drop (i + 1) l)) (sym (ap slots t ∙ map-set (λ (x : HeldRow). x.slot) (take count new) i y));
        }

pub assign_end : (old new : List HeldRow) (count i : ℕ) → count ≤ i → i ≤ count → Assigning old new count i → Assigns (take count old) (take count new)
assign_end old new count i h k a =
    let q : i ≡ count = omega arith in
    record {
      same = a.same;
      slots = λ e. open_fits_lem (take count new) (a.apart e) (subst (λ (j : ℕ). every slot_in (take j new) ≡ true) q a.done);
      slots_are = sym (a.slots_are ∙ slotted-end (slots (take count new)) i
          (let z = length-map (take count new) (λ (x : HeldRow). x.slot) in let w = length-take count new in omega arith));
    }
