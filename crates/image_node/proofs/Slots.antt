-- The shards of a header by their slots: no two have one, so that a slot tells the place. Two families of stores that agree on the shards
-- in use are read as one node. Assumes nothing.
use Prim.Native.Nat.{ℕ, zero, suc, ◌≤◌, ◌<◌}
use mathlib.Core.Path.{◌≡◌, refl, sym, ap, ◌∙◌}
use mathlib.Core.Bool.{Bool, true, false, cond, not}
use mathlib.Core.List.{List, [], ◌∷◌, map}
use mathlib.Core.Option.{some}
use native.Mathlib.Omega.{arith}
use lib.Dec.{eqb, ltb}
use lib.ListN.{length, get_or, length-map, get_or-map}
use borrow.Author.Tests.{eqb-false, ltb-true, not-true}
use Rattle.spec.specs.Lists.{◌and◌, any, nth}
use Rattle.spec.specs.Log.{Log, Vectors}
use Rattle.spec.specs.Node.Held as held
use Rattle.spec.specs.Node.Shards.{with_held}
use Rattle.spec_laws.proofs.Lists.{and_left, and_right, not_both, nth_get_d}
use Rattle.node_shard.specs.View.{view_held}
use Rattle.map_tables.specs.Names.{view_key}
use Rattle.node_header.specs.declared.HeldRow.{HeldRow}
use Rattle.node_header.specs.declared.Node.{Node}
use Rattle.node_header.specs.View.{Stores, view_held_row, view_node, used, no_held_row}
use Rattle.node_header.specs.Formed.{on_slot, slots_fit}
use Rattle.node_header.specs.Slots.{slots_of}

-- ---- a slot in use is one of the eight

pub slots-below : (l : List HeldRow) → slots_fit l ≡ true → (i : ℕ) → (get_or l i no_held_row).slot < 8
unfolding slots_fit
slots-below [] e i = omega arith
slots-below (x ∷ xs) e zero = ltb-true x.slot 8 (and_left (ltb x.slot 8) _ e)
slots-below (x ∷ xs) e (suc i) = slots-below xs (and_right (not (any (on_slot x.slot) xs)) (slots_fit xs) (and_right (ltb x.slot 8) _ e)) i

-- ---- a slot tells the place

pub none-on : (q : ℕ) (l : List HeldRow) (i : ℕ) → any (on_slot q) l ≡ false → i < length l → (get_or l i no_held_row).slot ≡ q → ⊥
unfolding any
none-on q [] i e h z = omega arith
none-on q (x ∷ xs) i e h z = go (eqb x.slot q) refl i e h z (none-on q xs)
  where
    go : (b : Bool) → eqb x.slot q ≡ b → (i : ℕ) → cond b true (any (on_slot q) xs) ≡ false → i < suc (length xs) → (get_or (x ∷ xs) i no_held_row).slot ≡ q
        → ((j : ℕ) → any (on_slot q) xs ≡ false → j < length xs → (get_or xs j no_held_row).slot ≡ q → ⊥) → ⊥
    go true c i e h z more = not_both false (sym e) refl
    go false c zero e h z more = eqb-false x.slot q c z
    go false c (suc i) e h z more = more i e (omega arith) z

pub slots-one : (l : List HeldRow) → slots_fit l ≡ true → (i j : ℕ) → i < length l → j < length l → (get_or l i no_held_row).slot ≡ (get_or l j no_held_row).slot → i ≡ j
unfolding slots_fit
slots-one [] f i j h g e = absurd (omega arith)
slots-one (x ∷ xs) f zero zero h g e = refl
slots-one (x ∷ xs) f zero (suc j) h g e =
    absurd (none-on x.slot xs j (not-true _ (and_left _ _ (and_right _ _ f))) (omega arith) (sym e))
slots-one (x ∷ xs) f (suc i) zero h g e =
    absurd (none-on x.slot xs i (not-true _ (and_left _ _ (and_right _ _ f))) (omega arith) e)
slots-one (x ∷ xs) f (suc i) (suc j) h g e = ap suc (slots-one xs (and_right _ _ (and_right _ _ f)) i j (omega arith) (omega arith) e)

pub slot_at : (n : Node) (i : ℕ) → get_or (slots_of n) i 0 ≡ (get_or (used n) i no_held_row).slot
slot_at n i = get_or-map (λ (x : HeldRow). x.slot) (used n) i no_held_row

-- ---- families that agree

pub kept_agree : (s t : Stores) (x : HeldRow) → s.log x.slot x.held.last ≡ t.log x.slot x.held.last
    → s.vectors x.slot x.held.last x.stored ≡ t.vectors x.slot x.held.last x.stored → view_held_row s x ≡ view_held_row t x
kept_agree s t x l v =
    ap (λ (z : Log). view_held (view_key x.key) z (s.vectors x.slot x.held.last x.stored) x.held) l
    ∙ ap (λ (z : Vectors). view_held (view_key x.key) (t.log x.slot x.held.last) z x.held) v

kepts_agree : (f g : HeldRow → held.Held) (l : List HeldRow) → ((i : ℕ) → i < length l → f (get_or l i no_held_row) ≡ g (get_or l i no_held_row)) → map f l ≡ map g l
kepts_agree f g [] h = refl
kepts_agree f g (x ∷ xs) h =
    ap (λ (y : held.Held). y ∷ map f xs) (h 0 (omega arith))
    ∙ ap (λ (l : List held.Held). g x ∷ l) (kepts_agree f g xs (λ i q. h (suc i) (omega arith)))

pub nodes_agree : (s t : Stores) (n : Node)
    → ((i : ℕ) → i < length (used n) → view_held_row s (get_or (used n) i no_held_row) ≡ view_held_row t (get_or (used n) i no_held_row)) → view_node s n ≡ view_node t n
nodes_agree s t n h = ap (with_held (view_node t n)) (kepts_agree (view_held_row s) (view_held_row t) (used n) h)

-- the shard in a place, as it is read
pub view-nth : (s : Stores) (n : Node) (i : ℕ) → i < length (used n) → nth (view_node s n).held i ≡ some (view_held_row s (get_or (used n) i no_held_row))
view-nth s n i h =
    let long = length-map (used n) (view_held_row s) in
    nth_get_d (map (view_held_row s) (used n)) i (view_held_row s no_held_row) (omega arith) ∙ ap some (get_or-map (view_held_row s) (used n) i no_held_row)
