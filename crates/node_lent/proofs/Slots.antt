-- Laws of the slots of a header's shards: a shard that is put back after a call on it keeps its own, and headers with the same slots fit
-- alike. Assumes nothing.
use Prim.Native.Nat.{ℕ, ◌<◌}
use mathlib.Core.Path.{◌≡◌, refl, sym, ap, ◌∙◌}
use mathlib.Core.Bool.{Bool, true, cond, not}
use mathlib.Core.List.{List, [], ◌∷◌, map}
use lib.Dec.{eqb, ltb}
use lib.ListN.{get_or}
use lib.Seq.{take-set-lt, map-set_same, get_or-take}
use Rattle.spec.specs.Lists.{◌and◌, any}
use Rattle.spec.specs.Limits.{max_held}
use Rattle.node_shard.specs.declared.Held.{Held}
use Rattle.node_header.specs.declared.HeldRow.{HeldRow}
use Rattle.node_header.specs.declared.Node.{Node}
use Rattle.node_header.specs.View.{used, no_held_row}
use Rattle.node_header.specs.Formed.{formed_node, on_slot, slots_fit}
use Rattle.node_header.specs.Slots.{SameSlots}
use Rattle.node_header.proofs.Formed.{header-apart}
use Rattle.node_lent.specs.Lend.{held_row_with, with_store}

pub slots_kept : (n : Node) (at : ℕ) (h : Held) (stored : ℕ) → at < n.count → SameSlots n (with_store n at h stored)
slots_kept n at h stored under =
    let y = held_row_with (get_or n.held at no_held_row) h stored in
    ap (map (λ (x : HeldRow). x.slot)) (take-set-lt n.count n.held at y under)
    ∙ map-set_same (λ (x : HeldRow). x.slot) (used n) at y no_held_row
    (ap (λ (x : HeldRow). x.slot) (sym (get_or-take n.count n.held at no_held_row under)))

-- whether slots fit is told by the slots alone
apart : List ℕ → Bool
apart [] = true
apart (q ∷ qs) = ltb q max_held and not (any (λ i. eqb i q) qs) and apart qs

any-slot : (q : ℕ) (l : List HeldRow) → any (on_slot q) l ≡ any (λ i. eqb i q) (map (λ (x : HeldRow). x.slot) l)
unfolding any
any-slot q [] = refl
any-slot q (x ∷ xs) = ap (λ (b : Bool). cond (eqb x.slot q) true b) (any-slot q xs)

fit_apart : (l : List HeldRow) → slots_fit l ≡ apart (map (λ (x : HeldRow). x.slot) l)
unfolding slots_fit apart
fit_apart [] = refl
fit_apart (x ∷ xs) =
    ap (λ (b : Bool). ltb x.slot max_held and not b and slots_fit xs) (any-slot x.slot xs)
    ∙ ap (λ (b : Bool). ltb x.slot max_held and not (any (λ i. eqb i x.slot) (map (λ (y : HeldRow). y.slot) xs)) and b) (fit_apart xs)

-- so no two shards come to have one store
pub slots_are_fit : (n p : Node) → SameSlots n p → formed_node n ≡ true → slots_fit (used p) ≡ true
slots_are_fit n p e f = fit_apart (used p) ∙ ap apart e ∙ sym (fit_apart (used n)) ∙ header-apart n f
