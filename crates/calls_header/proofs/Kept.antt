-- A call on a header's image leaves a header that is well formed if the specification's node after it is. Assumes nothing.
use Prim.Native.Nat.{ℕ}
use mathlib.Core.Bool.{Bool, true, false}
use mathlib.Core.Path.{◌≡◌, refl, sym, ap, ◌∙◌}
use mathlib.Core.List.{List}
use lib.Dec.{leb}
use Rattle.spec.specs.Lists.{◌and◌, every}
use Rattle.spec.specs.Limits.{max_held}
use Rattle.spec.specs.Node.Held as held
use Rattle.spec.specs.Node.Shown as show
use Rattle.spec.specs.Node.WellFormed.{well_formed_header}
use Rattle.spec.specs.declared.DataNodeId.{DataNodeId}
use Rattle.spec_laws.proofs.Lists.{and_true, and_left, and_right}
use Rattle.node_shard.specs.declared.WaitAnswer.{WaitAnswer}
use Rattle.node_shard.specs.declared.WaitAnswer.TheVariants as W
use Rattle.node_header.specs.declared.Node.{Node}
use Rattle.node_header.specs.View.{Stores, view_node, used}
use Rattle.node_header.specs.Formed.{counts_fit, slots_fit, lent_node, formed_node}
use Rattle.node_header.specs.Arrays.{arrays_fit}
use Rattle.node_header.specs.Slots.{Keeps}
use Rattle.node_header.proofs.Formed.{formed-lent}
use Rattle.node_header.proofs.Shards.{some_stores}
use Rattle.node_show.specs.declared.ShownAnswer.{ShownAnswer}
use Rattle.node_show.specs.declared.ShownAnswer.TheVariants as S
use Rattle.image_header.specs.Image.{node_at}
use Rattle.image_header.specs.Becomes.{HeaderBecomes}
use Rattle.calls_header.specs.Leaves.{StaysFormed}
use Rattle.calls_header.specs.Shows.{worker_bytes, show_said, is_shown}
use Rattle.calls_header.specs.Waits.{id_bytes, rows_room, wait_said, is_waited}

-- ---- the header's test is that of its arrays, and the specification's

module _ (n : Node) where
  abbrev few : Bool
  few = leb n.count max_held

  abbrev fit : Bool
  fit = every counts_fit (used n)

  abbrev apart : Bool
  apart = slots_fit (used n)

  arrays_of : formed_node n ≡ true → arrays_fit n ≡ true
  unfolding arrays_fit lent_node
  arrays_of e =
      let well = well_formed_header (view_node some_stores n) in
      let l = sym (formed-lent n some_stores) ∙ e in
      let r = and_right few (fit and apart and well) l in
      and_true few (fit and apart) (and_left few (fit and apart and well) l)
      (and_true fit apart (and_left fit (apart and well) r) (and_left apart well (and_right fit (apart and well) r)))

  formed_of : (st : Stores) → arrays_fit n ≡ true → well_formed_header (view_node st n) ≡ true → formed_node n ≡ true
  unfolding arrays_fit lent_node
  formed_of st a w =
      let well = well_formed_header (view_node st n) in
      let r = and_right few (fit and apart) a in
      formed-lent n st
      ∙ and_true few (fit and apart and well) (and_left few (fit and apart) a)
      (and_true fit (apart and well) (and_left fit apart r) (and_true apart well (and_right fit apart r) w))

-- ---- written back, or left

module _ (s t : List ℕ) (after : Stores → held.Node) where
  pub formed-put : (n : Node) → HeaderBecomes s t n → Keeps (node_at s) n → ((st : Stores) → view_node st n ≡ after st) → StaysFormed s t after
  formed-put n b keeps view e st w = b.formed (formed_of n st (keeps.fits (arrays_of (node_at s) e)) (ap well_formed_header (view st) ∙ w))

  pub formed-left : t ≡ s → StaysFormed s t after
  formed-left p e st w = ap (λ (u : List ℕ). formed_node (node_at u)) p ∙ e

-- a wait that writes no header
pub wait_left_lem : (w : WaitAnswer) (s p a : List ℕ) (l : List DataNodeId) (n : Node) → (is_waited w and rows_room id_bytes 8 p a l) ≡ false
    → (wait_said w s p a l n).header ≡ s
unfolding ◌and◌
wait_left_lem W.Done s p a l n e = rw e
wait_left_lem W.Waiting s p a l n e = rw e
wait_left_lem (W.NotPrimary own) s p a l n e = refl
wait_left_lem (W.Refused k) s p a l n e = refl

-- a map shown that writes none
pub show_left_lem : (w : ShownAnswer) (s p a : List ℕ) (l : List show.Worker) (n : Node) → (is_shown w and rows_room worker_bytes 54 p a l) ≡ false
    → (show_said w s p a l n).header ≡ s
unfolding ◌and◌
show_left_lem S.Shown s p a l n e = rw e
show_left_lem (S.Refused k) s p a l n e = refl
