-- Paper 02, 2.9: which single live node, marked dead, changes the answer of place for a collection, and what that answer is then.
-- Definitions only.
use Rattle.std.specs.Prelude.{ℕ, Bool, true, false, cond, not, List, [], ◌∷◌, eqb}
use Rattle.std.proofs.Math.Option.{Option, none, some}
use Rattle.spec.specs.Lists.{◌and◌, find, collect}
use Rattle.spec.specs.Keys.{Name}
use Rattle.spec.specs.Refusals.{Refusal, malformed, number_of}
use Rattle.spec.specs.Map.Tables.{NodeInfo, Spec, Collection, Map}
use Rattle.spec.specs.Map.Create.{Placement, is_node, is_named}
use Rattle.spec.specs.Map.Apply.{update, set_nodes, dead}
use Rattle.spec.specs.Map.Place.{Placed, nowhere, placed_on, not_placed, place}
use Rattle.spec.specs.Map.WellFormed.{well_formed_map}

-- state.rs, MarkNodeDead: the map with the node's row marked dead. The replica records that name it stay
unfoldable pub marked_dead : Map → ℕ → Map
marked_dead m n = set_nodes m (update (is_node n) dead m.nodes)

-- ---- the same answer

-- as many elements, and each the same as the other's at its place
unfoldable pub same_all {ℓ} : {A : Type ℓ} → (A → A → Bool) → List A → List A → Bool
same_all same [] [] = true
same_all same [] (y ∷ ys) = false
same_all same (x ∷ xs) [] = false
same_all same (x ∷ xs) (y ∷ ys) = same x y and same_all same xs ys

-- the lists in their order, and the nodes of each in theirs
unfoldable pub same_lists : Placement → Placement → Bool
same_lists a b = same_all (same_all eqb) a b

-- 'An answer of 23 is an answer like the others', and so is none
unfoldable pub same_placed : Placed → Placed → Bool
same_placed nowhere nowhere = true
same_placed nowhere (placed_on b) = false
same_placed nowhere (not_placed s) = false
same_placed (placed_on a) nowhere = false
same_placed (placed_on a) (placed_on b) = same_lists a b
same_placed (placed_on a) (not_placed s) = false
same_placed (not_placed r) nowhere = false
same_placed (not_placed r) (placed_on b) = false
same_placed (not_placed r) (not_placed s) = eqb (number_of r) (number_of s)

-- ---- the list

-- a node whose loss changes the answer, with the answer then
pub record Loss : Type 0 where
  pub node : ℕ
  pub then : Placed

-- the answer with that node marked dead
unfoldable pub loss_of : Map → Spec → NodeInfo → Loss
loss_of m spec i = record { node = i.node; then = place (marked_dead m i.node) spec }

-- 'single live node', 'would change the answer'
unfoldable pub matters : Map → Spec → NodeInfo → Bool
matters m spec i = i.alive and not (same_placed (loss_of m spec i).then (place m spec))

-- 'exactly those ids, lowest first': the node table rises
unfoldable pub losses_of : Map → Spec → List Loss
losses_of m spec = collect (matters m spec) (loss_of m spec) m.nodes

-- 'A collection that the map lacks gives an empty list'
unfoldable pub losses_in : Map → Option Collection → List Loss
losses_in m none = []
losses_in m (some c) = losses_of m c.spec

-- 'for a given collection': place is asked with its shards and replication, its own replicas counting as they do today
unfoldable pub losses : Map → Name → List Loss
losses m name = losses_in m (find (is_named name) m.collections)

-- ---- the call

-- the answer of the call
pub data Losses : Type 0 where
  lost : List Loss → Losses
  not_lost : Refusal → Losses

-- 24 in front, as of place
unfoldable pub losses_call : Map → Name → Losses
losses_call m name = cond (well_formed_map m) (lost (losses m name)) (not_lost malformed)
