-- The lists of one small map for several specs, computed by the checker: nodes 1, 2, 4 and 5 live with 2, 3, 1 and 1 replicas, 3 dead, one id
-- that the map does not know. Assumes nothing.
use Prim.Native.Nat.{ℕ}
use mathlib.Core.Path.{◌≡◌, refl}
use mathlib.Core.Bool.{true}
use mathlib.Core.List.{List, [], ◌∷◌, map}
use Rattle.spec.specs.Map.Tables.{Spec, Map}
use Rattle.spec.specs.Map.Place.{Placed, nowhere, placed_on}
use Rattle.spec.specs.Map.WellFormed.{well_formed_map}
use Rattle.spec.specs.Cases.Commands.{c, d, sized}
use Rattle.spec.specs.Cases.Placing.{loaded}
use Rattle.spec.proofs.Opened.{opened}
use Rattle.spec_losses.specs.Losses.{Loss, marked_dead, same_all, same_lists, same_placed, loss_of, matters, losses_of, losses_in, losses}

-- the map, with the collection under another spec
abbrev pub hall : Spec → Map
hall spec = record {
  version = 9;
  nodes = loaded.nodes;
  collections = record { name = c; spec = spec } ∷ [];
  shards = loaded.shards;
  sessions = [];
}

abbrev pub loss : ℕ → Placed → Loss
loss n p = record { node = n; then = p }

-- every live node, with none
abbrev pub all : List Loss
all = loss 1 nowhere ∷ loss 2 nowhere ∷ loss 4 nowhere ∷ loss 5 nowhere ∷ []

pub record Row : Type 0 where
  pub spec : Spec
  pub list : List Loss

abbrev row : (shards replication : ℕ) → List Loss → Row
row s r l = record { spec = sized 2 s r; list = l }

-- the nodes of the present placement, if there are more live ones than replicas; every live node, if there are just as many, also where
-- the answer was 23 or had no list; nobody where it is none or 23 either way, or has no node
abbrev pub rows : List Row
rows =
    row 1 2 (loss 4 (placed_on ((5 ∷ 1 ∷ []) ∷ [])) ∷ loss 5 (placed_on ((4 ∷ 1 ∷ []) ∷ [])) ∷ [])
    ∷ row 3 3
    (loss 1 (placed_on ((4 ∷ 5 ∷ 2 ∷ []) ∷ (4 ∷ 5 ∷ 2 ∷ []) ∷ (4 ∷ 5 ∷ 2 ∷ []) ∷ []))
    ∷ loss 2 (placed_on ((4 ∷ 5 ∷ 1 ∷ []) ∷ (4 ∷ 5 ∷ 1 ∷ []) ∷ (4 ∷ 5 ∷ 1 ∷ []) ∷ []))
    ∷ loss 4 (placed_on ((5 ∷ 1 ∷ 2 ∷ []) ∷ (5 ∷ 1 ∷ 2 ∷ []) ∷ (5 ∷ 1 ∷ 2 ∷ []) ∷ []))
    ∷ loss 5 (placed_on ((4 ∷ 1 ∷ 2 ∷ []) ∷ (4 ∷ 1 ∷ 2 ∷ []) ∷ (4 ∷ 1 ∷ 2 ∷ []) ∷ []))
    ∷ [])
    ∷ row 1 4 all
    ∷ row 17 4 all
    ∷ row 0 4 all
    ∷ row 1 5 []
    ∷ row 17 3 []
    ∷ row 0 3 []
    ∷ row 2 0 []
    ∷ []

pub rows_hold : map (λ (r : Row). losses (hall r.spec) c) rows ≡ map (λ (r : Row). r.list) rows
unfolding opened losses losses_in losses_of loss_of matters marked_dead same_all same_lists same_placed
rows_hold = refl

pub other_name_lem : losses (hall (sized 2 1 2)) d ≡ []
unfolding opened losses losses_in
other_name_lem = refl

pub formed : well_formed_map (hall (sized 2 1 2)) ≡ true
unfolding opened
formed = refl
