-- Every law of the list, put to the small map of Cases: its premises hold there. Assumes nothing.
use Prim.Native.Nat.{ℕ}
use native.Mathlib.Omega.{arith}
use mathlib.Core.Path.{◌≡◌, refl, sym, ap, ◌∙◌, subst}
use mathlib.Core.Bool.{true, false}
use mathlib.Core.Logic.{inl, inr}
use mathlib.Core.List.{List, [], ◌∷◌}
use mathlib.Core.Option.{some}
use lib.ListN.{length}
use Rattle.spec.specs.Lists.{find, rising}
use Rattle.spec.specs.Refusals.{Refusal, no_room}
use Rattle.spec.specs.Map.Tables.{NodeInfo, Map}
use Rattle.spec.specs.Map.Change.{accepts}
use Rattle.spec.specs.Map.Create.{is_named, has_collection, node_at}
use Rattle.spec.specs.Map.Apply.{node_below, session_at, commit}
use Rattle.spec.specs.Map.Calls.{apply_call}
use Rattle.spec.specs.Map.Place.{Load, Placed, nowhere, placed_on, not_placed, place}
use Rattle.spec.specs.Layout.Request.{mark_dead, Request}
use Rattle.spec.specs.Cases.Commands.{c, d, sized, node, from}
use Rattle.spec_laws.proofs.Map.Lightest.{Has}
use Rattle.spec.proofs.Opened.{opened}
use Rattle.spec_losses.specs.Losses.{Loss, marked_dead, same_all, same_lists, same_placed, loss_of, matters, losses_of, losses_in, losses, lost, losses_call}
use Rattle.spec_losses.specs.Loads.{live_loads}
use Rattle.spec_losses.proofs.Cases.{hall, loss, all, formed}
use Rattle.spec_losses.proofs.Loads.{place_by_loads, dead_loads}
use Rattle.spec_losses.proofs.Exactly.{Matters, listed_matters, matters_listed, lacking, loss_below, ids-rise}
use Rattle.spec_losses.proofs.Marked.{decided, as_committed, new-answer}
use Rattle.spec_losses.proofs.Never23.{never_23}

abbrev m : Map
m = hall (sized 2 1 2)

abbrev four : Loss
four = loss 4 (placed_on ((5 ∷ 1 ∷ []) ∷ []))

list : losses m c ≡ four ∷ loss 5 (placed_on ((4 ∷ 1 ∷ []) ∷ [])) ∷ []
unfolding opened losses losses_in losses_of loss_of matters marked_dead same_all same_lists same_placed
list = refl

four_listed : Has four (losses m c)
four_listed = rw list (inl refl)

-- ---- exactly

-- node 4 is alive, and without it place answers otherwise
abbrev four-row : NodeInfo
four-row = node 4 [] 7 true

other-answer : place (marked_dead m 4) (sized 2 1 2) ≡ place m (sized 2 1 2) → ⊥
unfolding opened marked_dead
other-answer e = let z : ◌≡◌ {A = ℕ} 5 4 = ap first e in absurd (omega arith)
  where
    first : Placed → ℕ
    first (placed_on ((n ∷ ns) ∷ ls)) = n
    first (placed_on ([] ∷ ls)) = 0
    first (placed_on []) = 0
    first nowhere = 0
    first (not_placed r) = 0

four-matters : Matters m c four
unfolding opened marked_dead
four-matters = record {
  collection = record { name = c; spec = sized 2 1 2 };
  found = refl;
  row = four-row;
  known = inr (inr (inr (inl refl)));
  live = refl;
  id = refl;
  answer = refl;
  changes = other-answer;
}

so_listed : Has four (losses m c)
so_listed = matters_listed m c four four-matters

so_matters : Matters m c four
so_matters = listed_matters m c four four_listed

in_order_lem : rising loss_below (losses m c) ≡ true
in_order_lem = ids-rise m c formed

-- the map has no 'd'
no_d : losses_call m d ≡ lost []
unfolding opened
no_d = lacking m d formed refl

-- ---- the new answer

-- client 1 marks node 4 dead as its first command
abbrev marking : Request
marking = from 1 10 1 (mark_dead 4 7)

then-answered : ((apply_call m marking).answer ≡ accepts) × (place (apply_call m marking).map (sized 2 1 2) ≡ placed_on ((5 ∷ 1 ∷ []) ∷ []))
unfolding opened
then-answered =
    new-answer m c formed four four_listed (record { name = c; spec = sized 2 1 2 }) four-row marking refl refl refl refl

committed : commit m (mark_dead 4 7) ≡ marked_dead m 4
committed = as_committed m 4 7

-- ---- never 23

-- 17 shards on as many nodes as replicas: 23 now, and without any of them none
full-list : losses (hall (sized 2 17 4)) c ≡ all
unfolding opened losses losses_in losses_of loss_of matters marked_dead same_all same_lists same_placed
full-list = refl

was_23 : place (hall (sized 2 17 4)) (sized 2 17 4) ≡ not_placed no_room
unfolding opened
was_23 = refl

no_23 : (r : Refusal) → nowhere ≡ not_placed r → ⊥
no_23 r e = never_23 (hall (sized 2 17 4)) c (loss 1 nowhere) r (rw full-list (inl refl)) e

-- ---- loads

abbrev at : ℕ → ℕ → Load
at n k = record { node = n; count = k }

without-four : live_loads (marked_dead m 4) ≡ at 1 2 ∷ at 2 3 ∷ at 5 1 ∷ []
unfolding opened
without-four = dead_loads m 4 refl

-- the spec of a collection does not enter the loads
alike : place m (sized 2 2 2) ≡ place (hall (sized 3 1 1)) (sized 2 2 2)
unfolding opened
alike = place_by_loads m (hall (sized 3 1 1)) (sized 2 2 2) refl
