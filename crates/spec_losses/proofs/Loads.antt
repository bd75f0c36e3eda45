-- What place depends on: the live nodes with their loads, and nothing else of the map. A node marked dead leaves their list, and the
-- others keep their loads, the replicas it holds counting for it as before. Assumes nothing.
use Prim.Native.Nat.{ℕ, suc, ◌≤◌, ◌<◌}
use native.Mathlib.Omega.{arith}
use mathlib.Core.Path.{◌≡◌, refl, sym, ap, ◌∙◌}
use mathlib.Core.Bool.{Bool, true, false, cond}
use mathlib.Core.Logic.{inl, inr}
use mathlib.Core.List.{List, [], ◌∷◌}
use lib.ListN.{length}
use lib.Dec.{eqb}
use borrow.Author.Tests.{eqb-true, ne_eqb}
use Rattle.spec.specs.Lists.{filter, collect, rising}
use Rattle.spec.specs.Map.Tables.{NodeInfo, Spec, Map}
use Rattle.spec.specs.Map.Create.{is_node}
use Rattle.spec.specs.Map.Apply.{node_below, update, dead}
use Rattle.spec.specs.Map.Place.{Load, loads_of, replicas_of, place}
use Rattle.spec_laws.proofs.Rising.{rising_tail}
use Rattle.spec_laws.proofs.Map.Orders.{nodes_by_id}
use Rattle.spec_laws.proofs.Map.Lightest.{Has, above}
use Rattle.spec_losses.specs.Losses.{marked_dead}
use Rattle.spec_losses.specs.Loads.{live_loads, without_load}

-- two maps whose live nodes have the same loads place alike
pub place_by_loads : (m n : Map) (spec : Spec) → live_loads m ≡ live_loads n → place m spec ≡ place n spec
unfolding place
place_by_loads m n spec e = rw e

-- ---- a node marked dead

module _ (load : ℕ → ℕ) where
  abbrev alive : NodeInfo → Bool
  alive i = i.alive

  abbrev loaded : NodeInfo → Load
  loaded i = record { node = i.node; count = load i.node }

  abbrev live : List NodeInfo → List Load
  live ns = collect alive loaded ns

  -- higher ids stay
  above_stay : (n : ℕ) (ns : List NodeInfo) → ((j : NodeInfo) → Has j ns → n < j.node) → without_load n (live ns) ≡ live ns
  unfolding filter collect
  above_stay n [] h = refl
  above_stay n (i ∷ is) h = go i.alive (above_stay n is (λ j t. h j (inr t)))
    where
      ne : eqb i.node n ≡ false
      ne = ne_eqb i.node n (λ q. omega (arith, h i (inl refl)))

      go : (b : Bool) → without_load n (live is) ≡ live is → without_load n (cond b (loaded i ∷ live is) (live is)) ≡ cond b (loaded i ∷ live is) (live is)
      go true more = rw ne (ap (λ (l : List Load). loaded i ∷ l) more)
      go false more = more

  -- one row after the other: the first of that id counts no more
  opened : (i : NodeInfo) (n : ℕ) (is : List NodeInfo)
      → live (update (is_node n) dead (i ∷ is))
      ≡ cond (eqb i.node n) (live is) (cond i.alive (loaded i ∷ live (update (is_node n) dead is)) (live (update (is_node n) dead is)))
  unfolding collect update
  opened i n is = go (eqb i.node n)
    where
      go : (t : Bool) → live (cond t (dead i ∷ is) (i ∷ update (is_node n) dead is))
          ≡ cond t (live is) (cond i.alive (loaded i ∷ live (update (is_node n) dead is)) (live (update (is_node n) dead is)))
      go true = refl
      go false = refl

  dead-leaves : (n : ℕ) (ns : List NodeInfo) → rising node_below ns ≡ true → live (update (is_node n) dead ns) ≡ without_load n (live ns)
  unfolding filter collect update
  dead-leaves n [] h = refl
  dead-leaves n (i ∷ is) h = opened i n is ∙ go (eqb i.node n) i.alive refl (dead-leaves n is (rising_tail node_below nodes_by_id i is h))
    where
      stay : eqb i.node n ≡ true → without_load n (live is) ≡ live is
      stay e = above_stay n is (λ j t. omega (arith, above i is h j t, eqb-true i.node n e))

      go : (t b : Bool) → eqb i.node n ≡ t → live (update (is_node n) dead is) ≡ without_load n (live is)
          → cond t (live is) (cond b (loaded i ∷ live (update (is_node n) dead is)) (live (update (is_node n) dead is)))
          ≡ without_load n (cond b (loaded i ∷ live is) (live is))
      go true true e more = rw e (sym (stay e))
      go true false e more = sym (stay e)
      go false true e more = rw e (ap (λ (l : List Load). loaded i ∷ l) more)
      go false false e more = more

  -- there are no more of them
  pub fewer_live : (n : ℕ) (ns : List NodeInfo) → length (live (update (is_node n) dead ns)) ≤ length (live ns)
  unfolding collect update
  fewer_live n [] = omega arith
  fewer_live n (i ∷ is) = rw (opened i n is) (go (eqb i.node n) i.alive (fewer_live n is))
    where
      go : (t b : Bool) → length (live (update (is_node n) dead is)) ≤ length (live is)
          → length (cond t (live is) (cond b (loaded i ∷ live (update (is_node n) dead is)) (live (update (is_node n) dead is))))
          ≤ length (cond b (loaded i ∷ live is) (live is))
      go true true h = omega arith
      go true false h = omega arith
      go false true h = omega arith
      go false false h = h

-- the node is gone from the loads, and the others are as they were
pub dead_loads : (m : Map) (n : ℕ) → rising node_below m.nodes ≡ true → live_loads (marked_dead m n) ≡ without_load n (live_loads m)
unfolding marked_dead loads_of
dead_loads m n h = dead-leaves (λ k. replicas_of k m.shards) n m.nodes h

pub dead_fewer : (m : Map) (n : ℕ) → length (live_loads (marked_dead m n)) ≤ length (live_loads m)
unfolding marked_dead loads_of
dead_fewer m n = fewer_live (λ k. replicas_of k m.shards) n m.nodes
