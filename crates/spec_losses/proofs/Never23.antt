-- No new answer is 23: it hangs on the spec alone once the live nodes are enough, so it was the answer before. Assumes nothing.
use Prim.Native.Nat.{ℕ, ◌≤◌, ◌<◌}
use native.Mathlib.Omega.{arith}
use mathlib.Core.Path.{◌≡◌, refl, sym, ap, ◌∙◌}
use mathlib.Core.Bool.{Bool, true, false, cond}
use mathlib.Core.List.{List}
use lib.ListN.{length}
use lib.Dec.{ltb}
use borrow.Author.Tests.{ltb-false, le-ltb}
use Rattle.spec.specs.Lists.{◌or◌}
use Rattle.spec.specs.Limits.{max_lists, max_listed}
use Rattle.spec.specs.Keys.{Name}
use Rattle.spec.specs.Refusals.{Refusal, no_room}
use Rattle.spec.specs.Map.Tables.{Spec, Map}
use Rattle.spec.specs.Map.Create.{Placement}
use Rattle.spec.specs.Map.Place.{Load, Placed, nowhere, placed_on, not_placed, place_shards, place_on, place}
use Rattle.spec_laws.proofs.Map.Lightest.{Has}
use Rattle.spec_losses.specs.Losses.{Loss, marked_dead, losses}
use Rattle.spec_losses.specs.Loads.{live_loads}
use Rattle.spec_losses.proofs.Loads.{dead_fewer}
use Rattle.spec_losses.proofs.Exactly.{Matters, listed_matters}

-- 23 of some loads is 23 of no fewer
still_23 : (spec : Spec) (l k : List Load) (r : Refusal) → length l ≤ length k → place_on spec l ≡ not_placed r → place_on spec k ≡ not_placed r
unfolding place_on
still_23 spec l k r h =
    go (ltb (length l) spec.replication) (ltb max_lists spec.shards or ltb max_listed spec.replication) refl
    (place_shards spec.shards spec.replication l) (place_shards spec.shards spec.replication k)
  where
    go : (b t : Bool) → ltb (length l) spec.replication ≡ b → (p q : Placement) → cond b nowhere (cond t (not_placed no_room) (placed_on p)) ≡ not_placed r
        → cond (ltb (length k) spec.replication) nowhere (cond t (not_placed no_room) (placed_on q)) ≡ not_placed r
    go true t f p q e = absurd (let z : ◌≡◌ {A = ℕ} 0 1 = cc in omega arith)
    go false true f p q e = rw (le-ltb (length k) spec.replication (omega (arith, ltb-false (length l) spec.replication f))) e
    go false false f p q e = absurd (let z : ◌≡◌ {A = ℕ} 0 1 = cc in omega arith)

pub never_23 : (m : Map) (name : Name) (x : Loss) (r : Refusal) → Has x (losses m name) → x.then ≡ not_placed r → ⊥
unfolding place
never_23 m name x r h e =
    let t = listed_matters m name x h in
    let spec = t.collection.spec in
    let now : place_on spec (live_loads (marked_dead m t.row.node)) ≡ not_placed r = sym t.answer ∙ e in
    t.changes (now ∙ sym (still_23 spec (live_loads (marked_dead m t.row.node)) (live_loads m) r (dead_fewer m t.row.node) now))
