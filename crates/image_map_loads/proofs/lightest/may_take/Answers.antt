use mathlib.Core.Path.{sym, ◌∙◌, ap}
use Prim.Native.Nat.{ℕ}
use lib.ListN.{take}
use lib.Dec.{eqb}
use Rattle.spec.specs.Lists.{◌and◌}
use Rattle.spec.specs.Map.Place.{on_node}
use Rattle.image_parts.specs.Parts.{replicas_at}
use Rattle.image_map_loads.proofs.Loads.{none-held, node-id}
use Rattle.image_map_loads.proofs.lightest.may_take.Goals as goal

pub returns-then-not-is_alive : goal.returns-then-not-is_alive
unfolding ◌and◌
returns-then-not-is_alive c = let e = sym c.is_alive.ensures ∙ c.if-not-is_alive.true in rw e

pub returns : goal.returns
unfolding ◌and◌
returns c =
    let e = sym c.is_alive.ensures ∙ c.if-not-is_alive.false in
    let rs = take c.args.held (replicas_at c.args.s.now c.args.at) in
    rw e (ap (λ (k : ℕ). eqb k 0) (c.replicas_on.ensures.0 ∙ ap (λ (n : ℕ). on_node n rs) (c.get8.ensures ∙ sym (node-id c.args.s.now c.args.row))) ∙ none-held _ rs)
