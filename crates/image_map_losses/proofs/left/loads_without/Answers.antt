use borrow.Author.Rules.{rules}
use native.Mathlib.Omega.{arith}
use mathlib.Core.Path.{◌≡◌, refl, ◌∙◌, ap}
use Prim.Native.Nat.{ℕ}
use Rattle.spec.specs.Lists.{collect}
use Rattle.map_place.specs.Read.{loads_in, Columns}
use Rattle.map_place.proofs.Pairs.{loads_size}
use Rattle.image_map_losses.proofs.OnLoads.{kept_as_lem, others, left_past, left-take}
use Rattle.spec.specs.Map.Place as place
use Rattle.image_map_losses.proofs.left.loads_without.Goals as goal

pub loop-i-init : goal.loop-i-init
unfolding collect
loop-i-init c = (omega arith, omega arith, search rules, search rules, refl)

pub loop-i-preserved-then-id-node : goal.loop-i-preserved-then-id-node
loop-i-preserved-then-id-node c =
    let lt = c.loop-i-test.true in let k : Columns c.args.l.ids c.args.l.counts c.args.l.count = record { named = search rules; counted = search rules; few = c.requires } in
    (omega arith, omega arith, c.loop-i.invariant.2, c.loop-i.invariant.3, left_past c.args.l.ids c.args.l.counts c.loop-i.ids c.loop-i.counts c.args.l.count c.loop-i.n c.loop-i.i c.args.node.0 k (record { named = c.loop-i.invariant.2; counted = c.loop-i.invariant.3; few = omega (arith, c.requires) }) lt c.loop-i.invariant.4 c.if-id-node.true)

pub loop-i-preserved : goal.loop-i-preserved
loop-i-preserved c =
    let lt = c.loop-i-test.true in let k : Columns c.args.l.ids c.args.l.counts c.args.l.count = record { named = search rules; counted = search rules; few = c.requires } in
    (omega arith, omega arith, search rules, search rules, left-take c.args.l.ids c.args.l.counts c.loop-i.ids c.loop-i.counts c.args.l.count c.loop-i.n c.loop-i.i c.args.node.0 k (record { named = c.loop-i.invariant.2; counted = c.loop-i.invariant.3; few = omega (arith, c.requires) }) lt c.loop-i.invariant.4 (omega (arith, c.requires)) c.if-id-node.false)

pub returns : goal.returns
returns c =
    let e : c.loop-i.i ≡ c.args.l.count = omega (arith, c.loop-i-test.false) in
    record {
      loads = c.loop-i.invariant.4 ∙ ap (λ (k : ℕ). collect (others c.args.node.0) (λ (x : place.Load). x) (loads_in c.args.l.ids c.args.l.counts k)) e ∙ kept_as_lem (others c.args.node.0) (loads_in c.args.l.ids c.args.l.counts c.args.l.count);
      size = loads_size c.loop-i.ids c.loop-i.counts c.loop-i.n (record { named = c.loop-i.invariant.2; counted = c.loop-i.invariant.3; few = omega (arith, c.requires) });
      count = omega (arith, c.requires);
    }
