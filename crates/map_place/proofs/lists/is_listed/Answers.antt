use borrow.Author.Rules.{rules}
use native.Mathlib.Omega.{arith}
use mathlib.Core.Path.{◌≡◌, refl, sym, ◌∙◌}
use Prim.Native.Nat.{◌≤◌}
use lib.ListN.{length, take}
use lib.Dec.{eqb}
use borrow.Author.Tests.{eq-eqb, ne_eqb}
use Rattle.spec.specs.declared.DataNodeId.{DataNodeId}
use Rattle.map_tables.proofs.Tables.{of_field, any-on, any_stop, any-end}
use Rattle.map_place.proofs.Collecting.{any-map}
use Rattle.map_place.proofs.lists.is_listed.Goals as goal
use Rattle.map_place.proofs.lists.is_listed.Goals.{Start}

-- the rows in use are in the array
fits : (c : Start) → c.args.l.count ≤ length c.args.l.nodes
fits c = let h : length c.args.l.nodes ≡ 8 = search (rules, of_field) in omega (arith, c.requires)

pub loop-i-init : goal.loop-i-init
loop-i-init c = (search rules, refl)

pub returns-then-node-id : goal.returns-then-node-id
returns-then-node-id c =
    sym (any-map (λ (d : DataNodeId). d.0) (eqb c.args.node.0) (take c.args.l.count c.args.l.nodes) ∙ any_stop (λ (d : DataNodeId). eqb c.args.node.0 d.0) c.args.l.nodes c.args.l.count (fits (goal.at.returns-then-node-id c).Start) c.loop-i.i c.loop-i.invariant.1 _ (search rules) (eq-eqb _ _ c.if-node-id.true))

pub loop-i-preserved : goal.loop-i-preserved
loop-i-preserved c =
    (search rules, any-on (λ (d : DataNodeId). eqb c.args.node.0 d.0) c.args.l.nodes c.args.l.count (fits (goal.at.loop-i-preserved c).Start) c.loop-i.i c.loop-i.invariant.1 _ (search rules) (ne_eqb _ _ c.if-node-id.false))

pub returns : goal.returns
returns c =
    sym (any-map (λ (d : DataNodeId). d.0) (eqb c.args.node.0) (take c.args.l.count c.args.l.nodes) ∙ any-end (λ (d : DataNodeId). eqb c.args.node.0 d.0) c.args.l.nodes c.args.l.count (fits (goal.at.returns c).Start) c.loop-i.i c.loop-i.invariant.1 (search rules))
