use borrow.Author.Rules.{rules}
use native.Mathlib.Omega.{arith}
use mathlib.Core.Path.{◌≡◌, sym, ◌∙◌}
use Prim.Native.Nat.{◌≤◌}
use lib.ListN.{length}
use borrow.Author.Tests.{lt-ltb, le-ltb}
use Rattle.spec.specs.Map.Change.{id_below}
use Rattle.map_tables.proofs.Tables.{row_on, row_stop, row-end, of_field}
use Rattle.map_tables.proofs.holders_of.synced_place.Goals as goal
use Rattle.map_tables.proofs.holders_of.synced_place.Goals.{Start}

fits : (c : Start) → c.args.s.count ≤ length c.args.s.items
fits c = let h : length c.args.s.items ≡ 8 = search (rules, of_field) in omega (arith, c.requires)

pub returns-then-node-row : goal.returns-then-node-row
returns-then-node-row c =
    row_stop c.args.s.items c.args.s.count (fits (goal.at.returns-then-node-row c).Start) (λ y. id_below y c.args.node) c.loop-i.i c.loop-i.invariant.1 _ (search rules) (le-ltb _ _ c.if-node-row.true)

pub loop-i-preserved : goal.loop-i-preserved
loop-i-preserved c =
    (search rules, row_on c.args.s.items c.args.s.count (fits (goal.at.loop-i-preserved c).Start) (λ y. id_below y c.args.node) c.loop-i.i c.loop-i.invariant.1 _ (search rules) (lt-ltb _ _ c.if-node-row.false))

pub returns : goal.returns
returns c =
    let e : c.loop-i.i ≡ c.args.s.count = search rules in
    sym e ∙ row-end c.args.s.items c.args.s.count (fits (goal.at.returns c).Start) (λ y. id_below y c.args.node) c.loop-i.i c.loop-i.invariant.1 (search rules)
