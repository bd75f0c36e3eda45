use borrow.Author.Rules.{rules}
use native.Mathlib.Omega.{arith}
use mathlib.Core.Path.{◌≡◌, refl, sym, ◌∙◌}
use Prim.Native.Nat.{◌≤◌}
use lib.ListN.{length}
use borrow.Author.Tests.{lt-ltb, le-ltb}
use Rattle.spec.specs.Map.Change.{id_below}
use Rattle.spec_laws.proofs.Map.Orders.{numbers}
use Rattle.map_tables.proofs.Tables.{put_self, insert_self, room_self, place-most, carried, of_field}
use Rattle.map_tables.proofs.holders_of.synced_added.Goals as goal
use Rattle.map_tables.proofs.holders_of.synced_added.Goals.{Start, then-at-count+else-row-node, else-at-count}

fits : (c : Start) → c.args.s.count ≤ length c.args.s.items
fits c = let h : length c.args.s.items ≡ 8 = search (rules, of_field) in omega (arith, c.requires.0)

pub returns-then-row-node : goal.returns-then-row-node
returns-then-row-node c = (
  put_self c.args.s.items c.args.s.count (fits (goal.at.returns-then-row-node c).Start) id_below c.args.node
      (λ y. numbers.apart y.0 c.args.node.0) c.synced_place-at.result c.synced_place-at.ensures
      _ c.if-at-count.true (le-ltb _ _ c.if-row-node.true),
  search rules,
)

pub loop-i-init : goal.loop-i-init
loop-i-init c =
    let most = place-most c.args.s.items c.args.s.count (fits (goal.at.loop-i-init c).Start) (λ y. id_below y c.args.node) in (
      omega (arith, c.synced_place-at.ensures),
      room_self c.args.s.items c.args.s.count (fits (goal.at.loop-i-init c).Start) id_below c.args.node
          (λ y. numbers.apart y.0 c.args.node.0) c.synced_place-at.result c.synced_place-at.ensures
          _ 8 (λ h. elim c.if-at-count.branch [ then-at-count+else-row-node w ↦ lt-ltb _ _ w.if-row-node.false | else-at-count w ↦ absurd (omega (arith, w.if-at-count.false)) ]) c.requires.1,
      search (rules, of_field),
      refl,
    )

pub returns : goal.returns
returns c =
    let most = place-most c.args.s.items c.args.s.count (fits (goal.at.returns c).Start) (λ y. id_below y c.args.node) in (
      carried c.args.s.items c.loop-i.items c.synced_place-at.result c.args.s.count c.loop-i.i _ _
          c.loop-i.invariant.3 (search rules) (omega (arith, c.synced_place-at.ensures)) (search rules) (fits (goal.at.returns c).Start)
          ∙ sym (insert_self c.args.s.items c.args.s.count (fits (goal.at.returns c).Start) id_below c.args.node
          (λ y. numbers.apart y.0 c.args.node.0) c.synced_place-at.result c.synced_place-at.ensures
          _ (λ h. elim c.if-at-count.branch [ then-at-count+else-row-node w ↦ lt-ltb _ _ w.if-row-node.false | else-at-count w ↦ absurd (omega (arith, w.if-at-count.false)) ])),
      search rules,
    )
