use borrow.Author.Rules.{rules}
use native.Mathlib.Omega.{arith}
use mathlib.Core.Path.{◌≡◌, refl, sym, ◌∙◌, ap}
use mathlib.Core.List.{List, [], ◌∷◌, ◌++◌}
use Prim.Native.Nat.{ℕ, ◌+◌, ◌-◌, ◌*◌, ◌≤◌, ◌<◌}
use lib.ListN.{length, get_or, take, drop, set}
use mathlib.Core.Bool.{Bool, not, true, false}
use mathlib.Core.List.{flatten}
use mathlib.Core.Option.{some}
use Rattle.spec.specs.Lists.{find}
use Rattle.spec.specs.Map.Create.{node_at, is_alive, first_not_alive}
use Rattle.spec.specs.declared.DataNodeId.{DataNodeId}
use Rattle.map_tables.specs.View.{view_list, view_placement}
use Rattle.map_create.specs.Walk.{walked_of}
use Rattle.map_tables.proofs.Defaults.{no_list, no_id}
use Rattle.image_map_create.proofs.ListLaws.{ends}
use Rattle.map_create.proofs.Walk.{open_list, no_list_lem, node-on, node_stop, nodes-end}
use Rattle.map_create.proofs.List.{list-row}
use Rattle.map_tables.proofs.Tables.{used-size, used-row, of_field}
use Rattle.image_map_create.proofs.lists.walk.Goals as goal
use Rattle.image_map_create.proofs.lists.walk.Goals.{Start}

fits : (c : Start) → c.args.p.count ≤ length c.args.p.lists
fits c = let h : length c.args.p.lists ≡ 16 = search (rules, of_field) in omega (arith, c.requires.1)

size : (c : Start) → length (view_placement c.args.p) ≡ c.args.p.count
size c = used-size view_list c.args.p.lists c.args.p.count (fits c)

pub loop-i-init : goal.loop-i-init
loop-i-init c = (search rules, refl)

pub loop-j-init : goal.loop-j-init
loop-j-init c = (
  search rules,
  c.list_size-n.ensures.1,
  c.list_size-n.ensures.0,
  c.loop-i.invariant.1 ∙ open_list (ends c.args.map.now) (view_placement c.args.p) c.loop-i.i _ [] (omega (arith, size (goal.at.loop-j-init c).Start, c.loop-i-test.true))
      (used-row view_list c.args.p.lists c.args.p.count (fits (goal.at.loop-j-init c).Start) c.loop-i.i no_list c.loop-i-test.true),
)

pub is_alive-requires : goal.is_alive-requires
is_alive-requires c = c.requires.0

pub loop-i-preserved : goal.loop-i-preserved
loop-i-preserved c =
    (search rules, c.loop-j.invariant.3 ∙ nodes-end (ends c.args.map.now) (view_list (get_or c.args.p.lists c.loop-i.i no_list)) (flatten (drop (c.loop-i.i + 1) (view_placement c.args.p))) c.loop-j.j (omega (arith, c.loop-j.invariant.2, c.loop-j-test.false)))

pub returns : goal.returns
unfolding first_not_alive
returns c =
    sym (ap walked_of (c.loop-i.invariant.1 ∙ no_list_lem (ends c.args.map.now) (view_placement c.args.p) c.loop-i.i (omega (arith, size (goal.at.returns c).Start, c.loop-i-test.false))))

pub loop-j-preserved : goal.loop-j-preserved
loop-j-preserved c = (
  search rules,
  c.loop-j.invariant.1,
  c.loop-j.invariant.2,
  c.loop-j.invariant.3 ∙ node-on (ends c.args.map.now) (view_list (get_or c.args.p.lists c.loop-i.i no_list)) (flatten (drop (c.loop-i.i + 1) (view_placement c.args.p))) c.loop-j.j 0
      (omega (arith, c.loop-j.invariant.2, c.loop-j-test.true))
      (ap (ends c.args.map.now) (list-row (λ (n : DataNodeId). n.0) (get_or c.args.p.lists c.loop-i.i no_list).nodes (get_or c.args.p.lists c.loop-i.i no_list).count c.loop-j.j no_id (omega (arith, c.loop-j.invariant.2, c.loop-j-test.true)))
      ∙ ap not (sym c.is_alive.ensures) ∙ (ap not c.if-not-is_alive.false)),
)

pub returns-then-not-is_alive : goal.returns-then-not-is_alive
unfolding first_not_alive
returns-then-not-is_alive c =
    sym (ap walked_of (c.loop-j.invariant.3 ∙ node_stop (ends c.args.map.now) (view_list (get_or c.args.p.lists c.loop-i.i no_list)) (flatten (drop (c.loop-i.i + 1) (view_placement c.args.p))) c.loop-j.j 0
    (omega (arith, c.loop-j.invariant.2, c.loop-j-test.true))
    (ap (ends c.args.map.now) (list-row (λ (n : DataNodeId). n.0) (get_or c.args.p.lists c.loop-i.i no_list).nodes (get_or c.args.p.lists c.loop-i.i no_list).count c.loop-j.j no_id (omega (arith, c.loop-j.invariant.2, c.loop-j-test.true)))
    ∙ ap not (sym c.is_alive.ensures) ∙ (ap not c.if-not-is_alive.true))
    ∙ ap some (list-row (λ (n : DataNodeId). n.0) (get_or c.args.p.lists c.loop-i.i no_list).nodes (get_or c.args.p.lists c.loop-i.i no_list).count c.loop-j.j no_id (omega (arith, c.loop-j.invariant.2, c.loop-j-test.true)))))
