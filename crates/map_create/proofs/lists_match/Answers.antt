use borrow.Author.Rules.{rules}
use native.Mathlib.Omega.{arith}
use mathlib.Core.Path.{◌≡◌, refl, sym, ◌∙◌, ap}
use mathlib.Core.List.{[]}
use Prim.Native.Nat.{ℕ, ◌≤◌, ◌<◌}
use lib.ListN.{length, get_or}
use Rattle.spec.specs.Map.Create.{list_matches}
use Rattle.map_tables.specs.View.{view_list, view_placement}
use Rattle.map_tables.proofs.Defaults.{no_list}
use Rattle.map_create.proofs.Walk.{match_none, match_over, match_yes}
use Rattle.map_tables.proofs.Tables.{every-on, every_stop, every-end, used-size, used-row, of_field}
use Rattle.map_create.proofs.lists_match.Goals as goal
use Rattle.map_create.proofs.lists_match.Goals.{Start}

fits : (c : Start) → c.args.p.count ≤ length c.args.p.lists
fits c = let h : length c.args.p.lists ≡ 16 = search (rules, of_field) in omega (arith, c.requires)

size : (c : Start) → length (view_placement c.args.p) ≡ c.args.p.count
size c = used-size view_list c.args.p.lists c.args.p.count (fits c)

-- a list of the placement is a row
at : (c : Start) (i : ℕ) → i < c.args.p.count → get_or (view_placement c.args.p) i [] ≡ view_list (get_or c.args.p.lists i no_list)
at c i h = used-row view_list c.args.p.lists c.args.p.count (fits c) i no_list h

pub loop-i-init : goal.loop-i-init
loop-i-init c = (search rules, refl)

pub returns-then-n-eq0 : goal.returns-then-n-eq0
returns-then-n-eq0 c =
    sym (every_stop (list_matches c.args.replication) (view_placement c.args.p) c.loop-i.i c.loop-i.invariant.1 [] (omega (arith, size (goal.at.returns-then-n-eq0 c).Start, c.loop-i-test.true))
    (ap (list_matches c.args.replication) (at (goal.at.returns-then-n-eq0 c).Start c.loop-i.i c.loop-i-test.true) ∙ match_none c.args.replication _ (view_list (get_or c.args.p.lists c.loop-i.i no_list)) c.list_size-n.ensures.0 c.if-n-eq0.true))

pub returns-then-most-n : goal.returns-then-most-n
returns-then-most-n c =
    sym (every_stop (list_matches c.args.replication) (view_placement c.args.p) c.loop-i.i c.loop-i.invariant.1 [] (omega (arith, size (goal.at.returns-then-most-n c).Start, c.loop-i-test.true))
    (ap (list_matches c.args.replication) (at (goal.at.returns-then-most-n c).Start c.loop-i.i c.loop-i-test.true) ∙ match_over c.args.replication _ (view_list (get_or c.args.p.lists c.loop-i.i no_list)) c.list_size-n.ensures.0 c.if-n-eq0.false c.if-most-n.true))

pub loop-i-preserved : goal.loop-i-preserved
loop-i-preserved c = (
  search rules,
  every-on (list_matches c.args.replication) (view_placement c.args.p) c.loop-i.i c.loop-i.invariant.1 [] (omega (arith, size (goal.at.loop-i-preserved c).Start, c.loop-i-test.true))
      (ap (list_matches c.args.replication) (at (goal.at.loop-i-preserved c).Start c.loop-i.i c.loop-i-test.true) ∙ match_yes c.args.replication _ (view_list (get_or c.args.p.lists c.loop-i.i no_list)) c.list_size-n.ensures.0 c.if-n-eq0.false c.if-most-n.false),
)

pub returns : goal.returns
returns c =
    sym (every-end (list_matches c.args.replication) (view_placement c.args.p) c.loop-i.i c.loop-i.invariant.1 (omega (arith, size (goal.at.returns c).Start, c.loop-i-test.false)))
