use borrow.Author.Rules.{rules}
use native.Mathlib.Omega.{arith}
use mathlib.Core.Path.{◌≡◌, sym, ◌∙◌}
use Prim.Native.Nat.{◌≤◌}
use lib.ListN.{length}
use Rattle.image_map_count.specs.Read.{view_ids}
use lib.Seq.{length-take-le}
use Rattle.image_map_count.proofs.Ids.{wide_lists, wide-nodes, wide-twice, lent-count, lent-few}
use Rattle.image_map_count.proofs.given.too_wide.Goals as goal

pub returns-then-ids-gt4 : goal.returns-then-ids-gt4
returns-then-ids-gt4 c = lent-count c.args.ids c.args.lists c.args.nodes c.if-ids-gt4.true

pub returns-then-lists-gt16 : goal.returns-then-lists-gt16
returns-then-lists-gt16 c =
    sym (lent-few c.args.ids c.args.lists c.args.nodes (search rules) ∙ wide_lists (view_ids c.args.ids) c.args.lists c.args.nodes c.if-lists-gt16.true)

pub returns-then-nodes-gt8 : goal.returns-then-nodes-gt8
returns-then-nodes-gt8 c =
    sym (lent-few c.args.ids c.args.lists c.args.nodes (search rules) ∙ wide-nodes (view_ids c.args.ids) c.args.lists c.args.nodes c.if-nodes-gt8.true)

pub returns : goal.returns
returns c =
    let h : length c.args.ids.items ≡ 4 = search rules in
    let few : c.args.ids.count ≤ 4 = search rules in
    let e = length-take-le c.args.ids.count c.args.ids.items (omega arith) in
    c.given_twice.ensures ∙ sym (lent-few c.args.ids c.args.lists c.args.nodes few ∙ wide-twice (view_ids c.args.ids) c.args.lists c.args.nodes (omega (arith, e, few)) (search rules) (search rules))
