use borrow.Author.Rules.{rules}
use native.Mathlib.Omega.{arith}
use mathlib.Core.Path.{◌≡◌, refl, sym, ◌∙◌}
use lib.ListN.{length, take, length-map}
use lib.Dec.{eqb}
use Rattle.map_tables.specs.View.{view_list, view_placement}
use Rattle.map_tables.proofs.Tables.{of_field}
use Rattle.image_parts.proofs.Images.{length-used}
use Rattle.spec_losses.specs.Losses.{same_all, same_lists}
use Rattle.image_map_losses.proofs.Compared.{other-size, compare_on, compare_stop, compare_end}
use Rattle.image_map_losses.proofs.apart.same_lists.Goals as goal

pub returns-then-in_use-n : goal.returns-then-in_use-n
unfolding same_lists
returns-then-in_use-n c =
    let a = c.args.a in
    let b = c.args.b in
    let ka : length a.lists ≡ 16 = search (rules, of_field) in
    let kb : length b.lists ≡ 16 = search (rules, of_field) in
    let la = length-used 16 a.count a.lists ka in
    let lb = length-used 16 b.count b.lists kb in
    sym (other-size (same_all eqb) (view_placement a) (view_placement b) (λ e. c.if-in_use-n.true (c.in_use.ensures.0 ∙ sym lb ∙ sym (length-map (take b.count b.lists) view_list) ∙ sym e ∙ length-map (take a.count a.lists) view_list ∙ la ∙ sym c.in_use-n.ensures.0)))

pub loop-i-init : goal.loop-i-init
loop-i-init c = (omega arith, refl)

pub returns-then-not-same_nodes : goal.returns-then-not-same_nodes
unfolding same_lists
returns-then-not-same_nodes c =
    let a = c.args.a in
    let b = c.args.b in
    let ka : length a.lists ≡ 16 = search (rules, of_field) in
    let kb : length b.lists ≡ 16 = search (rules, of_field) in
    compare_stop view_list (same_all eqb) a.lists b.lists a.count b.count c.in_use-n.result c.loop-i.i (length-used 16 a.count a.lists ka ∙ sym c.in_use-n.ensures.0) (length-used 16 b.count b.lists kb ∙ sym c.in_use.ensures.0 ∙ c.if-in_use-n.false) c.in_use-n.ensures.2 (omega (arith, c.in_use.ensures.2, c.if-in_use-n.false)) (same_all (same_all eqb) (view_placement a) (view_placement b)) c.loop-i.invariant.1 _ (search rules) (sym c.same_nodes.ensures ∙ c.if-not-same_nodes.true)

pub loop-i-preserved : goal.loop-i-preserved
loop-i-preserved c =
    let a = c.args.a in
    let b = c.args.b in
    let ka : length a.lists ≡ 16 = search (rules, of_field) in
    let kb : length b.lists ≡ 16 = search (rules, of_field) in
    (search rules, compare_on view_list (same_all eqb) a.lists b.lists a.count b.count c.in_use-n.result c.loop-i.i (length-used 16 a.count a.lists ka ∙ sym c.in_use-n.ensures.0) (length-used 16 b.count b.lists kb ∙ sym c.in_use.ensures.0 ∙ c.if-in_use-n.false) c.in_use-n.ensures.2 (omega (arith, c.in_use.ensures.2, c.if-in_use-n.false)) (same_all (same_all eqb) (view_placement a) (view_placement b)) c.loop-i.invariant.1 _ (search rules) (sym c.same_nodes.ensures ∙ c.if-not-same_nodes.false))

pub returns : goal.returns
unfolding same_lists
returns c =
    let a = c.args.a in
    let b = c.args.b in
    let ka : length a.lists ≡ 16 = search (rules, of_field) in
    let kb : length b.lists ≡ 16 = search (rules, of_field) in
    compare_end view_list (same_all eqb) a.lists b.lists a.count b.count c.in_use-n.result c.loop-i.i (length-used 16 a.count a.lists ka ∙ sym c.in_use-n.ensures.0) (length-used 16 b.count b.lists kb ∙ sym c.in_use.ensures.0 ∙ c.if-in_use-n.false) c.in_use-n.ensures.2 (omega (arith, c.in_use.ensures.2, c.if-in_use-n.false)) (same_all (same_all eqb) (view_placement a) (view_placement b)) c.loop-i.invariant.1 (search rules)
