use borrow.Author.Rules.{rules}
use native.Mathlib.Omega.{arith}
use mathlib.Core.Path.{◌≡◌, refl, sym, ◌∙◌}
use lib.ListN.{length, take, length-map}
use lib.Dec.{eqb}
use borrow.Author.Tests.{eq-eqb, ne_eqb}
use Rattle.map_tables.specs.View.{view_list}
use Rattle.map_tables.proofs.Tables.{of_field}
use Rattle.image_parts.proofs.Images.{length-used}
use Rattle.spec_losses.specs.Losses.{same_all}
use Rattle.image_map_losses.proofs.Compared.{id_of, other-size, compare_on, compare_stop, compare_end}
use Rattle.image_map_losses.proofs.apart.same_nodes.Goals as goal

pub returns-then-in_use-n : goal.returns-then-in_use-n
returns-then-in_use-n c =
    let a = c.args.a in
    let b = c.args.b in
    let ka : length a.nodes ≡ 8 = search (rules, of_field) in
    let kb : length b.nodes ≡ 8 = search (rules, of_field) in
    let la = length-used 8 a.count a.nodes ka in
    let lb = length-used 8 b.count b.nodes kb in
    sym (other-size eqb (view_list a) (view_list b) (λ e. c.if-in_use-n.true (c.in_use.ensures.0 ∙ sym lb ∙ sym (length-map (take b.count b.nodes) id_of) ∙ sym e ∙ length-map (take a.count a.nodes) id_of ∙ la ∙ sym c.in_use-n.ensures.0)))

pub loop-i-init : goal.loop-i-init
loop-i-init c = (omega arith, refl)

pub returns-then-x-y : goal.returns-then-x-y
returns-then-x-y c =
    let a = c.args.a in
    let b = c.args.b in
    let ka : length a.nodes ≡ 8 = search (rules, of_field) in
    let kb : length b.nodes ≡ 8 = search (rules, of_field) in
    compare_stop id_of eqb a.nodes b.nodes a.count b.count c.in_use-n.result c.loop-i.i (length-used 8 a.count a.nodes ka ∙ sym c.in_use-n.ensures.0) (length-used 8 b.count b.nodes kb ∙ sym c.in_use.ensures.0 ∙ c.if-in_use-n.false) c.in_use-n.ensures.2 (omega (arith, c.in_use.ensures.2, c.if-in_use-n.false)) (same_all eqb (view_list a) (view_list b)) c.loop-i.invariant.1 (record { 0 = 0 }) (search rules) (ne_eqb _ _ c.if-x-y.true)

pub loop-i-preserved : goal.loop-i-preserved
loop-i-preserved c =
    let a = c.args.a in
    let b = c.args.b in
    let ka : length a.nodes ≡ 8 = search (rules, of_field) in
    let kb : length b.nodes ≡ 8 = search (rules, of_field) in
    (search rules, compare_on id_of eqb a.nodes b.nodes a.count b.count c.in_use-n.result c.loop-i.i (length-used 8 a.count a.nodes ka ∙ sym c.in_use-n.ensures.0) (length-used 8 b.count b.nodes kb ∙ sym c.in_use.ensures.0 ∙ c.if-in_use-n.false) c.in_use-n.ensures.2 (omega (arith, c.in_use.ensures.2, c.if-in_use-n.false)) (same_all eqb (view_list a) (view_list b)) c.loop-i.invariant.1 (record { 0 = 0 }) (search rules) (eq-eqb _ _ c.if-x-y.false))

pub returns : goal.returns
returns c =
    let a = c.args.a in
    let b = c.args.b in
    let ka : length a.nodes ≡ 8 = search (rules, of_field) in
    let kb : length b.nodes ≡ 8 = search (rules, of_field) in
    compare_end id_of eqb a.nodes b.nodes a.count b.count c.in_use-n.result c.loop-i.i (length-used 8 a.count a.nodes ka ∙ sym c.in_use-n.ensures.0) (length-used 8 b.count b.nodes kb ∙ sym c.in_use.ensures.0 ∙ c.if-in_use-n.false) c.in_use-n.ensures.2 (omega (arith, c.in_use.ensures.2, c.if-in_use-n.false)) (same_all eqb (view_list a) (view_list b)) c.loop-i.invariant.1 (search rules)
