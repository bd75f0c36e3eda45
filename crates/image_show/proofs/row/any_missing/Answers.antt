use borrow.Author.Rules.{rules}
use native.Mathlib.Omega.{arith}
use mathlib.Core.Path.{refl, sym, ◌∙◌}
use mathlib.Core.List.{[]}
use lib.ListN.{take}
use mathlib.Core.Bool.{true, false}
use Rattle.spec_laws.proofs.Lists.{not_both}
use Rattle.node_show_shard.proofs.Grow.{grow_end, grow_me, grow_has}
use Rattle.image_header_row.specs.Rows.{peers_at}
use Rattle.image_header_check.proofs.Rows.{peers_long}
use Rattle.image_show.proofs.RowLaws.{no_copy}
use Rattle.image_show.proofs.row.any_missing.Goals as goal

pub loop-i-init : goal.loop-i-init
loop-i-init c = (omega arith, refl)

pub loop-i-preserved-then-node-me : goal.loop-i-preserved-then-node-me
loop-i-preserved-then-node-me c =
    let a = c.args in let rs = a.replicas in let s = a.s.now in (search rules, sym (grow_me a.me [] rs a.holders c.loop-i.i (search rules) (search rules) no_copy (take a.count (peers_at s a.at)) c.if-node-me.true) ∙ c.loop-i.invariant.1)

pub returns-then-count-place_of : goal.returns-then-count-place_of
returns-then-count-place_of c = λ e. not_both true refl e

pub loop-i-preserved : goal.loop-i-preserved
loop-i-preserved c =
    let a = c.args in let rs = a.replicas in let s = a.s.now in let g = peers_long s a.at in let k = c.requires.1 in (search rules, sym (grow_has a.me [] rs a.holders c.loop-i.i (search rules) (search rules) no_copy c.if-node-me.false (peers_at s a.at) a.count c.place_of.result (omega arith) c.place_of.ensures c.if-count-place_of.false) ∙ c.loop-i.invariant.1)

pub returns : goal.returns
returns c =
    λ e. let a = c.args in let rs = a.replicas in let s = a.s.now in sym c.loop-i.invariant.1 ∙ grow_end a.me [] rs a.holders c.loop-i.i (search rules) (take a.count (peers_at s a.at)) c.loop-i-test.false
