use native.Mathlib.Omega.{arith}
use mathlib.Core.Path.{◌∙◌}
use Rattle.log_store.specs.View.{columns}
use Rattle.log_store.specs.Store.{lent}
use Rattle.log_store.proofs.Facts.{facts}
use Rattle.log_search.proofs.Searching.{walkable, column_selectable, column_hits}
use Rattle.log_search.proofs.first.nearest.Goals as goal

pub fill-requires : goal.fill-requires
fill-requires c =
    let a = c.args in let p = c.requires in
    let s = lent (columns a.epochs.now a.offsets.now a.ids.now a.codes.now a.lengths.now a.floats.now) a.keys.now a.places.now a.count a.stored in
    let f = facts s p.1 in (walkable s f p.0 a.metric a.query.now p.2 _ c.norm-qnorm.ensures, f.stored)

pub choose-requires : goal.choose-requires
choose-requires c =
    let a = c.args in let p = c.requires in
    let s = lent (columns a.epochs.now a.offsets.now a.ids.now a.codes.now a.lengths.now a.floats.now) a.keys.now a.places.now a.count a.stored in
    let f = facts s p.1 in let e = c.fill.ensures in
    (column_selectable s f p.0 a.metric a.query.now p.2 _ (omega (arith, e.0, f.stored)) (e.1 a.epochs.now a.offsets.now a.ids.now) _ c.kind_of-kind.ensures, p.3, f.stored)

pub returns : goal.returns
returns c =
    let a = c.args in let p = c.requires in
    let s = lent (columns a.epochs.now a.offsets.now a.ids.now a.codes.now a.lengths.now a.floats.now) a.keys.now a.places.now a.count a.stored in
    let f = facts s p.1 in let e = c.fill.ensures in let r = c.choose.ensures in
    (r.long, r.most, r.first ∙ column_hits s f p.0 a.metric a.query.now p.2 _ (omega (arith, e.0, f.stored)) (e.1 a.epochs.now a.offsets.now a.ids.now) _ c.kind_of-kind.ensures a.k)
