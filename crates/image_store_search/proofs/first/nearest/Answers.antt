use native.Mathlib.Omega.{arith}
use mathlib.Core.Path.{refl}
use Rattle.image_store_search.proofs.Store.{named, bytes_selectable, bytes_nearest}
use Rattle.image_store_search.proofs.first.nearest.Goals as goal

pub overflow_add-base : goal.overflow_add-base
overflow_add-base c = let p = c.requires.0 in omega arith

pub read_words-requires : goal.read_words-requires
read_words-requires c = let p = c.requires.0 in (omega arith, refl)

pub fill-requires : goal.fill-requires
fill-requires c = let a = c.args in let p = c.requires in (named a.s.now a.base a.count a.stored p.0 p.1, p.2.0, refl)

pub choose-requires : goal.choose-requires
choose-requires c =
    let a = c.args in let p = c.requires in let e = c.fill.ensures in
    (bytes_selectable a.s.now a.base a.count a.stored p.0 p.1 a.metric a.query.now p.2 _ c.norm-qnorm.ensures _ e.0 e.1 _ c.kind_of-kind.ensures _ c.read_words.ensures, p.3, (named a.s.now a.base a.count a.stored p.0 p.1).few)

pub returns : goal.returns
returns c =
    let a = c.args in let p = c.requires in let e = c.fill.ensures in
    bytes_nearest a.s.now a.base a.count a.stored p.0 p.1 a.metric a.query.now p.2 _ c.norm-qnorm.ensures _ e.0 e.1 _ c.kind_of-kind.ensures a.k _ _ c.read_words.ensures c.choose.ensures
