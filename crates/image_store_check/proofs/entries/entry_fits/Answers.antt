use native.Mathlib.Omega.{arith}
use mathlib.Core.Path.{refl}
use Rattle.image_store_check.proofs.EntryLaws.{no_offset, no_shape, a_delete, short, by-patterns}
use Rattle.image_store_check.proofs.entries.entry_fits.Goals as goal

pub returns-then-get8-i : goal.returns-then-get8-i
returns-then-get8-i c =
    no_offset c.args.s.now c.args.base c.args.i c.requires.0 c.get8.result c.get8.ensures c.if-get8-i.true

pub returns-then-not-is_listed : goal.returns-then-not-is_listed
returns-then-not-is_listed c =
    no_shape c.args.s.now c.args.base c.args.i c.requires.0 c.get8.result c.get8.ensures c.if-get8-i.false c.is_listed.result c.is_listed.ensures (c.if-not-is_listed.true)

pub returns-then-code-ne1 : goal.returns-then-code-ne1
returns-then-code-ne1 c =
    a_delete c.args.s.now c.args.base c.args.i c.requires.0 c.get8.result c.get8.ensures c.if-get8-i.false c.is_listed.result c.is_listed.ensures (c.if-not-is_listed.false) c.if-code-ne1.true

pub all_inside-requires : goal.all_inside-requires
all_inside-requires c =
    let p = c.requires.0 in let q = c.requires.1 in let k = short c.args.s.now c.args.base c.args.i p c.get8.result c.get8.ensures c.if-get8-i.false c.is_listed.result c.is_listed.ensures (c.if-not-is_listed.false) c.if-code-ne1.false in omega arith

pub returns : goal.returns
returns c =
    by-patterns c.args.s.now c.args.base c.args.i c.requires.0 c.get8.result c.get8.ensures c.if-get8-i.false c.is_listed.result c.is_listed.ensures (c.if-not-is_listed.false) c.if-code-ne1.false _ refl c.all_inside.result c.all_inside.ensures
