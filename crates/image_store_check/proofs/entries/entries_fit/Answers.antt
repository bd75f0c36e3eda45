use mathlib.Core.Path.{sym, ◌∙◌}
use Rattle.image_store_check.proofs.EntryLaws.{no_numbers, by_shapes}
use Rattle.image_store_check.proofs.entries.entries_fit.Goals as goal

pub returns-then-not-numbered : goal.returns-then-not-numbered
returns-then-not-numbered c =
    no_numbers c.args.s.now c.args.base c.args.count c.numbered.result c.numbered.ensures (c.if-not-numbered.true)

pub returns : goal.returns
returns c =
    by_shapes c.args.s.now c.args.base c.args.count c.all_inside.result c.all_inside.ensures (c.if-not-all_inside.false) (sym c.numbered.ensures ∙ c.if-not-numbered.false) c.listed.result c.listed.ensures
