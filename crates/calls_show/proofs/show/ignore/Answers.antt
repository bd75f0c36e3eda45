use mathlib.Core.Path.{sym, ◌∙◌}
use Rattle.image_header.specs.Image.{node_at}
use Rattle.calls_show.proofs.ShowLaws.{none-short, none-put}
use Rattle.calls_show.proofs.show.ignore.Goals as goal

pub returns-then-not-put_number : goal.returns-then-not-put_number
returns-then-not-put_number c =
    none-short c.args.header.now c.args.answer.now _ (node_at c.args.header.now) c.put_number.ensures.1 (sym c.put_number.ensures.0 ∙ c.if-not-put_number.true)

pub put_back-requires : goal.put_back-requires
put_back-requires c = c.requires

pub returns : goal.returns
returns c =
    none-put c.args.header.now c.args.answer.now _ (node_at c.args.header.now) c.put_number.ensures.1 (sym c.put_number.ensures.0 ∙ c.if-not-put_number.false) _ c.put_back.ensures
