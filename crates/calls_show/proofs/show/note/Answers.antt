use mathlib.Core.Path.{sym, ◌∙◌}
use Rattle.image_header.specs.Image.{node_at}
use Rattle.image_header_set.specs.Version.{version_set}
use Rattle.calls_show.proofs.ShowLaws.{none-short, none-put}
use Rattle.calls_show.proofs.show.note.Goals as goal

pub returns-then-not-put_number : goal.returns-then-not-put_number
returns-then-not-put_number c =
    none-short c.args.header.now c.args.answer.now _ (version_set (node_at c.args.header.now) c.args.version) c.put_number.ensures.1 (sym c.put_number.ensures.0 ∙ c.if-not-put_number.true)

pub put_version-requires : goal.put_version-requires
put_version-requires c = c.requires

pub returns : goal.returns
returns c =
    none-put c.args.header.now c.args.answer.now _ (version_set (node_at c.args.header.now) c.args.version) c.put_number.ensures.1 (sym c.put_number.ensures.0 ∙ c.if-not-put_number.false) _ c.put_version.ensures
