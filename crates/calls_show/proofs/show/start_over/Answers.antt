use native.Mathlib.Omega.{arith}
use mathlib.Core.Path.{sym, ◌∙◌}
use Rattle.spec.specs.Layout.Format.{number_at}
use Rattle.calls_header.specs.Fresh.{fresh_node}
use Rattle.calls_show.proofs.FreshLaws.{fresh_as}
use Rattle.calls_show.proofs.ShowLaws.{none-short, none-put}
use Rattle.calls_show.proofs.show.start_over.Goals as goal

pub get8-id-requires : goal.get8-id-requires
get8-id-requires c = let p = c.requires in omega arith

pub returns-then-not-put_number : goal.returns-then-not-put_number
returns-then-not-put_number c =
    none-short c.args.header.now c.args.answer.now _ (fresh_node (number_at 8 c.args.header.now 0) c.args.fresh) c.put_number.ensures.1 (sym c.put_number.ensures.0 ∙ c.if-not-put_number.true)

pub put_fresh-requires : goal.put_fresh-requires
put_fresh-requires c = c.requires

pub returns : goal.returns
returns c =
    none-put c.args.header.now c.args.answer.now _ (fresh_node (number_at 8 c.args.header.now 0) c.args.fresh) c.put_number.ensures.1 (sym c.put_number.ensures.0 ∙ c.if-not-put_number.false) _ (fresh_as c.get8-id.ensures c.put_fresh.ensures)
