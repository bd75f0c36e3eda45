use mathlib.Core.Path.{sym, ◌∙◌, ap}
use Rattle.image_map_loads.proofs.Rows.{lent_long, used_of}
use Rattle.image_map_sheet.specs.Answers.{made}
use Rattle.image_map_sheet.proofs.SheetLaws.{not_lent, not_formed, sheeted}
use Rattle.image_map_sheet.proofs.sheet.Goals as goal

pub returns-then-not-is_lent : goal.returns-then-not-is_lent
returns-then-not-is_lent c = not_lent c.args.map.now (sym c.is_lent.ensures ∙ c.if-not-is_lent.true)

pub is_formed-requires : goal.is_formed-requires
is_formed-requires c = lent_long c.args.map.now (sym c.is_lent.ensures ∙ c.if-not-is_lent.false)

pub returns-then-not-is_formed : goal.returns-then-not-is_formed
returns-then-not-is_formed c =
    not_formed c.args.map.now (sym c.is_lent.ensures ∙ c.if-not-is_lent.false) (sym c.is_formed.ensures ∙ c.if-not-is_formed.true)

pub sheet_of-made-requires : goal.sheet_of-made-requires
sheet_of-made-requires c =
    used_of c.args.map.now (sym c.is_lent.ensures ∙ c.if-not-is_lent.false) (sym c.is_formed.ensures ∙ c.if-not-is_formed.false)

pub returns : goal.returns
returns c =
    ap made c.sheet_of-made.ensures.same ∙ sheeted c.args.map.now (sym c.is_lent.ensures ∙ c.if-not-is_lent.false) (sym c.is_formed.ensures ∙ c.if-not-is_formed.false)
