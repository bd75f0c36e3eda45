use mathlib.Core.Path.{refl, sym, ◌∙◌}
use Rattle.map_check.proofs.Formed.{lent_tables, lent-formed}
use Rattle.image_header.proofs.Image.{lent_long}
use Rattle.calls_header.proofs.Asked.{asked_malformed}
use Rattle.calls_header.proofs.Calls.{lent-first, lent_both, map_long}
use Rattle.calls_show.proofs.ShowLaws.{map_bad, header_bad, both_good}
use Rattle.calls_show.proofs.show.show_map.Goals as goal

pub returns-then-not-is_lent : goal.returns-then-not-is_lent
returns-then-not-is_lent c =
    asked_malformed refl (lent-first _ _ (sym c.is_lent.ensures ∙ c.if-not-is_lent.true)) refl (refl, refl, refl)

pub returns-then-not-is_lent-2 : goal.returns-then-not-is_lent-2
returns-then-not-is_lent-2 c =
    asked_malformed refl (lent_both _ _ (sym c.is_lent.ensures ∙ c.if-not-is_lent.false) ∙ sym c.is_lent-2.ensures ∙ c.if-not-is_lent-2.true) refl (refl, refl, refl)

pub is_formed-requires : goal.is_formed-requires
is_formed-requires c = map_long c.args.map.now (sym c.is_lent-2.ensures ∙ c.if-not-is_lent-2.false)

pub returns-then-not-is_formed : goal.returns-then-not-is_formed
returns-then-not-is_formed c =
    let a = c.args in map_bad a.header.now a.map.now (sym c.is_lent.ensures ∙ c.if-not-is_lent.false) (sym c.is_lent-2.ensures ∙ c.if-not-is_lent-2.false) (sym c.is_formed.ensures ∙ c.if-not-is_formed.true) a.starts.now a.answer.now a.fresh

pub is_formed-requires-2 : goal.is_formed-requires-2
is_formed-requires-2 c = lent_long c.args.header.now (sym c.is_lent.ensures ∙ c.if-not-is_lent.false)

pub returns-then-not-is_formed-2 : goal.returns-then-not-is_formed-2
returns-then-not-is_formed-2 c =
    let a = c.args in header_bad a.header.now a.map.now (sym c.is_lent.ensures ∙ c.if-not-is_lent.false) (sym c.is_lent-2.ensures ∙ c.if-not-is_lent-2.false) (sym c.is_formed.ensures ∙ c.if-not-is_formed.false) (sym c.is_formed-2.ensures ∙ c.if-not-is_formed-2.true) a.starts.now a.answer.now a.fresh

pub hear-requires : goal.hear-requires
hear-requires c =
    let w = sym c.is_formed.ensures ∙ c.if-not-is_formed.false in (sym c.is_lent.ensures ∙ c.if-not-is_lent.false, sym c.is_formed-2.ensures ∙ c.if-not-is_formed-2.false, record { long = map_long c.args.map.now (sym c.is_lent-2.ensures ∙ c.if-not-is_lent-2.false); tables = lent_tables _ w; formed = lent-formed _ w })

pub returns : goal.returns
returns c =
    let a = c.args in both_good a.header.now a.map.now (sym c.is_lent.ensures ∙ c.if-not-is_lent.false) (sym c.is_lent-2.ensures ∙ c.if-not-is_lent-2.false) (sym c.is_formed.ensures ∙ c.if-not-is_formed.false) _ a.starts.now _ a.answer.now _ a.fresh _ c.hear.ensures
