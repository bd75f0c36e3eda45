use mathlib.Core.Path.{refl, sym, ◌∙◌, ap}
use mathlib.Core.Bool.{false}
use borrow.Author.Tests.{eqb-true}
use Rattle.spec_laws.proofs.Lists.{not_both}
use Rattle.image_header_check.proofs.Rows.{count-is}
use Rattle.image_parts.specs.Codes.{flag_of}
use Rattle.image_header_form.proofs.FrontLaws.{role_is, own_is}
use Rattle.image_show.proofs.row.left_on.Goals as goal

pub returns-then-not-is_backup : goal.returns-then-not-is_backup
returns-then-not-is_backup c = λ e. not_both false e refl

pub returns-then-flag_of : goal.returns-then-flag_of
returns-then-flag_of c = λ e. not_both false e refl

pub returns : goal.returns
returns c =
    λ e. let s = c.args.s.now in let at = c.args.at in record { role = role_is s at ∙ sym c.role_at-role.ensures ∙ c.is_backup.ensures (c.if-not-is_backup.false); own = own_is s at ∙ ap flag_of (sym c.get4.ensures) ∙ sym c.flag_of.ensures ∙ c.if-flag_of.false; count = count-is s at ∙ sym c.get8.ensures ∙ eqb-true _ _ e }
