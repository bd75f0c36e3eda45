use mathlib.Core.Path.{sym, ◌∙◌}
use Rattle.log_arrive.proofs.Messages.{copy_there}
use Rattle.log_calls.proofs.FitLaws.{fits-sized, fits-well}
use Rattle.log_calls.proofs.Copies.{copies-unread, copies_outside, copies_malformed, copies-taken}
use Rattle.log_calls.proofs.arrives.copy.Goals as goal

pub returns-in_default : goal.returns-in_default
returns-in_default c =
    let a = c.args in rw c.unchanged.ensures (copies-unread a.message.now a.own _ _ _ (λ p e. c.in_default.not-CopyShard p (c.decode-read.ensures ∙ e)))

pub entries_in_domain-requires : goal.entries_in_domain-requires
entries_in_domain-requires c = copy_there c.args.message.now _ (sym c.decode-read.ensures ∙ c.in-CopyShard.is)

pub returns-then-not-entries_in_domain : goal.returns-then-not-entries_in_domain
returns-then-not-entries_in_domain c =
    let a = c.args in rw c.unchanged-then-not-entries_in_domain.ensures (copies_outside a.message.now a.own _ _ _ _ (sym c.decode-read.ensures ∙ c.in-CopyShard.is) (sym c.entries_in_domain.ensures ∙ c.if-not-entries_in_domain.true))

pub returns-then-not-lent_fits : goal.returns-then-not-lent_fits
returns-then-not-lent_fits c =
    let a = c.args in rw c.unchanged-then-not-lent_fits.ensures (copies_malformed a.message.now a.own _ _ _ _ (sym c.decode-read.ensures ∙ c.in-CopyShard.is) (sym c.entries_in_domain.ensures ∙ c.if-not-entries_in_domain.false) (sym c.lent_fits.ensures ∙ c.if-not-lent_fits.true))

pub copy-t-requires : goal.copy-t-requires
copy-t-requires c =
    let f = (sym c.lent_fits.ensures ∙ c.if-not-lent_fits.false) in (fits-sized _ f, fits-well _ f, copy_there c.args.message.now _ (sym c.decode-read.ensures ∙ c.in-CopyShard.is), (sym c.entries_in_domain.ensures ∙ c.if-not-entries_in_domain.false))

pub returns : goal.returns
returns c =
    let a = c.args in copies-taken a.message.now a.own _ _ _ _ (sym c.decode-read.ensures ∙ c.in-CopyShard.is) (sym c.entries_in_domain.ensures ∙ c.if-not-entries_in_domain.false) _ _ _ (sym c.lent_fits.ensures ∙ c.if-not-lent_fits.false) c.answer_of-answer.ensures c.copy-t.ensures
