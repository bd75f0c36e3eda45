use mathlib.Core.Path.{sym, ◌∙◌}
use Rattle.log_arrive.proofs.Messages.{new_epoch_there}
use Rattle.log_calls.proofs.FitLaws.{fits-sized, fits-well}
use Rattle.log_calls.proofs.AdoptLaws.{adopts_unread, adopts_malformed, adopts_older, adopts_taken}
use Rattle.log_calls.proofs.adopts.adopt.Goals as goal

pub returns-in_default : goal.returns-in_default
returns-in_default c =
    let a = c.args in rw c.unchanged.ensures (adopts_unread a.message.now a.own _ _ _ (λ p e. c.in_default.not-NewEpoch p (c.decode-read.ensures ∙ e)))

pub returns-then-not-lent_fits : goal.returns-then-not-lent_fits
returns-then-not-lent_fits c =
    let a = c.args in rw c.unchanged-then-not-lent_fits.ensures (adopts_malformed a.message.now a.own _ _ _ _ (sym c.decode-read.ensures ∙ c.in-NewEpoch.is) (sym c.lent_fits.ensures ∙ c.if-not-lent_fits.true))

pub returns-then-epoch-own : goal.returns-then-epoch-own
returns-then-epoch-own c =
    let a = c.args in rw c.unchanged-then-epoch-own.ensures (adopts_older a.message.now a.own _ _ _ _ (sym c.decode-read.ensures ∙ c.in-NewEpoch.is) (sym c.lent_fits.ensures ∙ c.if-not-lent_fits.false) c.if-epoch-own.true)

pub adopt_table-a-requires : goal.adopt_table-a-requires
adopt_table-a-requires c =
    let f = (sym c.lent_fits.ensures ∙ c.if-not-lent_fits.false) in (new_epoch_there c.args.message.now _ (sym c.decode-read.ensures ∙ c.in-NewEpoch.is), fits-sized _ f, fits-well _ f)

pub returns : goal.returns
returns c =
    let a = c.args in adopts_taken a.message.now a.own _ _ _ _ (sym c.decode-read.ensures ∙ c.in-NewEpoch.is) _ _ (sym c.lent_fits.ensures ∙ c.if-not-lent_fits.false) c.if-epoch-own.false c.adopt_table-a.ensures
