use mathlib.Core.Path.{sym, ◌∙◌}
use Rattle.log_arrive.proofs.Messages.{replicate_there}
use Rattle.log_calls.proofs.FitLaws.{fits-sized, fits-well}
use Rattle.log_calls.proofs.ArriveLaws.{stores-unread, stores_outside, stores_malformed, stores-taken}
use Rattle.log_calls.proofs.arrives.store.Goals as goal

pub returns-in_default : goal.returns-in_default
returns-in_default c =
    let a = c.args in rw c.unchanged.ensures (stores-unread a.message.now a.own _ _ _ (λ p e. c.in_default.not-Replicate p (c.decode-read.ensures ∙ e)))

pub op_in_domain-requires : goal.op_in_domain-requires
op_in_domain-requires c = replicate_there c.args.message.now _ (sym c.decode-read.ensures ∙ c.in-Replicate.is)

pub returns-then-not-op_in_domain : goal.returns-then-not-op_in_domain
returns-then-not-op_in_domain c =
    let a = c.args in rw c.unchanged-then-not-op_in_domain.ensures (stores_outside a.message.now a.own _ _ _ _ (sym c.decode-read.ensures ∙ c.in-Replicate.is) (sym c.op_in_domain.ensures ∙ c.if-not-op_in_domain.true))

pub returns-then-not-lent_fits : goal.returns-then-not-lent_fits
returns-then-not-lent_fits c =
    let a = c.args in rw c.unchanged-then-not-lent_fits.ensures (stores_malformed a.message.now a.own _ _ _ _ (sym c.decode-read.ensures ∙ c.in-Replicate.is) (sym c.op_in_domain.ensures ∙ c.if-not-op_in_domain.false) (sym c.lent_fits.ensures ∙ c.if-not-lent_fits.true))

pub store_op-t-requires : goal.store_op-t-requires
store_op-t-requires c =
    let f = (sym c.lent_fits.ensures ∙ c.if-not-lent_fits.false) in (fits-sized _ f, fits-well _ f, replicate_there c.args.message.now _ (sym c.decode-read.ensures ∙ c.in-Replicate.is), (sym c.op_in_domain.ensures ∙ c.if-not-op_in_domain.false))

pub returns : goal.returns
returns c =
    let a = c.args in stores-taken a.message.now a.own _ _ _ _ (sym c.decode-read.ensures ∙ c.in-Replicate.is) (sym c.op_in_domain.ensures ∙ c.if-not-op_in_domain.false) _ _ _ (sym c.lent_fits.ensures ∙ c.if-not-lent_fits.false) c.answer_of-answer.ensures c.store_op-t.ensures
