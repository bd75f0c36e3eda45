use native.Mathlib.Omega.{arith}
use mathlib.Core.Path.{refl, sym, ◌∙◌}
use lib.Seq.{length-take-le}
use Rattle.log_arrive.proofs.Messages.{write-there}
use Rattle.log_calls.proofs.FitLaws.{fits-sized, fits-well, count_room}
use Rattle.log_calls.proofs.AppendLaws.{appends_unread, appends_outside, appends_malformed, appends_full, appends_pushed}
use Rattle.log_calls.proofs.appends.append.Goals as goal

pub returns-in_default : goal.returns-in_default
returns-in_default c =
    let a = c.args in rw c.unchanged.ensures (appends_unread a.message.now a.own _ _ _ (λ p e. c.in_default.not-Write p (c.decode-read.ensures ∙ e)))

pub op_in_domain-requires : goal.op_in_domain-requires
op_in_domain-requires c = write-there c.args.message.now _ (sym c.decode-read.ensures ∙ c.in-Write.is)

pub returns-then-not-op_in_domain : goal.returns-then-not-op_in_domain
returns-then-not-op_in_domain c =
    let a = c.args in rw c.unchanged-then-not-op_in_domain.ensures (appends_outside a.message.now a.own _ _ _ _ (sym c.decode-read.ensures ∙ c.in-Write.is) (sym c.op_in_domain.ensures ∙ c.if-not-op_in_domain.true))

pub returns-then-not-lent_fits : goal.returns-then-not-lent_fits
returns-then-not-lent_fits c =
    let a = c.args in rw c.unchanged-then-not-lent_fits.ensures (appends_malformed a.message.now a.own _ _ _ _ (sym c.decode-read.ensures ∙ c.in-Write.is) (sym c.op_in_domain.ensures ∙ c.if-not-op_in_domain.false) (sym c.lent_fits.ensures ∙ c.if-not-lent_fits.true))

pub returns-then-count-eq1024 : goal.returns-then-count-eq1024
returns-then-count-eq1024 c =
    let a = c.args in rw c.unchanged-then-count-eq1024.ensures (appends_full a.message.now a.own _ _ _ _ (sym c.decode-read.ensures ∙ c.in-Write.is) (sym c.op_in_domain.ensures ∙ c.if-not-op_in_domain.false) (sym c.lent_fits.ensures ∙ c.if-not-lent_fits.false) c.if-count-eq1024.true)

pub read_op-o-requires : goal.read_op-o-requires
read_op-o-requires c = (write-there c.args.message.now _ (sym c.decode-read.ensures ∙ c.in-Write.is), refl)

pub slice_bounds-column-end : goal.slice_bounds-column-end
slice_bounds-column-end c = omega (arith, c.read_op-o.ensures.short, c.read_op-o.ensures.column)

pub slice_bounds-push-end : goal.slice_bounds-push-end
slice_bounds-push-end c = sym (length-take-le _ _ (omega (arith, c.read_op-o.ensures.short, c.read_op-o.ensures.column)))

pub push-rows-requires : goal.push-rows-requires
push-rows-requires c =
    let f = (sym c.lent_fits.ensures ∙ c.if-not-lent_fits.false) in (fits-sized _ f, fits-well _ f, count_room _ f c.if-count-eq1024.false, c.read_op-o.ensures.storable (sym c.op_in_domain.ensures ∙ c.if-not-op_in_domain.false))

pub overflow_add-result : goal.overflow_add-result
overflow_add-result c =
    omega (arith, count_room _ (sym c.lent_fits.ensures ∙ c.if-not-lent_fits.false) c.if-count-eq1024.false)

pub overflow_add-result-2 : goal.overflow_add-result-2
overflow_add-result-2 c =
    omega (arith, count_room _ (sym c.lent_fits.ensures ∙ c.if-not-lent_fits.false) c.if-count-eq1024.false)

pub returns : goal.returns
returns c =
    let a = c.args in let f = (sym c.lent_fits.ensures ∙ c.if-not-lent_fits.false) in appends_pushed a.message.now a.own _ _ _ _ (sym c.decode-read.ensures ∙ c.in-Write.is) (sym c.op_in_domain.ensures ∙ c.if-not-op_in_domain.false) _ _ f (count_room _ f c.if-count-eq1024.false) c.read_op-o.ensures.op c.push-rows.ensures
