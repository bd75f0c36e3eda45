use mathlib.Core.Path.{sym, ◌∙◌, ap}
use mathlib.Core.Bool.{not}
use borrow.Author.Tests.{lt-ltb, le-ltb}
use Rattle.spec.specs.Layout.Message.{decode_reply}
use Rattle.calls_header.proofs.Asked.{ack_unnamed, ack_under, ack_over, ack_step}
use Rattle.calls_header.proofs.Calls.{reply-none, reply_some}
use Rattle.calls_ack.proofs.HeedLaws.{heeds_none, heeds_some}
use Rattle.calls_ack.proofs.heeds.heeded.Goals as goal

pub returns-then-not-text_fits : goal.returns-then-not-text_fits
returns-then-not-text_fits c =
    heeds_none c.args.name.now c.args.step c.args.reply.now (sym (ack_unnamed c.args.name.now c.args.step c.args.reply.now (ap not ((sym c.text_fits.ensures) ∙ c.if-not-text_fits.true))))

pub returns-then-step-lt2 : goal.returns-then-step-lt2
returns-then-step-lt2 c =
    heeds_none c.args.name.now c.args.step c.args.reply.now (sym (ack_under c.args.name.now c.args.step c.args.reply.now (ap not ((sym c.text_fits.ensures) ∙ c.if-not-text_fits.false)) (lt-ltb _ _ c.if-step-lt2.true)))

pub returns-then-step-gt4 : goal.returns-then-step-gt4
returns-then-step-gt4 c =
    heeds_none c.args.name.now c.args.step c.args.reply.now (sym (ack_over c.args.name.now c.args.step c.args.reply.now (ap not ((sym c.text_fits.ensures) ∙ c.if-not-text_fits.false)) (le-ltb _ _ c.if-step-lt2.false) (lt-ltb _ _ c.if-step-gt4.true)))

pub returns-in_default : goal.returns-in_default
returns-in_default c =
    heeds_none c.args.name.now c.args.step c.args.reply.now (sym (reply-none (decode_reply c.args.reply.now) (sym c.reply_of-h.ensures ∙ c.in_default.is) ∙ ack_step c.args.name.now c.args.step c.args.reply.now (ap not ((sym c.text_fits.ensures) ∙ c.if-not-text_fits.false)) (le-ltb _ _ c.if-step-lt2.false) (le-ltb _ _ c.if-step-gt4.false)))

pub returns-then-bad : goal.returns-then-bad
returns-then-bad c =
    heeds_none c.args.name.now c.args.step c.args.reply.now (sym (ack_step c.args.name.now c.args.step c.args.reply.now (ap not ((sym c.text_fits.ensures) ∙ c.if-not-text_fits.false)) (le-ltb _ _ c.if-step-lt2.false) (le-ltb _ _ c.if-step-gt4.false)) ∙ sym (reply_some (decode_reply c.args.reply.now) _ (sym c.reply_of-h.ensures ∙ c.in-Some.is)) ∙ sym c.bad.ensures ∙ c.if-bad.true)

pub returns : goal.returns
returns c =
    heeds_some c.args.name.now c.args.step c.args.reply.now _ (sym (ack_step c.args.name.now c.args.step c.args.reply.now (ap not ((sym c.text_fits.ensures) ∙ c.if-not-text_fits.false)) (le-ltb _ _ c.if-step-lt2.false) (le-ltb _ _ c.if-step-gt4.false)) ∙ sym (reply_some (decode_reply c.args.reply.now) _ (sym c.reply_of-h.ensures ∙ c.in-Some.is)) ∙ sym c.bad.ensures ∙ c.if-bad.false) (sym c.reply_of-h.ensures ∙ c.in-Some.is) (sym c.bad.ensures ∙ c.if-bad.false)
