use mathlib.Core.Path.{sym, ◌∙◌}
use Rattle.calls_wait.specs.Numbers.{said_of}
use Rattle.calls_wait.proofs.WaitLaws.{at_other, at_over, at-still}
use Rattle.calls_wait.proofs.wait.wait_at.Goals as goal

pub returns-then-not-leads : goal.returns-then-not-leads
returns-then-not-leads c =
    let a = c.args in
    let the-role-at = c.role_at-role in
    let the-get8 = c.get8-own in
    let s = a.header.now in
    at_other s a.peers.now a.answer.now a.at a.epoch a.offset a.clock a.timeout the-role-at.result the-role-at.ensures (sym c.leads.ensures ∙ c.if-not-leads.true) the-get8.result the-get8.ensures _ c.put_number.ensures.1

pub returns-then-all_acked : goal.returns-then-all_acked
returns-then-all_acked c =
    let a = c.args in
    let the-role-at = c.role_at-role in
    let the-get82 = c.get8-last in
    let the-get83 = c.get8-n in
    let the-shrinks-of = c.shrinks_of-shrink in
    at_over a.header.now _ a.peers.now _ a.answer.now _ a.at a.epoch a.offset a.clock a.timeout _ the-role-at.result the-role-at.ensures (sym c.leads.ensures ∙ c.if-not-leads.false) the-get83.result the-get82.result the-get83.ensures the-get82.ensures the-shrinks-of.result the-shrinks-of.ensures (sym c.all_acked.ensures ∙ c.if-all_acked.true) (c.put_shrink.ensures said_of)

pub returns : goal.returns
returns c =
    let a = c.args in
    let the-role-at = c.role_at-role in
    let the-get82 = c.get8-last in
    let the-get83 = c.get8-n in
    let the-shrinks-of = c.shrinks_of-shrink in
    at-still a.header.now _ a.peers.now _ a.answer.now _ a.at a.epoch a.offset a.clock a.timeout _ the-role-at.result the-role-at.ensures (sym c.leads.ensures ∙ c.if-not-leads.false) the-get83.result the-get82.result the-get83.ensures the-get82.ensures the-shrinks-of.result the-shrinks-of.ensures (sym c.all_acked.ensures ∙ c.if-all_acked.false) (c.put_shrink-2.ensures said_of)
