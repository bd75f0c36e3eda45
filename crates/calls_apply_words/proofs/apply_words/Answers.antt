use mathlib.Core.Path.{sym, ◌∙◌}
use Rattle.wire_read.proofs.Decoded.{request_decoded}
use Rattle.map_request.proofs.Loads.{decoded_shows, missed_all, some_all}
use Rattle.calls_apply.proofs.Call.{room, ready_for}
use Rattle.calls_apply_words.proofs.Call.{undecoded_way, lent_not, malformed_way, settled_in_words}
use Rattle.calls_apply_words.proofs.apply_words.Goals as goal

pub returns-in_default : goal.returns-in_default
returns-in_default c =
    undecoded_way c.args.map.now c.args.request.now c.args.text.now c.args.answer.now (missed_all c.args.request.now (λ q e. c.in_default.not-Request _ (c.decode-message.ensures ∙ e)))

pub returns-then-not-is_lent : goal.returns-then-not-is_lent
returns-then-not-is_lent c =
    let d = request_decoded c.args.request.now _ (sym c.decode-message.ensures ∙ c.in-Request.is) in lent_not c.args.map.now c.args.request.now c.args.text.now c.args.answer.now d.read d.decoded (sym c.is_lent.ensures ∙ c.if-not-is_lent.true)

pub is_formed-requires : goal.is_formed-requires
is_formed-requires c = room c.args.map.now (sym c.is_lent.ensures ∙ c.if-not-is_lent.false)

pub returns-then-not-is_formed : goal.returns-then-not-is_formed
returns-then-not-is_formed c =
    let d = request_decoded c.args.request.now _ (sym c.decode-message.ensures ∙ c.in-Request.is) in malformed_way c.args.map.now c.args.request.now c.args.text.now c.args.answer.now d.read d.decoded (sym c.is_lent.ensures ∙ c.if-not-is_lent.false) (sym c.is_formed.ensures ∙ c.if-not-is_formed.true)

pub load-r-requires : goal.load-r-requires
load-r-requires c =
    (decoded_shows c.args.request.now _ (request_decoded c.args.request.now _ (sym c.decode-message.ensures ∙ c.in-Request.is))).held

pub settle_in_words-requires : goal.settle_in_words-requires
settle_in_words-requires c =
    ready_for c.args.map.now c.args.request.now c.load-r.result (record { given = sym c.is_lent.ensures ∙ c.if-not-is_lent.false; formed = sym c.is_formed.ensures ∙ c.if-not-is_formed.false; loaded = some_all c.args.request.now _ (sym c.decode-message.ensures ∙ c.in-Request.is) c.load-r.result c.load-r.ensures })

pub returns : goal.returns
returns c =
    settled_in_words c.args.map.now c.args.request.now c.args.text.now c.args.answer.now c.load-r.result (record { given = sym c.is_lent.ensures ∙ c.if-not-is_lent.false; formed = sym c.is_formed.ensures ∙ c.if-not-is_formed.false; loaded = some_all c.args.request.now _ (sym c.decode-message.ensures ∙ c.in-Request.is) c.load-r.result c.load-r.ensures }) _ _ _ _ c.settle_in_words.ensures
