use mathlib.Core.Path.{sym, ◌∙◌}
use Rattle.wire_read.proofs.Decoded.{request_decoded}
use Rattle.map_request.proofs.Loads.{decoded_shows, missed_all, some_all}
use Rattle.calls_apply.proofs.Call.{room, undecoded_way, lent_not, malformed_way, ready_for, settled_way}
use Rattle.calls_apply.proofs.apply.Goals as goal

pub returns-in_default : goal.returns-in_default
returns-in_default c =
    undecoded_way c.args.map.now c.args.request.now (missed_all c.args.request.now (λ q e. c.in_default.not-Request _ (c.decode-message.ensures ∙ e)))

pub returns-then-not-is_lent : goal.returns-then-not-is_lent
returns-then-not-is_lent c =
    let d = request_decoded c.args.request.now _ (sym c.decode-message.ensures ∙ c.in-Request.is) in lent_not c.args.map.now c.args.request.now d.read d.decoded (sym c.is_lent.ensures ∙ c.if-not-is_lent.true)

pub is_formed-requires : goal.is_formed-requires
is_formed-requires c = room c.args.map.now (sym c.is_lent.ensures ∙ c.if-not-is_lent.false)

pub returns-then-not-is_formed : goal.returns-then-not-is_formed
returns-then-not-is_formed c =
    let d = request_decoded c.args.request.now _ (sym c.decode-message.ensures ∙ c.in-Request.is) in malformed_way c.args.map.now c.args.request.now d.read d.decoded (sym c.is_lent.ensures ∙ c.if-not-is_lent.false) (sym c.is_formed.ensures ∙ c.if-not-is_formed.true)

pub load-r-requires : goal.load-r-requires
load-r-requires c =
    (decoded_shows c.args.request.now _ (request_decoded c.args.request.now _ (sym c.decode-message.ensures ∙ c.in-Request.is))).held

pub settle-requires : goal.settle-requires
settle-requires c =
    ready_for c.args.map.now c.args.request.now c.load-r.result (record { given = sym c.is_lent.ensures ∙ c.if-not-is_lent.false; formed = sym c.is_formed.ensures ∙ c.if-not-is_formed.false; loaded = some_all c.args.request.now _ (sym c.decode-message.ensures ∙ c.in-Request.is) c.load-r.result c.load-r.ensures })

pub returns : goal.returns
returns c =
    settled_way c.args.map.now c.args.request.now c.load-r.result (record { given = sym c.is_lent.ensures ∙ c.if-not-is_lent.false; formed = sym c.is_formed.ensures ∙ c.if-not-is_formed.false; loaded = some_all c.args.request.now _ (sym c.decode-message.ensures ∙ c.in-Request.is) c.load-r.result c.load-r.ensures }) _ _ c.settle.ensures
