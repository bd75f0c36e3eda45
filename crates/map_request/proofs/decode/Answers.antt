use mathlib.Core.Path.{sym, ◌∙◌}
use Rattle.wire_read.proofs.Decoded.{request_decoded}
use Rattle.map_request.proofs.Loads.{none-all, missed_all, decoded_shows, some_all}
use Rattle.map_request.proofs.decode.Goals as goal

pub returns-in_default : goal.returns-in_default
returns-in_default c =
    let a = c.args in
    let r = c.decode-message in
    none-all a.s.now c.blank.result (missed_all a.s.now (λ q e.
    let shown = r.ensures ∙ e in
    c.in_default.not-Request _ shown))

pub load-request-requires : goal.load-request-requires
load-request-requires c =
    let a = c.args in
    let r = c.decode-message in
    (decoded_shows a.s.now _ (request_decoded a.s.now _ (sym r.ensures ∙ c.in-Request.is))).held

pub returns : goal.returns
returns c =
    let a = c.args in
    let r = c.decode-message in
    some_all a.s.now _ (sym r.ensures ∙ c.in-Request.is) c.load-request.result c.load-request.ensures
