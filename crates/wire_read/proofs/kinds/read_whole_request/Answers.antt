use Rattle.std.proofs.Common.{sym, ◌∙◌}
use Rattle.wire_read.proofs.Messages.{request-whole, request-part, request-none}
use Rattle.wire_read.proofs.kinds.read_whole_request.Goals as goal

pub returns-in_err-request : goal.returns-in_err-request
returns-in_err-request c = c.from_residual.ensures ∙ request-none c.args.s.now (sym c.read_request.ensures ∙ c.in_err-request.was)

pub returns-then-end-s : goal.returns-then-end-s
returns-then-end-s c =
    request-whole c.args.s.now _ _ (sym c.read_request.ensures ∙ c.in_ok-request.was) c.if-end-s.true

pub returns : goal.returns
returns c =
    request-part c.args.s.now _ _ (sym c.read_request.ensures ∙ c.in_ok-request.was) c.if-end-s.false
