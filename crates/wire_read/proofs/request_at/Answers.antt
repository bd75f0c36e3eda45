use Rattle.std.proofs.Common.{sym, ◌∙◌}
use Rattle.wire_read.proofs.Messages.{request_read}
use Rattle.wire_read.proofs.request_at.Goals as goal

pub returns-in-Some : goal.returns-in-Some
returns-in-Some c = request_read c.args.at c.args.s.now _ (sym c.in-Some.is ∙ c.read_request.ensures)

pub returns-in-None : goal.returns-in-None
returns-in-None c = request_read c.args.at c.args.s.now _ (sym c.in-None.is ∙ c.read_request.ensures)
