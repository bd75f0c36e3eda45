use Rattle.std.proofs.Common.{◌∙◌}
use Rattle.wire_read.proofs.decode.Goals as goal

pub returns : goal.returns
returns c = c.unwrap_or.ensures ∙ c.read.ensures
