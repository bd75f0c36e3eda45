use Rattle.calls_client_out.proofs.HitLaws.{self_number, other_nan}
use Rattle.calls_search.proofs.hits.bits_of.Goals as goal

pub float_to_bits-result : goal.float_to_bits-result
float_to_bits-result c = self_number _ c.if-x.true

pub returns : goal.returns
returns c = other_nan _ c.if-x.false
