use Rattle.test_lines.proofs.Numbers.{self_number}
use Rattle.test_lines.proofs.words.bits_of.Goals as goal

pub float_to_bits-result : goal.float_to_bits-result
float_to_bits-result c = self_number _ c.if-x.true
