use mathlib.Core.Path.{◌∙◌}
use Rattle.calls_position.proofs.Bytes.{vector-put}
use Rattle.calls_position.proofs.stored.put_vector.Goals as goal

pub float_to_bits-words : goal.float_to_bits-words
float_to_bits-words c = c.requires.1.0

pub float_to_bits-words-2 : goal.float_to_bits-words-2
float_to_bits-words-2 c = c.requires.1.1.0

pub float_to_bits-words-3 : goal.float_to_bits-words-3
float_to_bits-words-3 c = c.requires.1.1.1.0

pub float_to_bits-words-4 : goal.float_to_bits-words-4
float_to_bits-words-4 c = c.requires.1.1.1.1.0

pub returns : goal.returns
returns c =
    c.put_words4.ensures
    ∙ (rw c.put_byte.ensures (vector-put c.args.out.now c.args.v.0 c.args.v.1 c.args.v.2 c.args.v.3))
