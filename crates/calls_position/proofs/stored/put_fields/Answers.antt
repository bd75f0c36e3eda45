use Rattle.calls_position.specs.Calls.{fields_bytes}
use Rattle.calls_position.proofs.stored.put_fields.Goals as goal

pub returns : goal.returns
unfolding fields_bytes
returns c = c.put_words4.ensures
