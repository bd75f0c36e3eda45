use Rattle.calls_client_out.proofs.hits.room_of.Goals as goal

pub returns : goal.returns
returns c = c.least.ensures
