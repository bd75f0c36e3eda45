use Rattle.calls_apply.proofs.settled.settle.Goals as goal

pub decided-d-requires : goal.decided-d-requires
decided-d-requires c = c.requires

pub carry_out-requires : goal.carry_out-requires
carry_out-requires c = (c.requires, c.decided-d.ensures)

pub returns : goal.returns
returns c = c.carry_out.ensures
