use Rattle.test_input.proofs.StepLaws.{starts-empty}
use Rattle.test_input.proofs.start.start.Goals as goal

pub returns : goal.returns
returns c = starts-empty c.args.map.now c.empty_map.new.map c.empty_map.result c.requires c.empty_map.ensures
