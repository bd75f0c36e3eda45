use Rattle.calls_map.proofs.Places.{none-short, none_long}
use Rattle.calls_map.proofs.replaced.put_none.Goals as goal

pub returns-then-out-lt8 : goal.returns-then-out-lt8
returns-then-out-lt8 c = none-short c.args.out.now c.if-out-lt8.true

pub returns-else-out-lt8 : goal.returns-else-out-lt8
returns-else-out-lt8 c = none_long c.args.out.now c.if-out-lt8.false
