use Rattle.calls_map.proofs.Empty.{short_way, empty_way}
use Rattle.calls_map.proofs.empty_map.Goals as goal

pub returns-then-map-lt26536 : goal.returns-then-map-lt26536
returns-then-map-lt26536 c = short_way c.args.map.now c.if-map-lt26536.true

pub returns : goal.returns
returns c = empty_way c.args.map.now _ c.if-map-lt26536.false c.put_empty.ensures
