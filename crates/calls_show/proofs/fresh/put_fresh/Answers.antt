use Rattle.calls_show.proofs.FreshLaws.{fresh-put}
use Rattle.calls_show.proofs.fresh.put_fresh.Goals as goal

pub put_head-requires : goal.put_head-requires
put_head-requires c = c.requires

pub returns : goal.returns
returns c =
    fresh-put c.args.id c.args.incarnation c.args.header.now _ c.requires c.ranges.id.fits c.ranges.incarnation.fits c.put_head.ensures
