use mathlib.Core.Path.{refl}
use Rattle.image_header.specs.Image.{no_node}
use Rattle.calls_header.proofs.Fresh.{fresh-short, fresh-made}
use Rattle.calls_show.proofs.fresh.fresh_node.Goals as goal

pub returns-then-header-lt-IMAGE : goal.returns-then-header-lt-IMAGE
returns-then-header-lt-IMAGE c = fresh-short _ _ _ _ _ c.if-header-lt-IMAGE.true refl refl

pub put_fresh-requires : goal.put_fresh-requires
put_fresh-requires c = c.if-header-lt-IMAGE.false

pub returns : goal.returns
returns c =
    fresh-made c.args.header.now c.args.id c.args.incarnation c.if-header-lt-IMAGE.false _ _ no_node.held refl c.put_fresh.ensures
