use mathlib.Core.Path.{refl}
use mathlib.Core.Bool.{false}
use Rattle.spec_laws.proofs.Lists.{not_both}
use Rattle.image_show.proofs.RowLaws.{holds-made}
use Rattle.image_show.proofs.row.holds_as.Goals as goal

pub returns-then-get8-list : goal.returns-then-get8-list
returns-then-get8-list c = λ e. not_both false e refl

pub returns : goal.returns
returns c =
    λ e. holds-made c.args.s.now c.args.at c.args.list c.get8.result c.get8.ensures c.if-get8-list.false c.replicas_at-copies.result c.replicas_at-copies.ensures (c.same_replicas.ensures e)
