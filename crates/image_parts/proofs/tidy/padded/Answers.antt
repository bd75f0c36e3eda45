use Rattle.std.proofs.Common.{rules, ◌≡◌, length}
use Rattle.image_parts.proofs.Canon.{padded-used}
use Rattle.image_parts.proofs.tidy.padded.Goals as goal

pub returns : goal.returns
returns g c =
    let long : length c.args.all ≡ g.row.N = search rules in
    padded-used g.row.N c.in_use-n.result c.args.count c.args.none c.args.all c.copy_from_slice.new.self long c.in_use-n.ensures.0 c.in_use-n.ensures.1 c.copy_from_slice.ensures.after
