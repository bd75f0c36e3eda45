use mathlib.Core.Path.{◌≡◌, refl}
use Rattle.spec.specs.Lists.{◌and◌}
use Rattle.spec.specs.Node.Shown.{retained}
use Rattle.calls_show_row.proofs.peers.row_retained.Goals as goal

pub returns : goal.returns
unfolding retained
returns c =
    let stays : c.both.result ≡ (c.args.p.member and c.is_holder-still.result) = c.both.ensures in rw (stays, c.is_holder-still.ensures) refl
