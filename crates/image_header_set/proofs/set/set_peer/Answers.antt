use Rattle.image_header_set.proofs.SetLaws.{peer-set, peer-typed}
use Rattle.image_header_set.proofs.set.set_peer.Goals as goal

pub returns : goal.returns
returns c =
    let a = c.args in peer-set a.out.now _ a.row c.requires.0 a.i c.requires.1 a.p (peer-typed a.p _ c.well_formed.1.1.1.0) c.put_peer.ensures
