use native.Mathlib.Omega.{arith}
use Rattle.wire_put.proofs.Writes.{put-stored}
use Rattle.wire_put.proofs.put.put_bytes.Goals as goal

pub returns : goal.returns
returns c =
    let a = c.args in
    put-stored a.out.now a.v.now _ a.at _ c.copy_from_slice.ensures.after (omega arith) c.requires
