use native.Mathlib.Omega.{arith}
use mathlib.Core.Path.{◌≡◌, ◌∙◌}
use Prim.Native.Nat.{◌+◌, ◌-◌}
use Rattle.image_parts.proofs.Images.{bytes-items}
use Rattle.image_parts.proofs.bytes.bytes_at.Goals as goal

pub returns : goal.returns
returns g c =
    let q : c.args.at + g.row.N - c.args.at ≡ g.row.N = omega arith in
    c.copy_from_slice.ensures.after ∙ rw q (bytes-items c.args.s.now g.row.N c.args.at c.requires)
