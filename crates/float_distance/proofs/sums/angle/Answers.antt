use mathlib.Core.Path.{ap}
use lib.Ieee.{binary32, mul}
use Rattle.spec.specs.Nearest.Root.{sqrt}
use Rattle.float_distance.proofs.Arms.{angle_zero, angle-other}
use Rattle.float_distance.proofs.sums.angle.Goals as goal

pub returns-then-d : goal.returns-then-d
returns-then-d c =
    let g = c.args in
    let r = c.sqrt_f32 in
    angle_zero g.product (mul binary32 g.qnorm r.result) g.qnorm (sqrt binary32 g.own)
    (ap (mul binary32 g.qnorm) r.ensures) c.if-d.true

pub returns : goal.returns
returns c =
    let g = c.args in
    let r = c.sqrt_f32 in
    angle-other g.product (mul binary32 g.qnorm r.result) g.qnorm (sqrt binary32 g.own)
    (ap (mul binary32 g.qnorm) r.ensures) c.if-d.false
