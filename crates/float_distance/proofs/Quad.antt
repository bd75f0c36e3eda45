-- One of four distances in step. Assumes nothing.
use mathlib.Core.Path.{◌≡◌}
use mathlib.Core.List.{List}
use Prim.Native.Nat.{ℕ}
use lib.Ieee.{Float, binary32, mul}
use Rattle.spec.specs.declared.Metric.{Metric}
use Rattle.spec.specs.declared.Metric.TheVariants.{Euclidean, Angular}
use Rattle.spec.specs.Nearest.Root.{sqrt}
use Rattle.spec.specs.Nearest.Distance.{squares, dot, norm, angle, Bounded}
use Rattle.float_distance.specs.Lanes.{stored, IsDistance}
use Rattle.float_distance.proofs.Arms.{euclid_made, angle-made, measured}

module _ (m : Metric) (query floats : List Float) (p n : ℕ) (asked : Bounded query)
    (held : Bounded (stored floats p n)) where
  pub euclid_lane : (a r : Float) → m ≡ Euclidean → a ≡ squares query (stored floats p n) → r ≡ sqrt binary32 a
      → IsDistance m query floats p n r
  euclid_lane a r k e f =
      let d = measured m query (stored floats p n) r asked held (euclid_made m query (stored floats p n) a r k e f) in
      record { value = d.0; number = d.1 }

  pub angle_lane : (a qnorm o r : Float) → m ≡ Angular → a ≡ dot query (stored floats p n) → qnorm ≡ norm query
      → o ≡ dot (stored floats p n) (stored floats p n) → r ≡ angle a (mul binary32 qnorm (sqrt binary32 o))
      → IsDistance m query floats p n r
  angle_lane a qnorm o r k e f g h =
      let d = measured m query (stored floats p n) r asked held
      (angle-made m query (stored floats p n) a qnorm o r k e f g h) in
      record { value = d.0; number = d.1 }
