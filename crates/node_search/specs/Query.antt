-- What the reading of a query promises (paper 01, 'Bytes on the wire', Vector; 22). Definitions only.
use Rattle.std.specs.Prelude.{ℕ, ◌≡◌, Bool, true, List, Float, length, take}
use Rattle.spec.specs.Node.Wire.{patterns_in_domain, floats_of}

-- the domain test of the bits; where it passes, the first n places of the column are their floats. Where not, the column is free
pub record ReadsQuery (bits : List ℕ) (r : Bool) (n : ℕ) (out : List Float) : Type 0 where
  pub tested : r ≡ patterns_in_domain bits
  pub column : length out ≡ 32
  pub floats : r ≡ true → take n out ≡ floats_of bits
