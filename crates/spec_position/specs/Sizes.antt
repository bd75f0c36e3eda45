-- `within` by sign and size, as the code asks it: that the two agree is a law. Definitions only.
use Rattle.std.specs.Prelude.{ℕ, Bool, not, leb}
use Rattle.spec.specs.Lists.{◌and◌}

-- a right ascension under a sign, a declination under either
unfoldable pub sizes_within : Bool → ℕ → ℕ → Bool
sizes_within minus r s = not minus and (leb r 1295999985 and leb s 324000000)
