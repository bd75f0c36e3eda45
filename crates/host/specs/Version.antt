-- The version of the entry points, as include/catalogue.h and CHANGELOG.md have it. Definitions only.
use Rattle.std.specs.Prelude.{ℕ, ◌+◌, ◌*◌}

-- three numbers in one, each of the last two below 1,000: a later version is the larger number
abbrev pub number_of : (major minor patch : ℕ) → ℕ
number_of major minor patch = major * 1000000 + minor * 1000 + patch

-- 0.3.0
abbrev pub version_number : ℕ
version_number = number_of 0 3 0
