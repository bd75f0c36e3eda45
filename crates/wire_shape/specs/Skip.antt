-- What a shape test answers: the position after the value that stands at a position, or that none stands there.
-- How it is tested is the code's; `fits` and `next` are `spec`'s.
use Rattle.std.specs.Prelude.{ℕ, Bool, true, false, List, Option, Some, None}
use Rattle.spec.specs.Layout.Format.{Format, fits, next, fits_n, next_n}

abbrev pub skip_if : Bool → ℕ → Option ℕ
skip_if true p = Some p
skip_if false p = None

-- one value of a format
unfoldable pub skip : Format → List ℕ → ℕ → Option ℕ
skip f s at = skip_if (fits f s at) (next f s at)

-- n values of a format
unfoldable pub skip_n : Format → List ℕ → ℕ → ℕ → Option ℕ
skip_n f s n p = skip_if (fits_n (fits f s) (next f s) n p) (next_n (next f s) n p)
