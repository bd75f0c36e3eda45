-- A map without rows, in an image: five numbers are written, and the map is read back. Assumes nothing.
use Prim.Native.Nat.{ℕ, ◌≤◌, ◌<◌}
use mathlib.Core.Path.{◌≡◌, refl}
use mathlib.Core.List.{List, ◌++◌}
use lib.ListN.{length}
use native.Mathlib.Omega.{arith}
use borrow.Author.Tests.{lt-ltb, le-ltb}
use Rattle.spec.specs.Layout.Format.{bytes_of}
use Rattle.spec.specs.Map.Tables.{empty_map}
use Rattle.spec_laws.proofs.Lists.{not_both}
use Rattle.image_parts.specs.Shape.{Stored}
use Rattle.image_map.specs.Image.{map_stored}
use Rattle.image_map.proofs.Back.{Fits, becomes}
use Rattle.calls_map.specs.Calls.{Empties}

abbrev none : List ℕ
none = bytes_of 8 0

-- without rows only version and counts are written
pub no_rows : (s t : List ℕ) → Stored s t 0 ((((none ++ none) ++ none) ++ none) ++ none) 40 → t ≡ map_stored s empty_map
unfolding map_stored
no_rows s t e = e.image

no_fits : Fits empty_map
no_fits = record {
  version = omega arith;
  nodes = record { count = omega arith; rows = tt };
  collections = record { count = omega arith; rows = tt };
  shards = record { count = omega arith; rows = tt };
  sessions = record { count = omega arith; rows = tt };
}

pub short_way : (s : List ℕ) → length s < 26536 → Empties s s 24
short_way s h = record { short = λ _. (refl, refl); long = λ f. not_both _ (lt-ltb (length s) 26536 h) f }

pub empty_way : (s t : List ℕ) → 26536 ≤ length s → t ≡ map_stored s empty_map → Empties s t 0
empty_way s t h e = record {
  short = λ f. not_both _ f (le-ltb (length s) 26536 h);
  long = λ _. record { answer = refl; becomes = becomes s empty_map h no_fits t e };
}
