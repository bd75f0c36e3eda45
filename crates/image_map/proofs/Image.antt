-- Whether a buffer lends a map, and what a whole image comes to. Assumes nothing.
use Prim.Native.Nat.{ℕ, ◌≤◌, ◌<◌}
use mathlib.Core.Path.{◌≡◌}
use mathlib.Core.Bool.{true, false}
use mathlib.Core.List.{List}
use lib.ListN.{length}
use lib.Dec.{leb}
use borrow.Author.Tests.{le-leb, lt-leb}
use Rattle.spec_laws.proofs.Wire.Tests.{and_true, and_false}
use Rattle.map_tables.specs.declared.ShardMap.{ShardMap}
use Rattle.image_map.specs.Image.{codes_listed, map_lent, map_put, map_written}

module _ (s : List ℕ) where
  pub lent-short : length s < 26536 → map_lent s ≡ false
  unfolding map_lent
  lent-short h = rw (lt-leb 26536 (length s) h) (and_false _)

  pub lent-whole : 26536 ≤ length s → codes_listed s ≡ true → map_lent s ≡ true
  unfolding map_lent
  lent-whole h k = rw (le-leb 26536 (length s) h, k) (and_true _)

  pub written_long : (m : ShardMap) → 26536 ≤ length s → map_put s m ≡ map_written s m
  unfolding map_written
  written_long m h = rw (le-leb 26536 (length s) h)
