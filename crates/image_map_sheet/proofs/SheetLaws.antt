-- What is answered of lent bytes, by what their tests tell. Assumes nothing.
use Prim.Native.Nat.{ℕ}
use mathlib.Core.Path.{◌≡◌}
use mathlib.Core.Bool.{true, false}
use mathlib.Core.List.{List}
use Rattle.spec_sheet.specs.Sheet.{sheet_of}
use Rattle.spec.specs.Lists.{◌and◌}
use Rattle.spec.specs.Refusals.{malformed}
use Rattle.map_tables.specs.View.{view_map}
use Rattle.map_check.specs.Lent.{well_formed_lent}
use Rattle.image_map.specs.Image.{map_at, map_lent}
use Rattle.image_map_sheet.specs.Answers.{made, not_made, sheet_lent}

module _ (s : List ℕ) where
  pub not_lent : map_lent s ≡ false → not_made malformed ≡ sheet_lent s
  unfolding sheet_lent ◌and◌
  not_lent e = rw e

  pub not_formed : map_lent s ≡ true → well_formed_lent (map_at s) ≡ false → not_made malformed ≡ sheet_lent s
  unfolding sheet_lent ◌and◌
  not_formed e f = rw (e, f)

  pub sheeted : map_lent s ≡ true → well_formed_lent (map_at s) ≡ true → made (sheet_of (view_map (map_at s))) ≡ sheet_lent s
  unfolding sheet_lent ◌and◌
  sheeted e f = rw (e, f)
