-- The laws of Placements and Replacements, put to the map of the paper's cases. Assumes nothing.
use mathlib.Core.Path.{◌≡◌, refl}
use mathlib.Core.Bool.{true}
use mathlib.Core.List.{[], ◌∷◌}
use mathlib.Core.Option.{some}
use Prim.Native.Nat.{ℕ}
use Rattle.spec.specs.Map.Tables.{ShardInfo}
use Rattle.spec.specs.Map.Change.{holds}
use Rattle.spec.specs.Map.Apply.{shard_at}
use Rattle.spec.specs.Map.Lightest.{is_live, WellPlaced, WellReplaced}
use Rattle.spec.specs.Cases.Commands.{part, on, sized}
use Rattle.spec.specs.Cases.Placing.{loaded, taken}
use Rattle.spec.proofs.Opened.{opened}
use Rattle.spec_laws.proofs.Map.Placements.{placed-well}
use Rattle.spec_laws.proofs.Map.Replacements.{replaced-well, nobody_else}

pub placed : WellPlaced loaded (sized 1 4 2) ((4 ∷ 5 ∷ []) ∷ (1 ∷ 4 ∷ []) ∷ (5 ∷ 1 ∷ []) ∷ (2 ∷ 4 ∷ []) ∷ [])
unfolding opened
placed = placed-well loaded (sized 1 4 2) _ refl refl

pub replaced : (s : ShardInfo) × (shard_at loaded.shards (part 2) ≡ some s) × WellReplaced loaded s 5
unfolding opened
replaced = replaced-well loaded (part 2) 5 refl refl

pub all_hold : (n : ℕ) → is_live taken n ≡ true → holds n (on 3 6 ∷ on 1 1 ∷ []) ≡ true
unfolding opened
all_hold n h = nobody_else taken (part 0) _ refl refl refl n h
