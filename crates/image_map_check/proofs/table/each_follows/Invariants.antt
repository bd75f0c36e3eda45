use Rattle.std.proofs.Common.{◌≡◌, ℕ, ◌-◌, ◌<◌, true}
use Rattle.image_map_check.proofs.table.each_follows.Given as goal

abbrev pub invariant-loop-i : goal.invariant-loop-i
invariant-loop-i g l = (l.last ≡ l.i - 1) × ((k : ℕ) → k < l.i → goal.F-post g l.follows k (k - 1) true)
