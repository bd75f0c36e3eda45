use Prim.Native.Nat.{ℕ, ◌-◌, ◌≤◌, ◌<◌}
use lib.ListN.{get_or}
use Rattle.image_store.specs.Image.{keys_in}
use Rattle.image_store_check.proofs.rows.seek.Given as goal

abbrev pub invariant-loop-low : goal.invariant-loop-low
invariant-loop-low l =
    (l.low ≤ l.high) × (l.high ≤ l.n) × ((j : ℕ) → j < l.low → get_or (keys_in l.s l.base) j 0 < l.id) × ((j : ℕ) → l.high ≤ j → j < l.n → l.id ≤ get_or (keys_in l.s l.base) j 0)

abbrev pub decreases-loop-low : goal.decreases-loop-low
decreases-loop-low l =
    l.high - l.low
