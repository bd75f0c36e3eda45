use mathlib.Core.Path.{◌≡◌}
use mathlib.Core.List.{List}
use Prim.Native.Nat.{ℕ, ◌≤◌, ◌<◌}
use mathlib.Core.Bool.{true}
use Rattle.log_check.specs.Entries.{entry_fits}
use Rattle.log_store.specs.View.{columns}
use Rattle.log_check.proofs.entries.each_fits.Given as goal

abbrev pub invariant-loop-i : goal.invariant-loop-i
invariant-loop-i l =
    (l.i ≤ l.count) × ((es is : List ℕ) (j : ℕ) → j < l.i → entry_fits (columns es l.offsets is l.codes l.lengths l.floats) j ≡ true)
