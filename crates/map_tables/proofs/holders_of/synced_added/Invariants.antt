use mathlib.Core.Path.{◌≡◌}
use mathlib.Core.List.{◌∷◌, ◌++◌}
use Prim.Native.Nat.{◌+◌, ◌≤◌}
use lib.ListN.{length, take, drop}
use Rattle.map_tables.proofs.holders_of.synced_added.Given as goal

abbrev pub invariant-loop-i : goal.invariant-loop-i
invariant-loop-i l =
    (l.i ≤ l.count + 1) × (l.count + 1 ≤ 8) × (length l.items ≡ 8) × (take l.i l.items ++ l.carry ∷ drop l.i l.items ≡ take l.at l.initial.items ++ l.initial.carry ∷ drop l.at l.initial.items)
