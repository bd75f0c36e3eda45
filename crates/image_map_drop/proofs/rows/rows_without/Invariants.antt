use mathlib.Core.List.{List}
use Prim.Native.Nat.{ℕ, ◌+◌, ◌-◌, ◌*◌, ◌≤◌}
use lib.ListN.{length}
use Rattle.image_map_drop.proofs.Kept.{Kept}
use Rattle.image_map_drop.proofs.rows.rows_without.Given as goal

-- the table lies in the image, and a name in each row
abbrev Table : (s : List ℕ) (base words count : ℕ) → Type 0
Table s base words count = (5 ≤ words) × (words ≤ 34) × (base + 8 * words * count ≤ 26536) × (26536 ≤ length s)

abbrev pub invariant-loop-i : goal.invariant-loop-i
invariant-loop-i l =
    Kept (8 * l.words) l.base l.name l.initial.out l.count l.out l.i l.kept × (l.i ≤ l.count) × Table l.initial.out l.base l.words l.count
