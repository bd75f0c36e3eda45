use mathlib.Core.Path.{◌≡◌}
use mathlib.Core.Bool.{true}
use mathlib.Core.List.{◌++◌, map}
use lib.Dec.{leb}
use Prim.Native.Nat.{◌-◌, ◌≤◌}
use lib.ListN.{length, take}
use Rattle.spec.specs.Lists.{every}
use Rattle.spec.specs.Layout.Format.{next, value, value_n}
use Rattle.map_tables.specs.View.{view_list}
use Rattle.map_request.specs.Parts.{list_f}
use Rattle.map_request.proofs.Rows.{Left}
use Rattle.map_request.proofs.lists.load_placement.Given as goal

abbrev pub invariant-loop-i : goal.invariant-loop-i
invariant-loop-i l =
    (l.i ≤ l.n) × (l.n ≤ 16) × Left l.s l.n l.i l.at × (length l.lists ≡ 16)
    × (map view_list (take l.i l.lists) ++ value_n (value list_f l.s) (next list_f l.s) (l.n - l.i) l.at ≡ value_n (value list_f l.s) (next list_f l.s) l.n l.initial.at)
    × (every (λ l. leb l.count 8) (take l.i l.lists) ≡ true)
