use mathlib.Core.Path.{◌≡◌}
use Prim.Native.Nat.{◌≤◌}
use lib.ListN.{drop}
use Rattle.spec.specs.Lists.{◌and◌, every}
use Rattle.spec.specs.Nearest.Order.{bits_in_domain}
use Rattle.image_store.specs.Image.{words}
use Rattle.image_store_check.proofs.entries.all_inside.Given as goal

abbrev pub invariant-loop-i : goal.invariant-loop-i
invariant-loop-i l =
    (l.i ≤ l.n) × (l.ok and every bits_in_domain (drop l.i (words 4 l.n l.s l.at)) ≡ every bits_in_domain (words 4 l.n l.s l.at))
