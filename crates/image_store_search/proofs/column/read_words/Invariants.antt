use mathlib.Core.Path.{◌≡◌}
use Prim.Native.Nat.{◌≤◌}
use lib.ListN.{length, take}
use Rattle.image_store.specs.Image.{words}
use Rattle.image_store_search.proofs.column.read_words.Given as goal

abbrev pub invariant-loop-i : goal.invariant-loop-i
invariant-loop-i l =
    (l.i ≤ 1024) × (length l.out ≡ 1024) × (take l.i l.out ≡ take l.i (words 8 1024 l.s l.at))
