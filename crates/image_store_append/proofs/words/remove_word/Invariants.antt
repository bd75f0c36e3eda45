use mathlib.Core.Path.{◌≡◌}
use Prim.Native.Nat.{◌≤◌, ◌<◌}
use lib.ListN.{length}
use Rattle.image_store_append.proofs.WordLaws.{Down}
use Rattle.image_store_append.proofs.words.remove_word.Given as goal

abbrev pub invariant-loop-k : goal.invariant-loop-k
invariant-loop-k l =
    (l.i ≤ l.k) × (l.k < l.n) × (length l.out ≡ length l.initial.out) × Down l.initial.out l.at l.n l.i l.out l.k
