use mathlib.Core.Path.{◌≡◌}
use Prim.Native.Nat.{◌+◌, ◌*◌, ◌≤◌}
use lib.ListN.{length, drop}
use lib.Seq.{sets}
use Rattle.spec.specs.Layout.Format.{bytes_of, concat_map}
use Rattle.image_store.specs.Image.{words}
use Rattle.image_store_append.proofs.entries.put_patterns.Given as goal

abbrev pub invariant-loop-i : goal.invariant-loop-i
invariant-loop-i l =
    (l.i ≤ l.n) × (length l.out ≡ length l.initial.out) × (sets l.out (l.at + 4 * l.i) (concat_map (bytes_of 4) (drop l.i (words 4 l.n l.s l.from))) ≡ sets l.initial.out l.at (concat_map (bytes_of 4) (words 4 l.n l.s l.from)))
