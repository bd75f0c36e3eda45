use mathlib.Core.Path.{◌≡◌}
use Prim.Native.Nat.{◌+◌, ◌≤◌}
use Rattle.log_store.proofs.Aligning.{KeptFrom}
use Rattle.log_domain.specs.Parts.{table_in}
use Rattle.image_store.specs.Image.{words}
use Rattle.image_store_check.specs.Test.{offsets_in}
use Rattle.image_store_align.proofs.kept.Given as goal

abbrev pub invariant-loop-i : goal.invariant-loop-i
invariant-loop-i l =
    (l.offsets ≡ l.base + 8192) × (l.i ≤ l.count) × KeptFrom (words 8 1024 l.stores l.base) (offsets_in l.stores l.base) l.count l.end (table_in l.message l.table) l.i
