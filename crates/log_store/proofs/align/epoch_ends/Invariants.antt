use mathlib.Core.Path.{◌≡◌}
use Prim.Native.Nat.{◌≤◌}
use lib.ListN.{length}
use Rattle.log_store.specs.Align.{table_of, EndsOf}
use Rattle.log_store.proofs.align.epoch_ends.Given as goal

abbrev pub invariant-loop-i : goal.invariant-loop-i
invariant-loop-i l =
    (l.n ≤ l.i) × (length l.froms ≡ length l.initial.froms) × (length l.ends ≡ length l.initial.ends) × EndsOf l.epochs l.offsets l.i (table_of l.froms l.ends l.n)
