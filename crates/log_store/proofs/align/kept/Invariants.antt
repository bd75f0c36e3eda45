use Prim.Native.Nat.{◌≤◌}
use Rattle.log_store.proofs.Aligning.{KeptFrom}
use Rattle.log_store.specs.Align.{table_of}
use Rattle.log_store.proofs.align.kept.Given as goal

abbrev pub invariant-loop-i : goal.invariant-loop-i
invariant-loop-i l =
    (l.i ≤ l.count) × KeptFrom l.epochs l.offsets l.count l.end.0 (table_of l.froms l.ends l.pairs) l.i
