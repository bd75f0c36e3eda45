use mathlib.Core.Path.{◌≡◌}
use Prim.Native.Nat.{◌≤◌}
use lib.ListN.{length}
use Rattle.log_domain.proofs.Tables.{PairsFrom}
use Rattle.log_domain.proofs.table.read_table.Given as goal

abbrev pub invariant-loop-i : goal.invariant-loop-i
invariant-loop-i l =
    (l.n ≡ l.p.len) × (l.i ≤ l.n) × (length l.froms ≡ 1024) × (length l.ends ≡ 1024) × PairsFrom l.s l.froms l.ends l.p.at l.i
