use Prim.Native.Nat.{ℕ}
use lib.Dec.{ltb}
use Rattle.std.proofs.Common.{rules}
use Rattle.std.proofs.lemmas.List.Sorted.{IsPartitionPoint-from_clause}
use Rattle.log_check.proofs.Walking.{seek-parted, seek-done}
use Rattle.log_check.proofs.rows.seek.Goals as goal

pub returns : goal.returns
returns c =
    let a = c.args in
    let p = c.partition_point in
    let point = IsPartitionPoint-from_clause (λ (k : ℕ). ltb k a.id) _ _ p.ensures.partitioned (seek-parted a.keys.now a.n a.id c.requires.1 c.requires.0) (λ x r q k. search rules) in
    seek-done a.keys.now a.n a.id c.requires.1 c.requires.0 p.result p.ensures.bound point
