use native.Mathlib.Omega.{arith}
use lib.ListN.{length-replicate}
use Rattle.test_map.proofs.stream.Goals as goal

pub replay-requires : goal.replay-requires
replay-requires c = simp length-replicate (omega arith)
