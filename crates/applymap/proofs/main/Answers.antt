use native.Mathlib.Omega.{arith}
use lib.ListN.{length-replicate}
use Rattle.applymap.proofs.main.Goals as goal

pub run-requires : goal.run-requires
run-requires c = (simp length-replicate (omega arith), simp length-replicate (omega arith))
