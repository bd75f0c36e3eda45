use native.Mathlib.Omega.{arith}
use Rattle.image_header_row.proofs.peers.bit.Goals as goal

pub returns-then-flag : goal.returns-then-flag
returns-then-flag c = (rw c.if-flag.true, omega arith)

pub returns-else-flag : goal.returns-else-flag
returns-else-flag c = (rw c.if-flag.false, omega arith)
