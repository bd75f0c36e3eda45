use native.Mathlib.Omega.{arith}
use lib.ListN.{length-replicate}
use Rattle.calls_losses.proofs.Calls.{losses-told}
use Rattle.calls_losses.proofs.answer_losses.Goals as goal

pub live_loads-loads-requires : goal.live_loads-loads-requires
live_loads-loads-requires c = c.requires.0

pub put_losses-put-requires : goal.put_losses-put-requires
put_losses-put-requires c =
    (c.live_loads-loads.ensures.count, c.live_loads-loads.ensures.size, c.live_loads-loads.ensures.light, simp length-replicate (omega arith))

pub returns : goal.returns
returns c =
    losses-told c.args.map.now c.args.spec c.live_loads-loads.result c.put_losses-put.result _ _ c.requires.1 c.live_loads-loads.ensures c.put_losses-put.ensures (simp length-replicate (omega arith)) c.answer_rows.ensures
