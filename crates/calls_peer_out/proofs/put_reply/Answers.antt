use native.Mathlib.Omega.{arith}
use Rattle.calls_peer_out.proofs.Ends.{no_room_lem, room}
use Rattle.calls_peer_out.proofs.put_reply.Goals as goal

pub returns-then-reply-lt9 : goal.returns-then-reply-lt9
returns-then-reply-lt9 c = no_room_lem c.args.w c.args.reply.now (omega arith)

pub returns : goal.returns
returns c = room _ _ _ _ (omega arith) c.write_reply-wrote.ensures
