use mathlib.Core.Path.{refl, sym, ap, ◌∙◌}
use mathlib.Core.Bool.{true}
use mathlib.Core.List.{[], ◌++◌}
use native.Mathlib.Omega.{arith}
use lib.ListN.{length}
use lib.Seq.{sets}
use Rattle.spec.specs.Layout.Format.{bytes_of}
use Rattle.wire_write.proofs.Writes.{short, wrote}
use Rattle.spec.specs.Layout.Request.{encode_request, mark_dead}
use Rattle.wire_write.specs.Requests.{request_given}
use Rattle.wire_put.specs.Fields.{request_head}
use Rattle.wire_write.proofs.Requests.{request-length, request-put, dead-put, dead-bytes}
use Rattle.wire_write.proofs.request.write_mark_dead.Goals as goal

pub returns-then-out-lt42 : goal.returns-then-out-lt42
returns-then-out-lt42 c =
    short (encode_request (request_given c.args.index c.args.client c.args.seq (mark_dead c.args.node.0 c.args.incarnation))) c.args.out.now true refl (omega (arith, ap length (dead-bytes c.args.index c.args.client c.args.seq c.args.node.0 c.args.incarnation), request-length c.args.index c.args.client c.args.seq 0x13 (bytes_of 8 c.args.node.0 ++ bytes_of 8 c.args.incarnation), request-length c.args.index c.args.client c.args.seq 0x13 []))

pub returns : goal.returns
returns c =
    wrote (encode_request (request_given c.args.index c.args.client c.args.seq (mark_dead c.args.node.0 c.args.incarnation))) c.args.out.now true _ _ refl (omega (arith, ap length (dead-bytes c.args.index c.args.client c.args.seq c.args.node.0 c.args.incarnation), request-length c.args.index c.args.client c.args.seq 0x13 (bytes_of 8 c.args.node.0 ++ bytes_of 8 c.args.incarnation), request-length c.args.index c.args.client c.args.seq 0x13 [])) (omega (arith, ap length (dead-bytes c.args.index c.args.client c.args.seq c.args.node.0 c.args.incarnation), request-length c.args.index c.args.client c.args.seq 0x13 (bytes_of 8 c.args.node.0 ++ bytes_of 8 c.args.incarnation), request-length c.args.index c.args.client c.args.seq 0x13 []))
    (c.put8-2.ensures ∙ (rw (c.put8.ensures, c.put_request_head.ensures) (dead-put (sets c.args.out.now 0 (request_head c.args.index c.args.client c.args.seq 0x13)) c.args.node.0 c.args.incarnation ∙ request-put c.args.index c.args.client c.args.seq 0x13 (bytes_of 8 c.args.node.0 ++ bytes_of 8 c.args.incarnation) c.args.out.now ∙ ap (sets c.args.out.now 0) (sym (dead-bytes c.args.index c.args.client c.args.seq c.args.node.0 c.args.incarnation)))))
