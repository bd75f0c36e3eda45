use mathlib.Core.Path.{sym, ap, ◌∙◌}
use native.Mathlib.Omega.{arith}
use lib.ListN.{length}
use lib.Seq.{sets}
use Rattle.spec.specs.Layout.Format.{encode}
use Rattle.wire_write.specs.Written.{text_fits, key_given}
use Rattle.wire_write.proofs.Writes.{short, wrote, text-short}
use Rattle.spec.specs.Layout.Request.{add_replica, encode_request, add_f}
use Rattle.wire_write.specs.Requests.{request_given}
use Rattle.wire_put.specs.Fields.{request_head}
use Rattle.wire_write.proofs.Requests.{request-length, request-put, add_put, add_length, add_bytes}
use Rattle.wire_write.proofs.request.write_add_replica.Goals as goal

pub returns-then-out-lt87 : goal.returns-then-out-lt87
returns-then-out-lt87 c =
    short (encode_request (request_given c.args.index c.args.client c.args.seq (add_replica (key_given c.args.name.now c.args.shard) c.args.node.0 c.args.incarnation c.args.epoch.0))) c.args.out.now (text_fits 32 c.args.name.now) (sym c.text_fits.ensures ∙ c.if-not-text_fits.false) (omega (arith, ap length (add_bytes c.args.index c.args.client c.args.seq c.args.name.now c.args.shard c.args.node.0 c.args.incarnation c.args.epoch.0), request-length c.args.index c.args.client c.args.seq 0x14 (encode add_f ((c.args.name.now, c.args.shard), (c.args.node.0, (c.args.incarnation, c.args.epoch.0)))), add_length c.args.name.now c.args.shard c.args.node.0 c.args.incarnation c.args.epoch.0 (text-short 32 c.args.name.now (sym c.text_fits.ensures ∙ c.if-not-text_fits.false))))

pub put_key-requires : goal.put_key-requires
put_key-requires c = (omega arith, (text-short 32 c.args.name.now (sym c.text_fits.ensures ∙ c.if-not-text_fits.false)))

pub returns : goal.returns
returns c =
    wrote (encode_request (request_given c.args.index c.args.client c.args.seq (add_replica (key_given c.args.name.now c.args.shard) c.args.node.0 c.args.incarnation c.args.epoch.0))) c.args.out.now (text_fits 32 c.args.name.now) _ _ (sym c.text_fits.ensures ∙ c.if-not-text_fits.false) (omega (arith, ap length (add_bytes c.args.index c.args.client c.args.seq c.args.name.now c.args.shard c.args.node.0 c.args.incarnation c.args.epoch.0), request-length c.args.index c.args.client c.args.seq 0x14 (encode add_f ((c.args.name.now, c.args.shard), (c.args.node.0, (c.args.incarnation, c.args.epoch.0)))), add_length c.args.name.now c.args.shard c.args.node.0 c.args.incarnation c.args.epoch.0 (text-short 32 c.args.name.now (sym c.text_fits.ensures ∙ c.if-not-text_fits.false)))) (omega (arith, ap length (add_bytes c.args.index c.args.client c.args.seq c.args.name.now c.args.shard c.args.node.0 c.args.incarnation c.args.epoch.0), request-length c.args.index c.args.client c.args.seq 0x14 (encode add_f ((c.args.name.now, c.args.shard), (c.args.node.0, (c.args.incarnation, c.args.epoch.0)))), add_length c.args.name.now c.args.shard c.args.node.0 c.args.incarnation c.args.epoch.0 (text-short 32 c.args.name.now (sym c.text_fits.ensures ∙ c.if-not-text_fits.false))))
    (c.put8-3.ensures ∙ (rw (c.put8-2.ensures, c.put8.ensures, c.put_key.ensures, c.put_request_head.ensures) (add_put (sets c.args.out.now 0 (request_head c.args.index c.args.client c.args.seq 0x14)) c.args.name.now c.args.shard c.args.node.0 c.args.incarnation c.args.epoch.0 (text-short 32 c.args.name.now (sym c.text_fits.ensures ∙ c.if-not-text_fits.false)) ∙ request-put c.args.index c.args.client c.args.seq 0x14 (encode add_f ((c.args.name.now, c.args.shard), (c.args.node.0, (c.args.incarnation, c.args.epoch.0)))) c.args.out.now ∙ ap (sets c.args.out.now 0) (sym (add_bytes c.args.index c.args.client c.args.seq c.args.name.now c.args.shard c.args.node.0 c.args.incarnation c.args.epoch.0)))))
