use mathlib.Core.Path.{sym, ap, ◌∙◌}
use native.Mathlib.Omega.{arith}
use lib.ListN.{length}
use lib.Seq.{sets}
use Rattle.spec.specs.Layout.Format.{encode}
use Rattle.wire_write.specs.Written.{text_fits}
use Rattle.wire_write.proofs.Writes.{short, wrote, text-short}
use Rattle.spec.specs.Layout.Request.{encode_request, register, register_f}
use Rattle.wire_write.specs.Requests.{request_given}
use Rattle.wire_put.specs.Fields.{request_head}
use Rattle.wire_write.proofs.Requests.{request-length, request-put, register_put, register_length, register_bytes}
use Rattle.wire_write.proofs.request.write_register.Goals as goal

pub returns-then-out-lt107 : goal.returns-then-out-lt107
returns-then-out-lt107 c =
    short (encode_request (request_given c.args.index c.args.client c.args.seq (register c.args.node.0 c.args.address.now c.args.incarnation))) c.args.out.now (text_fits 64 c.args.address.now) (sym c.text_fits.ensures ∙ c.if-not-text_fits.false) (omega (arith, ap length (register_bytes c.args.index c.args.client c.args.seq c.args.node.0 c.args.incarnation c.args.address.now), request-length c.args.index c.args.client c.args.seq 0x12 (encode register_f (c.args.node.0, (c.args.address.now, c.args.incarnation))), register_length c.args.address.now c.args.node.0 c.args.incarnation (text-short 64 c.args.address.now (sym c.text_fits.ensures ∙ c.if-not-text_fits.false))))

pub put_text-requires : goal.put_text-requires
put_text-requires c =
    (omega arith, (text-short 64 c.args.address.now (sym c.text_fits.ensures ∙ c.if-not-text_fits.false)), omega arith)

pub returns : goal.returns
returns c =
    wrote (encode_request (request_given c.args.index c.args.client c.args.seq (register c.args.node.0 c.args.address.now c.args.incarnation))) c.args.out.now (text_fits 64 c.args.address.now) _ _ (sym c.text_fits.ensures ∙ c.if-not-text_fits.false) (omega (arith, ap length (register_bytes c.args.index c.args.client c.args.seq c.args.node.0 c.args.incarnation c.args.address.now), request-length c.args.index c.args.client c.args.seq 0x12 (encode register_f (c.args.node.0, (c.args.address.now, c.args.incarnation))), register_length c.args.address.now c.args.node.0 c.args.incarnation (text-short 64 c.args.address.now (sym c.text_fits.ensures ∙ c.if-not-text_fits.false)))) (omega (arith, ap length (register_bytes c.args.index c.args.client c.args.seq c.args.node.0 c.args.incarnation c.args.address.now), request-length c.args.index c.args.client c.args.seq 0x12 (encode register_f (c.args.node.0, (c.args.address.now, c.args.incarnation))), register_length c.args.address.now c.args.node.0 c.args.incarnation (text-short 64 c.args.address.now (sym c.text_fits.ensures ∙ c.if-not-text_fits.false))))
    (c.put8-2.ensures ∙ (rw (c.put_text.ensures, c.put8.ensures, c.put_request_head.ensures) (register_put (sets c.args.out.now 0 (request_head c.args.index c.args.client c.args.seq 0x12)) c.args.address.now c.args.node.0 c.args.incarnation (text-short 64 c.args.address.now (sym c.text_fits.ensures ∙ c.if-not-text_fits.false)) ∙ request-put c.args.index c.args.client c.args.seq 0x12 (encode register_f (c.args.node.0, (c.args.address.now, c.args.incarnation))) c.args.out.now ∙ ap (sets c.args.out.now 0) (sym (register_bytes c.args.index c.args.client c.args.seq c.args.node.0 c.args.incarnation c.args.address.now)))))
