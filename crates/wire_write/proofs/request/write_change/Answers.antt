use mathlib.Core.Path.{sym, ap, ◌∙◌}
use native.Mathlib.Omega.{arith}
use lib.ListN.{length}
use lib.Seq.{sets}
use Rattle.spec.specs.Layout.Format.{encode}
use Rattle.wire_write.specs.Written.{text_fits, key_given}
use Rattle.wire_write.proofs.Writes.{short, wrote, text-short}
use Rattle.spec.specs.Layout.Request.{encode_request, ownership_f}
use Rattle.wire_write.specs.Requests.{request_given, change_given, change_code}
use Rattle.wire_put.specs.Fields.{request_head}
use Rattle.wire_write.proofs.Requests.{request-length, request-put, change-put, change-length, change-bytes}
use Rattle.wire_write.proofs.request.write_change.Goals as goal

pub returns-then-out-lt79 : goal.returns-then-out-lt79
returns-then-out-lt79 c =
    short (encode_request (request_given c.args.index c.args.client c.args.seq (change_given c.args.change (key_given c.args.name.now c.args.shard) c.args.node.0 c.args.epoch.0))) c.args.out.now (text_fits 32 c.args.name.now) (sym c.text_fits.ensures ∙ c.if-not-text_fits.false) (omega (arith, ap length (change-bytes c.args.index c.args.client c.args.seq c.args.change c.args.name.now c.args.shard c.args.node.0 c.args.epoch.0), request-length c.args.index c.args.client c.args.seq (change_code c.args.change) (encode ownership_f ((c.args.name.now, c.args.shard), (c.args.node.0, c.args.epoch.0))), change-length c.args.name.now c.args.shard c.args.node.0 c.args.epoch.0 (text-short 32 c.args.name.now (sym c.text_fits.ensures ∙ c.if-not-text_fits.false))))

pub put_key-requires : goal.put_key-requires
put_key-requires c = (omega arith, (text-short 32 c.args.name.now (sym c.text_fits.ensures ∙ c.if-not-text_fits.false)))

pub returns : goal.returns
returns c =
    wrote (encode_request (request_given c.args.index c.args.client c.args.seq (change_given c.args.change (key_given c.args.name.now c.args.shard) c.args.node.0 c.args.epoch.0))) c.args.out.now (text_fits 32 c.args.name.now) _ _ (sym c.text_fits.ensures ∙ c.if-not-text_fits.false) (omega (arith, ap length (change-bytes c.args.index c.args.client c.args.seq c.args.change c.args.name.now c.args.shard c.args.node.0 c.args.epoch.0), request-length c.args.index c.args.client c.args.seq (change_code c.args.change) (encode ownership_f ((c.args.name.now, c.args.shard), (c.args.node.0, c.args.epoch.0))), change-length c.args.name.now c.args.shard c.args.node.0 c.args.epoch.0 (text-short 32 c.args.name.now (sym c.text_fits.ensures ∙ c.if-not-text_fits.false)))) (omega (arith, ap length (change-bytes c.args.index c.args.client c.args.seq c.args.change c.args.name.now c.args.shard c.args.node.0 c.args.epoch.0), request-length c.args.index c.args.client c.args.seq (change_code c.args.change) (encode ownership_f ((c.args.name.now, c.args.shard), (c.args.node.0, c.args.epoch.0))), change-length c.args.name.now c.args.shard c.args.node.0 c.args.epoch.0 (text-short 32 c.args.name.now (sym c.text_fits.ensures ∙ c.if-not-text_fits.false))))
    (c.put8-2.ensures ∙ (rw (c.put8.ensures, c.put_key.ensures, c.put_request_head.ensures, c.change_code.ensures) (change-put (sets c.args.out.now 0 (request_head c.args.index c.args.client c.args.seq (change_code c.args.change))) c.args.name.now c.args.shard c.args.node.0 c.args.epoch.0 (text-short 32 c.args.name.now (sym c.text_fits.ensures ∙ c.if-not-text_fits.false)) ∙ request-put c.args.index c.args.client c.args.seq (change_code c.args.change) (encode ownership_f ((c.args.name.now, c.args.shard), (c.args.node.0, c.args.epoch.0))) c.args.out.now ∙ ap (sets c.args.out.now 0) (sym (change-bytes c.args.index c.args.client c.args.seq c.args.change c.args.name.now c.args.shard c.args.node.0 c.args.epoch.0)))))
