use mathlib.Core.Path.{sym, ap, ◌∙◌}
use native.Mathlib.Omega.{arith}
use lib.ListN.{length}
use lib.Seq.{sets}
use Rattle.spec.specs.Layout.Format.{encode}
use Rattle.spec.specs.Layout.Parts.{name_f}
use Rattle.wire_write.specs.Written.{text_fits}
use Rattle.wire_write.proofs.Writes.{length-text, short, wrote, text-short}
use Rattle.spec.specs.Layout.Request.{drop_collection, encode_request}
use Rattle.wire_write.specs.Requests.{request_given}
use Rattle.wire_write.proofs.Requests.{request-length, request-put, drop-bytes}
use Rattle.wire_write.proofs.request.write_drop.Goals as goal

pub returns-then-out-lt59 : goal.returns-then-out-lt59
returns-then-out-lt59 c =
    short (encode_request (request_given c.args.index c.args.client c.args.seq (drop_collection c.args.name.now))) c.args.out.now (text_fits 32 c.args.name.now) (sym c.text_fits.ensures ∙ c.if-not-text_fits.false) (omega (arith, ap length (drop-bytes c.args.index c.args.client c.args.seq c.args.name.now), request-length c.args.index c.args.client c.args.seq 0x11 (encode name_f c.args.name.now), length-text 32 c.args.name.now (text-short 32 c.args.name.now (sym c.text_fits.ensures ∙ c.if-not-text_fits.false))))

pub put_text-requires : goal.put_text-requires
put_text-requires c =
    (omega arith, (text-short 32 c.args.name.now (sym c.text_fits.ensures ∙ c.if-not-text_fits.false)), omega arith)

pub returns : goal.returns
returns c =
    wrote (encode_request (request_given c.args.index c.args.client c.args.seq (drop_collection c.args.name.now))) c.args.out.now (text_fits 32 c.args.name.now) _ _ (sym c.text_fits.ensures ∙ c.if-not-text_fits.false) (omega (arith, ap length (drop-bytes c.args.index c.args.client c.args.seq c.args.name.now), request-length c.args.index c.args.client c.args.seq 0x11 (encode name_f c.args.name.now), length-text 32 c.args.name.now (text-short 32 c.args.name.now (sym c.text_fits.ensures ∙ c.if-not-text_fits.false)))) (omega (arith, ap length (drop-bytes c.args.index c.args.client c.args.seq c.args.name.now), request-length c.args.index c.args.client c.args.seq 0x11 (encode name_f c.args.name.now), length-text 32 c.args.name.now (text-short 32 c.args.name.now (sym c.text_fits.ensures ∙ c.if-not-text_fits.false))))
    (c.put_text.ensures ∙ (rw c.put_request_head.ensures (request-put c.args.index c.args.client c.args.seq 0x11 (encode name_f c.args.name.now) c.args.out.now ∙ ap (sets c.args.out.now 0) (sym (drop-bytes c.args.index c.args.client c.args.seq c.args.name.now)))))
