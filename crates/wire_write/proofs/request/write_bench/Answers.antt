use mathlib.Core.Path.{sym, ap, ◌∙◌}
use native.Mathlib.Omega.{arith}
use lib.ListN.{length}
use lib.Seq.{sets}
use Rattle.spec.specs.Layout.Format.{encode}
use Rattle.wire_write.specs.Written.{count_fits}
use Rattle.wire_write.proofs.Writes.{short, wrote, fits_count}
use Rattle.spec.specs.Layout.Request.{bench, encode_request, bench_f}
use Rattle.wire_write.specs.Requests.{request_given}
use Rattle.wire_put.specs.Fields.{request_head}
use Rattle.wire_write.proofs.Requests.{request-length, request-put, bench_put, bench_length, bench_bytes}
use Rattle.wire_write.proofs.request.write_bench.Goals as goal

pub returns-then-out-n : goal.returns-then-out-n
returns-then-out-n c =
    short (encode_request (request_given c.args.index c.args.client c.args.seq (bench c.args.bytes.now))) c.args.out.now (count_fits 0 1024 (length c.args.bytes.now)) (sym c.count_fits.ensures ∙ c.if-not-count_fits.false) (omega (arith, ap length (bench_bytes c.args.index c.args.client c.args.seq c.args.bytes.now), request-length c.args.index c.args.client c.args.seq 0x19 (encode bench_f c.args.bytes.now), bench_length c.args.bytes.now (λ i. omega (arith, c.type_inv.bytes i))))

pub overflow_cast-n : goal.overflow_cast-n
overflow_cast-n c =
    omega (arith, fits_count 0 1024 (length c.args.bytes.now) (sym c.count_fits.ensures ∙ c.if-not-count_fits.false))

pub returns : goal.returns
returns c =
    wrote (encode_request (request_given c.args.index c.args.client c.args.seq (bench c.args.bytes.now))) c.args.out.now (count_fits 0 1024 (length c.args.bytes.now)) _ _ (sym c.count_fits.ensures ∙ c.if-not-count_fits.false) (omega (arith, ap length (bench_bytes c.args.index c.args.client c.args.seq c.args.bytes.now), request-length c.args.index c.args.client c.args.seq 0x19 (encode bench_f c.args.bytes.now), bench_length c.args.bytes.now (λ i. omega (arith, c.type_inv.bytes i)))) (omega (arith, ap length (bench_bytes c.args.index c.args.client c.args.seq c.args.bytes.now), request-length c.args.index c.args.client c.args.seq 0x19 (encode bench_f c.args.bytes.now), bench_length c.args.bytes.now (λ i. omega (arith, c.type_inv.bytes i))))
    (c.put_bytes.ensures ∙ (rw (c.put2.ensures, c.put_request_head.ensures) (bench_put (sets c.args.out.now 0 (request_head c.args.index c.args.client c.args.seq 0x19)) c.args.bytes.now (λ i. omega (arith, c.type_inv.bytes i)) ∙ request-put c.args.index c.args.client c.args.seq 0x19 (encode bench_f c.args.bytes.now) c.args.out.now ∙ ap (sets c.args.out.now 0) (sym (bench_bytes c.args.index c.args.client c.args.seq c.args.bytes.now)))))
