use native.Mathlib.Omega.{arith}
use mathlib.Core.Path.{◌≡◌, ◌∙◌, ap}
use Rattle.spec.specs.Layout.Format.{number_at}
use Rattle.image_header_row.specs.Rows.{expiry_of, expiry_code, expiry_time}
use Rattle.image_header.specs.Image.{head_of}
use Rattle.image_header_form.proofs.FrontLaws.{stored_same}
use Rattle.calls_wait.proofs.BackLaws.{put-waited, count_behind}
use Rattle.calls_wait.proofs.back.put_waited.Goals as goal

pub rows_waited-requires : goal.rows_waited-requires
rows_waited-requires c =
    let the-pre = c.requires in
    let the-put-head = c.put_head in
    let k = the-put-head.auto.out in
    let p = the-pre.0.0 in
    let cb = count_behind the-put-head.ensures p c.args.at in
    let f = the-pre.2 in (omega arith, the-pre.0.1, the-pre.1, omega arith)

pub returns : goal.returns
returns c =
    let a = c.args in
    let the-pre = c.requires in
    let the-get8 = c.get8-id in
    let the-get82 = c.get8-incarnation in
    let the-get83 = c.get8-version in
    let the-expiry-of = c.expiry_of-e in
    let the-expiry-code = c.expiry_code-code in
    let the-expiry-time = c.expiry_time-end in
    let s = a.out.now in
    let x : the-expiry-of.result ≡ expiry_of (number_at 4 s 36) (number_at 8 s 40) = the-expiry-of.ensures ∙ (rw (c.get4.ensures, c.get8.ensures)) in
    let f : the-expiry-code.result ≡ expiry_code (expiry_of (number_at 4 s 36) (number_at 8 s 40)) = the-expiry-code.ensures ∙ ap expiry_code x in
    let t : the-expiry-time.result ≡ expiry_time (expiry_of (number_at 4 s 36) (number_at 8 s 40)) = the-expiry-time.ensures ∙ ap expiry_time x in
    let e : head_of the-get8.result the-get82.result the-get83.result a.count the-expiry-code.result the-expiry-time.result ≡ head_of (number_at 8 s 0) (number_at 8 s 8) (number_at 8 s 16) a.count (expiry_code (expiry_of (number_at 4 s 36) (number_at 8 s 40))) (expiry_time (expiry_of (number_at 4 s 36) (number_at 8 s 40))) = rw (the-get8.ensures, the-get82.ensures, the-get83.ensures, f, t) in
    put-waited s a.count the-pre.0 a.at a.clock a.timeout the-pre.1 the-pre.2 (λ i. omega (arith, c.slice_known-1.given i)) c.ranges.clock.fits _ _ (stored_same e c.put_head.ensures) c.rows_waited.ensures
