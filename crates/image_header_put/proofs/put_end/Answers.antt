use native.Mathlib.Omega.{arith}
use mathlib.Core.Path.{◌≡◌}
use Rattle.spec.specs.Layout.Format.{number_at}
use Rattle.image_header.specs.Image.{head_of}
use Rattle.image_header_form.proofs.FrontLaws.{stored_same}
use Rattle.image_header_put.proofs.Back.{put_whole}
use Rattle.image_header_put.proofs.put_end.Goals as goal

pub put_head-requires : goal.put_head-requires
put_head-requires c = c.requires.0.0

pub rows_tidied-requires : goal.rows_tidied-requires
rows_tidied-requires c =
    let the-pre = c.requires in
    let k = c.put_head.auto.out in
    let p = the-pre.0.0 in (omega arith, the-pre.0.1)

pub returns : goal.returns
returns c =
    let a = c.args in
    let the-pre = c.requires in
    let the-get8 = c.get8-id in
    let the-get82 = c.get8-incarnation in
    let the-get83 = c.get8-version in
    let s = a.out.now in
    let e : head_of the-get8.result the-get82.result the-get83.result a.count a.code a.end ≡ head_of (number_at 8 s 0) (number_at 8 s 8) (number_at 8 s 16) a.count a.code a.end = rw (the-get8.ensures, the-get82.ensures, the-get83.ensures) in
    put_whole s a.count the-pre.0 (λ i. omega (arith, c.slice_known-1.given i)) a.code a.end the-pre.1 c.ranges.end.fits _ _ (stored_same e c.put_head.ensures) c.rows_tidied.ensures
