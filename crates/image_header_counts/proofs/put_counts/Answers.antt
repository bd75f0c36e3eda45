use native.Mathlib.Omega.{arith}
use mathlib.Core.Path.{◌≡◌, ◌∙◌, ap}
use Rattle.spec.specs.Layout.Format.{number_at}
use Rattle.image_header_row.specs.Rows.{expiry_of, expiry_code, expiry_time}
use Rattle.image_header_form.proofs.FrontLaws.{stored_same}
use Rattle.image_header_counts.proofs.Counts.{counts_whole}
use Rattle.image_header_counts.proofs.put_counts.Goals as goal

pub get8-id-requires : goal.get8-id-requires
get8-id-requires c = let p = c.requires.0.0 in omega arith

pub get8-incarnation-requires : goal.get8-incarnation-requires
get8-incarnation-requires c = let p = c.requires.0.0 in omega arith

pub get8-version-requires : goal.get8-version-requires
get8-version-requires c = let p = c.requires.0.0 in omega arith

pub get4-requires : goal.get4-requires
get4-requires c = let p = c.requires.0.0 in omega arith

pub get8-requires : goal.get8-requires
get8-requires c = let p = c.requires.0.0 in omega arith

pub put_head-requires : goal.put_head-requires
put_head-requires c = c.requires.0.0

pub rows_counted-requires : goal.rows_counted-requires
rows_counted-requires c = let k = c.put_head.auto.out in let p = c.requires.0.0 in (omega arith, c.requires.0.1, c.requires.1)

pub shape_of-out : goal.shape_of-out
shape_of-out c = c.rows_counted.auto.out ∙ c.put_head.auto.out

pub returns : goal.returns
returns c =
    let a = c.args in let s = a.out.now in let b = c.ranges in
    let x : c.expiry_of-e.result ≡ expiry_of (number_at 4 s 36) (number_at 8 s 40) = c.expiry_of-e.ensures ∙ (rw (c.get4.ensures, c.get8.ensures)) in
    let f : c.expiry_code-code.result ≡ expiry_code (expiry_of (number_at 4 s 36) (number_at 8 s 40)) = c.expiry_code-code.ensures ∙ ap expiry_code x in
    let t : c.expiry_time-end.result ≡ expiry_time (expiry_of (number_at 4 s 36) (number_at 8 s 40)) = c.expiry_time-end.ensures ∙ ap expiry_time x in
    counts_whole s a.count a.row a.last a.stored c.requires.0 c.requires.1 (λ i. omega (arith, c.slice_known-1.given i)) (omega arith) (omega arith) _ _
    (stored_same (rw (c.get8-id.ensures, c.get8-incarnation.ensures, c.get8-version.ensures, f, t)) c.put_head.ensures) c.rows_counted.ensures
