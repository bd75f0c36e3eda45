use native.Mathlib.Omega.{arith}
use Rattle.image_header_set.proofs.SetLaws.{writes-same, same_end, end_kept, end_read}
use Rattle.image_header_set.proofs.back.put_back.Goals as goal

pub get4-requires : goal.get4-requires
get4-requires c = let p = c.requires.0 in omega arith

pub get8-requires : goal.get8-requires
get8-requires c = let p = c.requires.0 in omega arith

pub put_end-requires : goal.put_end-requires
put_end-requires c = (c.requires, end_kept c.expiry_of-e.result _ _ c.expiry_code-code.ensures c.expiry_time-end.ensures)

pub returns : goal.returns
returns c =
    let s = c.args.out.now in let e = end_read s _ _ c.get4.ensures c.get8.ensures _ c.expiry_of-e.ensures in
    writes-same (same_end s c.expiry_of-e.result e _ _ c.expiry_code-code.ensures c.expiry_time-end.ensures) c.put_end.ensures
