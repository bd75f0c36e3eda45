use native.Mathlib.Omega.{arith}
use Rattle.calls_apply.proofs.RememberLaws.{remembered-few, remembered-writes}
use Rattle.calls_apply.proofs.remember.remember.Goals as goal

pub session_put-requires : goal.session_put-requires
session_put-requires c = c.requires

pub put8-requires : goal.put8-requires
put8-requires c = let l = c.requires.0.long in let k = c.session_put.auto.out in omega arith

pub put_tidied-requires : goal.put_tidied-requires
put_tidied-requires c =
    remembered-few c.args.map.now c.requires.0 c.args.row c.requires.1 _ c.session_put.ensures c.args.version (omega (arith, c.ranges.version)) _ c.put8.ensures

pub returns : goal.returns
returns c =
    remembered-writes c.args.map.now c.requires.0 c.args.row c.requires.1 _ c.session_put.ensures c.args.version (omega (arith, c.ranges.version)) _ c.put8.ensures (λ i. omega (arith, c.slice_known-3-1.given i)) _ c.put_tidied.ensures
