use native.Mathlib.Omega.{arith}
use Rattle.calls_map.proofs.Apply.{older_not, refused_not, noted_else}
use Rattle.calls_apply.proofs.SettledLaws.{repeated-kept, repeated-written}
use Rattle.calls_apply.proofs.settled.repeated.Goals as goal

pub returns-then-number-eq1 : goal.returns-then-number-eq1
returns-then-number-eq1 c =
    λ q rd k. repeated-kept c.args.map.now q rd c.args.verdict k _ c.verdict_number-number.ensures (older_not _ c.if-number-eq1.true)

pub returns-then-number-gt16 : goal.returns-then-number-gt16
returns-then-number-gt16 c =
    λ q rd k. repeated-kept c.args.map.now q rd c.args.verdict k _ c.verdict_number-number.ensures (refused_not _ c.if-number-gt16.true)

pub put_tidied-requires : goal.put_tidied-requires
put_tidied-requires c = c.requires

pub returns : goal.returns
returns c =
    λ q rd k. repeated-written c.args.map.now q rd c.args.verdict k _ c.verdict_number-number.ensures (noted_else _ c.if-number-eq1.false (omega (arith, c.if-number-gt16.false))) _ c.put_tidied.ensures
