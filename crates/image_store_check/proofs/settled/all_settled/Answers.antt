use native.Mathlib.Omega.{arith}
use Prim.Native.Nat.{◌-◌}
use Rattle.log_check.proofs.Answers.{grant, deny}
use Rattle.log_check.proofs.Walking.{from_on}
use Rattle.image_store.specs.Image.{keys_in, places_in}
use Rattle.image_store.specs.Read.{codes_in}
use Rattle.image_store_check.specs.Test.{ids_in}
use Rattle.image_store_check.proofs.settled.all_settled.Goals as goal

pub loop-i-init : goal.loop-i-init
loop-i-init c = (omega arith, c.requires.2, c.requires.3, λ k h g. absurd (omega arith))

pub is_settled-requires : goal.is_settled-requires
is_settled-requires c =
    let t = c.loop-i-test.true in let w = c.loop-i.invariant.0 in (omega arith, c.requires.0, c.requires.1, c.loop-i.invariant.1, c.loop-i.invariant.2)

pub returns-then-not-is_settled : goal.returns-then-not-is_settled
returns-then-not-is_settled c =
    deny (λ f. c.is_settled.ensures.nay (c.if-not-is_settled.true) (f (c.loop-i.i - 1) (omega (arith, c.loop-i.invariant.0, c.loop-i-test.true))))

pub get8-requires : goal.get8-requires
get8-requires c =
    let q = c.requires.1 in let k = c.requires.0.count in let w = c.loop-i.invariant.0 in let t = c.loop-i-test.true in omega arith

pub remember-requires : goal.remember-requires
remember-requires c =
    let k = c.requires.0.count in let w = c.loop-i.invariant.0 in let t = c.loop-i-test.true in (omega arith, c.loop-i.invariant.1, c.loop-i.invariant.2)

pub loop-i-preserved : goal.loop-i-preserved
loop-i-preserved c =
    let a = c.args in let s = a.s.now in let l = c.loop-i in (
      omega (arith, l.invariant.0),
      c.remember.ensures.0,
      c.remember.ensures.1,
      from_on (ids_in s a.base) (codes_in s a.base) (keys_in s a.base) (places_in s a.base) a.count a.stored l.i (l.i - 1) (omega (arith, c.loop-i-test.true)) l.invariant.3 (c.is_settled.ensures.yes (c.if-not-is_settled.false)),
    )

pub returns : goal.returns
returns c = grant (λ k h. c.loop-i.invariant.3 k (omega (arith, c.loop-i-test.false)) h)
