use native.Mathlib.Omega.{arith}
use mathlib.Core.Path.{refl}
use mathlib.Core.List.{append-nil}
use lib.ListN.{length-set}
use Rattle.map_words.proofs.DigitLaws.{place-left, next-digit, last-digit}
use Rattle.map_words.proofs.parts.digits.Goals as goal

pub loop-left-init : goal.loop-left-init
loop-left-init c = (omega arith, refl, append-nil _)

pub overflow_sub-from : goal.overflow_sub-from
overflow_sub-from c =
    place-left c.args.n c.loop-left.left c.loop-left.from c.loop-left.bytes c.ranges.n.fits c.loop-left.invariant.1 c.loop-left.invariant.0 c.loop-left.invariant.2

pub digit-requires : goal.digit-requires
digit-requires c = omega arith

pub bounds-bytes-from : goal.bounds-bytes-from
bounds-bytes-from c =
    omega (arith, place-left c.args.n c.loop-left.left c.loop-left.from c.loop-left.bytes c.ranges.n.fits c.loop-left.invariant.1 c.loop-left.invariant.0 c.loop-left.invariant.2)

pub loop-left-smaller : goal.loop-left-smaller
loop-left-smaller c = omega arith

pub loop-left-preserved : goal.loop-left-preserved
loop-left-preserved c =
    (omega arith, simp length-set c.loop-left.invariant.1, next-digit c.args.n c.loop-left.left c.loop-left.from c.loop-left.bytes c.ranges.n.fits c.loop-left.invariant.1 c.loop-left.invariant.0 c.loop-left.invariant.2 (omega arith) _ c.digit.ensures)

pub overflow_sub-from-2 : goal.overflow_sub-from-2
overflow_sub-from-2 c =
    place-left c.args.n c.loop-left.left c.loop-left.from c.loop-left.bytes c.ranges.n.fits c.loop-left.invariant.1 c.loop-left.invariant.0 c.loop-left.invariant.2

pub digit-requires-2 : goal.digit-requires-2
digit-requires-2 c = omega arith

pub bounds-bytes-from-2 : goal.bounds-bytes-from-2
bounds-bytes-from-2 c =
    omega (arith, place-left c.args.n c.loop-left.left c.loop-left.from c.loop-left.bytes c.ranges.n.fits c.loop-left.invariant.1 c.loop-left.invariant.0 c.loop-left.invariant.2)

pub returns : goal.returns
returns c =
    record { within = omega arith; digits = last-digit c.args.n c.loop-left.left c.loop-left.from c.loop-left.bytes c.ranges.n.fits c.loop-left.invariant.1 c.loop-left.invariant.0 c.loop-left.invariant.2 (omega arith) _ c.digit-2.ensures }
