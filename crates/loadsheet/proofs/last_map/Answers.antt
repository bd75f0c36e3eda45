use borrow.Author.Rules.{rules}
use native.Mathlib.Omega.{arith}
use mathlib.Core.Path.{refl, sym, ◌∙◌}
use Prim.Native.Nat.{◌≤◌}
use lib.ListN.{length}
use lib.Seq.{length-take-le}
use Rattle.loadsheet.proofs.last_map.Goals as goal

pub start-requires : goal.start-requires
start-requires g c = c.requires.0

pub loop-init : goal.loop-init
loop-init g c = (c.start.ensures.intact, omega arith, refl, refl, c.requires.1, search rules)

pub drain-done-requires : goal.drain-done-requires
drain-done-requires g c = (c.loop.invariant.0, search rules)

pub returns-then-rest-ge-LONGEST : goal.returns-then-rest-ge-LONGEST
returns-then-rest-ge-LONGEST g c = c.drain-done.ensures.intact

pub returns-then-more-rest : goal.returns-then-more-rest
returns-then-more-rest g c = c.drain-done.ensures.intact

pub loop-preserved : goal.loop-preserved
loop-preserved g c =
    let r = c.refill-more in let fits : r.result ≤ length r.new.buf = r.ensures.within.1 in
    (c.drain-done.ensures.intact, fits, sym (length-take-le r.result r.new.buf fits), r.ensures.same ∙ c.loop.invariant.3, c.loop.invariant.4, search rules)

pub returns : goal.returns
returns g c = c.loop.invariant.0
