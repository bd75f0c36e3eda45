use Rattle.std.proofs.Common.{◌*◌}
use Rattle.image_store_search.specs.Four.{Taken}
use Rattle.image_store_search.proofs.four.over.Given as goal

abbrev pub invariant-loop-k : goal.invariant-loop-k
invariant-loop-k g l = Taken (λ i x y. goal.F-post g l.fn.on i x y) (4 * l.k) l.fn.none l.sums

abbrev pub invariant-loop-i : goal.invariant-loop-i
invariant-loop-i g l = Taken (λ i x y. goal.F-post g l.fn.on i x y) l.i l.fn.none l.sums
