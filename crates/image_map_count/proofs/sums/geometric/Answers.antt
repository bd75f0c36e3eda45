use borrow.Author.Rules.{rules}
use native.Mathlib.Omega.{arith}
use mathlib.Core.Path.{◌≡◌, refl, sym, ◌∙◌, ap}
use Prim.Native.Nat.{ℕ, ◌+◌, ◌*◌, ◌^◌}
use native.Mathlib.Nat.{pow-zero}
use borrow.Author.Tests.{leb-true}
use Rattle.spec.specs.Limits.{max_u64}
use Rattle.spec_count.specs.Closed.{geometric}
use Rattle.image_map_count.proofs.SumLaws.{next-sum, next_last, sum-rises, summed_beyond, summed}
use Rattle.image_map_count.proofs.sums.geometric.Goals as goal

pub loop-i-init : goal.loop-i-init
unfolding geometric
loop-i-init c = (omega arith, refl, sym (pow-zero c.args.base), omega arith)

pub returns-then-not-next_fits : goal.returns-then-not-next_fits
returns-then-not-next_fits c =
    summed_beyond c.args.base c.loop-i.i c.loop-i.sum c.loop-i.invariant.1 c.args.n (search rules) (sym c.next_fits.ensures ∙ c.if-not-next_fits.true)

pub overflow_mul-next : goal.overflow_mul-next
overflow_mul-next c =
    omega (arith, leb-true (c.loop-i.sum * c.args.base + 1) max_u64 (sym c.next_fits.ensures ∙ c.if-not-next_fits.false))

pub overflow_add-next : goal.overflow_add-next
overflow_add-next c =
    omega (arith, leb-true (c.loop-i.sum * c.args.base + 1) max_u64 (sym c.next_fits.ensures ∙ c.if-not-next_fits.false))

pub overflow_sub-last : goal.overflow_sub-last
overflow_sub-last c = sum-rises c.args.base c.loop-i.i c.loop-i.sum c.loop-i.invariant.1

pub loop-i-preserved : goal.loop-i-preserved
loop-i-preserved c =
    (search rules, next-sum c.args.base c.loop-i.i c.loop-i.sum c.loop-i.invariant.1, next_last c.args.base c.loop-i.i c.loop-i.sum c.loop-i.invariant.1, leb-true _ _ (sym c.next_fits.ensures ∙ c.if-not-next_fits.false))

pub returns : goal.returns
returns c =
    let e : c.loop-i.i ≡ c.args.n = search rules in summed c.args.base c.args.n c.loop-i.sum c.loop-i.last (c.loop-i.invariant.1 ∙ ap (geometric c.args.base) e) (c.loop-i.invariant.2 ∙ ap (λ (k : ℕ). c.args.base ^ k) e) c.loop-i.invariant.3
