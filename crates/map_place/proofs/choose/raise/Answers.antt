use native.Mathlib.Omega.{arith}
use mathlib.Core.Path.{refl, ◌∙◌, ap}
use mathlib.Core.List.{List}
use Prim.Native.Nat.{ℕ, ◌+◌}
use lib.ListN.{length, get_or, set, length-set}
use Rattle.map_place.specs.Read.{loads_in}
use Rattle.map_place.proofs.Pairs.{raise_on, raise_stop, raise_end, count_light}
use Rattle.map_place.proofs.choose.raise.Goals as goal

pub loop-i-init : goal.loop-i-init
loop-i-init c = (omega arith, refl, omega arith)

pub overflow_add-counts : goal.overflow_add-counts
overflow_add-counts c =
    let lt = c.loop-i-test.true in let z = ap (λ (l : List ℕ). get_or l c.loop-i.i 0) c.loop-i.invariant.1 in omega (arith, z, count_light c.args.ids.now c.args.counts.now c.args.count c.requires.0 c.loop-i.i lt 4096 c.requires.1)

pub returns-then-ids-i : goal.returns-then-ids-i
returns-then-ids-i c =
    let lt = c.loop-i-test.true in record {
      long = simp length-set (ap length c.loop-i.invariant.1 ∙ c.requires.0.counted);
      loads =
          ap (λ (l : List ℕ). loads_in c.args.ids.now (set l c.loop-i.i (get_or l c.loop-i.i 0 + 1)) c.args.count) c.loop-i.invariant.1
          ∙ raise_stop c.args.ids.now c.args.counts.now c.args.count c.requires.0 c.args.node c.loop-i.i c.loop-i.invariant.2 lt c.if-ids-i.true;
    }

pub loop-i-preserved : goal.loop-i-preserved
loop-i-preserved c =
    let lt = c.loop-i-test.true in
    (omega arith, c.loop-i.invariant.1, raise_on c.args.ids.now c.args.counts.now c.args.count c.requires.0 c.args.node c.loop-i.i c.loop-i.invariant.2 lt c.if-ids-i.false)

pub returns : goal.returns
returns c =
    record { long = ap length c.loop-i.invariant.1 ∙ c.requires.0.counted; loads = ap (λ (l : List ℕ). loads_in c.args.ids.now l c.args.count) c.loop-i.invariant.1 ∙ raise_end c.args.ids.now c.args.counts.now c.args.count c.requires.0 c.args.node c.loop-i.i c.loop-i.invariant.2 c.loop-i-test.false }
