use native.Mathlib.Omega.{arith}
use mathlib.Core.Path.{◌≡◌, refl, ◌∙◌, ap}
use mathlib.Core.List.{List, ◌++◌, map}
use Prim.Native.Nat.{ℕ}
use lib.ListN.{get_or, take, drop, set, length-set}
use lib.Ieee.{Float, nan}
use Rattle.log_select.proofs.Writing.{write-next}
use Rattle.log_select.specs.Written.{id_of, distance_of}
use Rattle.spec.specs.declared.Neighbor.{Neighbor}
use Rattle.log_select.proofs.write.write_hits.Goals as goal

pub loop-i-init : goal.loop-i-init
loop-i-init c = (omega arith, refl, refl, refl, refl)

pub loop-i-preserved : goal.loop-i-preserved
loop-i-preserved c =
    let l = c.loop-i in
    let v = l.invariant in
    let a = c.args in
    let p = c.requires in
    let t = c.loop-i-test.true in
    let none : Neighbor = record { id = 0; distance = nan } in (
      omega arith,
      simp length-set v.1,
      simp length-set v.2,
      ap (λ (s : List ℕ). set s l.i (get_or a.h.items l.i none).id) v.3
          ∙ write-next id_of a.h.items a.found.now l.i none 0 (omega (arith, p.0, p.1)) (omega (arith, p.2)),
      ap (λ (s : List Float). set s l.i (get_or a.h.items l.i none).distance) v.4
          ∙ write-next distance_of a.h.items a.distances.now l.i none nan (omega (arith, p.0, p.1)) (omega (arith, p.3)),
    )

pub returns : goal.returns
returns c =
    let l = c.loop-i in
    let a = c.args in
    let e : l.i ≡ a.h.count = omega arith in (
      l.invariant.3 ∙ ap (λ (k : ℕ). map id_of (take k a.h.items) ++ drop k a.found.now) e,
      l.invariant.4 ∙ ap (λ (k : ℕ). map distance_of (take k a.h.items) ++ drop k a.distances.now) e,
    )
