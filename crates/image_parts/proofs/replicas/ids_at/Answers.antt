use native.Mathlib.Omega.{arith}
use mathlib.Core.Path.{◌≡◌, refl, sym, ◌∙◌, ap}
use Prim.Native.Nat.{ℕ, ◌<◌}
use lib.ListN.{length-set}
use Rattle.spec.specs.Layout.Format.{number_at}
use Rattle.image_parts.specs.Codes.{id_of}
use Rattle.image_parts.specs.Parts.{ids_at}
use Rattle.image_parts.proofs.Images.{rows_start, rows_step, rows-full, map-items}
use Rattle.image_parts.proofs.replicas.ids_at.Goals as goal

pub loop-i-init : goal.loop-i-init
loop-i-init c =
    (omega arith, refl, rows_start 8 (λ (p : ℕ). id_of (number_at 8 c.args.s.now p)) (id_of 0) 8 c.args.at)

pub loop-i-preserved : goal.loop-i-preserved
loop-i-preserved c =
    let l = c.loop-i in
    let a = c.args in
    let h : l.i < 8 = omega arith in
    (omega arith, simp length-set l.invariant.1, rows_step (λ (p : ℕ). id_of (number_at 8 a.s.now p)) (id_of 0) 8 8 l.i a.at l.out (id_of c.get8.result) h l.invariant.2 (ap id_of c.get8.ensures))

pub returns : goal.returns
unfolding ids_at
returns c =
    let l = c.loop-i in
    let a = c.args in
    let z : l.i ≡ 8 = omega arith in
    l.invariant.2 ∙ rows-full (λ (p : ℕ). id_of (number_at 8 a.s.now p)) (id_of 0) 8 8 l.i a.at z ∙ sym (map-items id_of 8 (number_at 8 a.s.now) 8 a.at)
