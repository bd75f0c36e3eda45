use native.Mathlib.Omega.{arith}
use mathlib.Core.Path.{◌≡◌, refl, sym, ◌∙◌}
use Prim.Native.Nat.{◌<◌}
use lib.ListN.{length-set}
use Rattle.image_parts.specs.Shape.{value}
use Rattle.image_parts.specs.Parts.{replica_f, replica_read, replica_at, replicas_at, no_replica}
use Rattle.image_parts.proofs.Images.{rows_start, rows_step, rows-full, map-items}
use Rattle.image_parts.proofs.replicas.replicas_at.Goals as goal

pub loop-i-init : goal.loop-i-init
loop-i-init c = (omega arith, refl, rows_start 8 (replica_at c.args.s.now) no_replica 16 c.args.at)

pub loop-i-preserved : goal.loop-i-preserved
loop-i-preserved c =
    let l = c.loop-i in
    let a = c.args in
    let h : l.i < 8 = omega arith in
    (omega arith, simp length-set l.invariant.1, rows_step (replica_at a.s.now) no_replica 16 8 l.i a.at l.out c.replica_at.result h l.invariant.2 c.replica_at.ensures)

pub returns : goal.returns
unfolding replicas_at replica_at
returns c =
    let l = c.loop-i in
    let a = c.args in
    let z : l.i ≡ 8 = omega arith in
    l.invariant.2 ∙ rows-full (replica_at a.s.now) no_replica 16 8 l.i a.at z ∙ sym (map-items replica_read 8 (value replica_f a.s.now) 16 a.at)
