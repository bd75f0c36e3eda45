use borrow.Author.Rules.{rules}
use native.Mathlib.Omega.{arith}
use mathlib.Core.Path.{◌≡◌, refl, ◌∙◌}
use Prim.Native.Nat.{◌+◌, ◌*◌, ◌<◌}
use lib.ListN.{length}
use native.Mathlib.Nat.{add-zero}
use Rattle.map_tables.proofs.Tables.{of_field}
use Rattle.image_parts.specs.Shape.{encode}
use Rattle.image_parts.specs.Parts.{replica_f, replica_value, replica_bytes, replicas_bytes, no_replica}
use Rattle.image_parts.proofs.Images.{put_step, put-end, stored-all}
use Rattle.image_parts.proofs.replicas.put_replicas.Goals as goal

pub loop-i-init : goal.loop-i-init
loop-i-init c = (omega arith, refl, rw add-zero)

pub loop-i-preserved : goal.loop-i-preserved
loop-i-preserved c =
    let l = c.loop-i in
    let a = c.args in
    let n : length a.rs ≡ 8 = search (rules, of_field) in
    let h : l.i < length a.rs = omega arith in
    let q : a.at + 16 * (l.i + 1) ≡ a.at + 16 * l.i + 16 = omega arith in
    (omega arith, c.put_replica.auto.out ∙ l.invariant.1, put_step replica_bytes 16 a.rs no_replica l.out _ l.i (a.at + 16 * l.i) (a.at + 16 * (l.i + 1)) h q c.put_replica.ensures ∙ l.invariant.2)

pub shape_of-out : goal.shape_of-out
shape_of-out c = c.loop-i.invariant.1

pub returns : goal.returns
unfolding replicas_bytes replica_bytes
returns c =
    let l = c.loop-i in
    let a = c.args in
    let n : length a.rs ≡ 8 = search (rules, of_field) in
    let z : l.i ≡ length a.rs = omega arith in
    stored-all (encode replica_f) replica_value 16 8 a.rs (λ x. refl) n (put-end replica_bytes a.rs a.out.now l.out (a.at + 16 * l.i) l.i a.at z l.invariant.2)
