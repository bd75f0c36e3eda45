use borrow.Author.Rules.{rules}
use native.Mathlib.Omega.{arith}
use mathlib.Core.Path.{◌≡◌, refl, ◌∙◌}
use Prim.Native.Nat.{◌+◌, ◌*◌, ◌<◌}
use lib.ListN.{length, get_or}
use native.Mathlib.Nat.{add-zero}
use Rattle.spec.specs.Layout.Format.{bytes_of}
use Rattle.map_tables.proofs.Tables.{of_field}
use Rattle.image_parts.specs.Codes.{id_of}
use Rattle.image_parts.specs.Parts.{id_value, id_bytes, ids_bytes, replica_bytes}
use Rattle.image_parts.proofs.Images.{put_step, put-end, stored-word, stored-all}
use Rattle.image_parts.proofs.replicas.put_ids.Goals as goal

pub loop-i-init : goal.loop-i-init
loop-i-init c = (omega arith, refl, rw add-zero)

pub loop-i-preserved : goal.loop-i-preserved
loop-i-preserved c =
    let l = c.loop-i in
    let a = c.args in
    let n : length a.ids ≡ 8 = search (rules, of_field) in
    let h : l.i < length a.ids = omega arith in
    let q : a.at + 8 * (l.i + 1) ≡ a.at + 8 * l.i + 8 = omega arith in
    (omega arith, c.put8.auto.out ∙ l.invariant.1, put_step id_bytes 8 a.ids (id_of 0) l.out _ l.i (a.at + 8 * l.i) (a.at + 8 * (l.i + 1)) h q (stored-word 8 (get_or a.ids l.i (id_of 0)).0 c.put8.ensures) ∙ l.invariant.2)

pub shape_of-out : goal.shape_of-out
shape_of-out c = c.loop-i.invariant.1

pub returns : goal.returns
unfolding ids_bytes replica_bytes
returns c =
    let l = c.loop-i in
    let a = c.args in
    let n : length a.ids ≡ 8 = search (rules, of_field) in
    let z : l.i ≡ length a.ids = omega arith in
    stored-all (bytes_of 8) id_value 8 8 a.ids (λ x. refl) n (put-end id_bytes a.ids a.out.now l.out (a.at + 8 * l.i) l.i a.at z l.invariant.2)
