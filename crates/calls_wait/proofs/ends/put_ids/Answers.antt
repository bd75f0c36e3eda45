use borrow.Author.Rules.{rules}
use native.Mathlib.Omega.{arith}
use mathlib.Core.Path.{◌≡◌, refl, ◌∙◌}
use Prim.Native.Nat.{◌+◌, ◌*◌, ◌<◌}
use lib.ListN.{length, take}
use Rattle.map_tables.proofs.Tables.{of_field}
use Rattle.image_parts.specs.Codes.{id_of}
use Rattle.image_parts.proofs.Images.{stored-word, table_step, length-used, put-end}
use Rattle.calls_header.specs.Waits.{id_bytes}
use Rattle.calls_wait.proofs.ends.put_ids.Goals as goal

pub loop-i-init : goal.loop-i-init
loop-i-init c =
    let p = c.requires in
    let e = c.in_use-n.ensures.0 in (omega arith, c.in_use-n.ensures.1, omega arith, refl, refl)

pub loop-i-preserved : goal.loop-i-preserved
loop-i-preserved c =
    let l = c.loop-i in
    let a = c.args in
    let k : length a.ids ≡ 32 = search (rules, of_field) in
    let m = length-used 32 a.count a.ids k in
    let u = c.in_use-n.ensures in
    let h : l.i < a.count = omega arith in
    let g : l.i < length (take a.count a.ids) = omega arith in
    let q : 8 * (l.i + 1) ≡ 8 * l.i + 8 = omega arith in
    (omega arith, l.invariant.1, l.invariant.2, c.put8.auto.out ∙ l.invariant.3, table_step id_bytes 8 a.ids a.count (id_of 0) l.out _ l.i (8 * l.i) (8 * (l.i + 1)) h g q (stored-word 8 _ c.put8.ensures) ∙ l.invariant.4)

pub shape_of-out : goal.shape_of-out
shape_of-out c = c.loop-i.invariant.3

pub returns : goal.returns
returns c =
    let l = c.loop-i in
    let a = c.args in
    let k : length a.ids ≡ 32 = search (rules, of_field) in
    let m = length-used 32 a.count a.ids k in
    let u = c.in_use-n.ensures in
    let z : l.i ≡ length (take a.count a.ids) = omega arith in
    put-end id_bytes (take a.count a.ids) a.out.now l.out (8 * l.i) l.i 0 z l.invariant.4
