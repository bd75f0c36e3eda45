use borrow.Author.Rules.{rules}
use native.Mathlib.Omega.{arith}
use native.Mathlib.Nat.{add-zero}
use mathlib.Core.Path.{◌≡◌, refl, ◌∙◌}
use Prim.Native.Nat.{◌+◌, ◌*◌, ◌<◌}
use lib.ListN.{length, get_or, take}
use Rattle.spec.specs.Layout.Format.{bytes_of}
use Rattle.map_tables.proofs.Tables.{of_field}
use Rattle.image_parts.specs.Shape.{in_use}
use Rattle.image_parts.specs.Codes.{id_of}
use Rattle.image_parts.specs.Parts.{id_value, id_bytes}
use Rattle.image_parts.proofs.Images.{table_step, length-used, put-end, stored-word, stored-all}
use Rattle.calls_map.proofs.ListLaws.{list_long}
use Rattle.calls_map.proofs.lists.put_list.Goals as goal

pub loop-i-init : goal.loop-i-init
loop-i-init c = (omega arith, c.in_use-n.ensures.1, refl, rw add-zero)

pub put8-requires : goal.put8-requires
put8-requires c =
    let a = c.args in
    let k : length a.l.nodes ≡ 8 = search (rules, of_field) in
    let m = list_long a.l k in
    omega arith

pub loop-i-preserved : goal.loop-i-preserved
loop-i-preserved c =
    let l = c.loop-i in
    let a = c.args in
    let k : length a.l.nodes ≡ 8 = search (rules, of_field) in
    let m = length-used 8 a.l.count a.l.nodes k in
    let h : l.i < a.l.count = omega arith in
    let g : l.i < length (take a.l.count a.l.nodes) = omega arith in
    let q : a.at + 8 * (l.i + 1) ≡ a.at + 8 * l.i + 8 = omega arith in (
      omega arith,
      l.invariant.1,
      c.put8.auto.out ∙ l.invariant.2,
      table_step id_bytes 8 a.l.nodes a.l.count (id_of 0) l.out _ l.i (a.at + 8 * l.i) (a.at + 8 * (l.i + 1)) h g q (stored-word 8 (get_or a.l.nodes l.i (id_of 0)).0 c.put8.ensures)
          ∙ l.invariant.3,
    )

pub shape_of-out : goal.shape_of-out
shape_of-out c = c.loop-i.invariant.2

pub returns : goal.returns
returns c =
    let l = c.loop-i in
    let a = c.args in
    let k : length a.l.nodes ≡ 8 = search (rules, of_field) in
    let xs = take a.l.count a.l.nodes in
    let m = length-used 8 a.l.count a.l.nodes k in
    let z : l.i ≡ length xs = omega arith in
    (stored-all (bytes_of 8) id_value 8 (in_use 8 a.l.count) xs (λ x. refl) m (put-end id_bytes xs a.out.now l.out (a.at + 8 * l.i) l.i a.at z l.invariant.3)).image
