use borrow.Author.Rules.{rules}
use native.Mathlib.Omega.{arith}
use mathlib.Core.Path.{◌≡◌, refl, sym, ◌∙◌, ap}
use mathlib.Core.List.{List}
use Prim.Native.Nat.{ℕ, ◌+◌, ◌<◌}
use lib.ListN.{length, get_or, drop}
use lib.Seq.{sets}
use Rattle.spec.specs.Layout.Format.{concat_map}
use Rattle.map_tables.specs.View.{view_placement}
use Rattle.map_tables.proofs.Tables.{of_field}
use Rattle.image_parts.proofs.Images.{table_step, length-used, put-end}
use Rattle.calls_map.specs.Places.{lists_bytes}
use Rattle.calls_map.proofs.ListLaws.{past_list, row_bytes, rows_of, rows-bytes, size_step}
use Rattle.calls_map.proofs.lists.put_lists.Goals as goal

pub loop-i-init : goal.loop-i-init
loop-i-init c = (omega arith, c.in_use-n.ensures.1, refl, refl, refl)

pub put_list-requires : goal.put_list-requires
put_list-requires c =
    let l = c.loop-i in
    let a = c.args in
    let k : length a.p.lists ≡ 16 = search (rules, of_field) in
    let m = length-used 16 a.p.count a.p.lists k in
    let h : l.i < a.p.count = omega arith in
    let g : l.i < length (rows_of a.p) = omega arith in
    let q = size_step a.p.lists a.p.count l.i h g in
    let u : l.at + length (concat_map row_bytes (drop l.i (rows_of a.p))) ≡ a.from + length (concat_map row_bytes (rows_of a.p)) = l.invariant.3 in
    let v : length (lists_bytes (view_placement a.p)) ≡ length (concat_map row_bytes (rows_of a.p)) = ap length (rows-bytes (rows_of a.p)) in
    omega arith

pub overflow_add-at : goal.overflow_add-at
overflow_add-at c =
    let l = c.loop-i in
    let a = c.args in
    let k : length a.p.lists ≡ 16 = search (rules, of_field) in
    let m = length-used 16 a.p.count a.p.lists k in
    let h : l.i < a.p.count = omega arith in
    let g : l.i < length (rows_of a.p) = omega arith in
    let q = size_step a.p.lists a.p.count l.i h g in
    let e : c.list_size-at.result ≡ length (row_bytes (get_or a.p.lists l.i past_list)) = c.list_size-at.ensures.0 in
    let u : l.at + length (concat_map row_bytes (drop l.i (rows_of a.p))) ≡ a.from + length (concat_map row_bytes (rows_of a.p)) = l.invariant.3 in
    let v : length (lists_bytes (view_placement a.p)) ≡ length (concat_map row_bytes (rows_of a.p)) = ap length (rows-bytes (rows_of a.p)) in
    omega (arith, c.requires)

pub loop-i-preserved : goal.loop-i-preserved
loop-i-preserved c =
    let l = c.loop-i in
    let a = c.args in
    let k : length a.p.lists ≡ 16 = search (rules, of_field) in
    let m = length-used 16 a.p.count a.p.lists k in
    let h : l.i < a.p.count = omega arith in
    let g : l.i < length (rows_of a.p) = omega arith in
    let q = size_step a.p.lists a.p.count l.i h g in
    let w = length (row_bytes (get_or a.p.lists l.i past_list)) in
    let e : c.list_size-at.result ≡ length (row_bytes (get_or a.p.lists l.i past_list)) = c.list_size-at.ensures.0 in
    let d : l.at + c.list_size-at.result ≡ l.at + w = ap (λ (x : ℕ). l.at + x) e in
    let u : l.at + length (concat_map row_bytes (drop l.i (rows_of a.p))) ≡ a.from + length (concat_map row_bytes (rows_of a.p)) = l.invariant.3 in (
      omega arith,
      l.invariant.1,
      c.put_list.auto.out ∙ l.invariant.2,
      omega arith,
      table_step row_bytes w a.p.lists a.p.count past_list l.out _ l.i l.at (l.at + c.list_size-at.result) h g d (record { image = c.put_list.ensures; long = refl })
          ∙ l.invariant.4,
    )

pub shape_of-out : goal.shape_of-out
shape_of-out c = c.loop-i.invariant.2

pub returns : goal.returns
returns c =
    let l = c.loop-i in
    let a = c.args in
    let k : length a.p.lists ≡ 16 = search (rules, of_field) in
    let m = length-used 16 a.p.count a.p.lists k in
    let z : l.i ≡ length (rows_of a.p) = omega arith in
    put-end row_bytes (rows_of a.p) a.out.now l.out l.at l.i a.from z l.invariant.4
    ∙ sym (ap (λ (x : List ℕ). sets a.out.now a.from x) (rows-bytes (rows_of a.p)))
