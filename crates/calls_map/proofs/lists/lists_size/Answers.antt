use borrow.Author.Rules.{rules}
use native.Mathlib.Omega.{arith}
use native.Mathlib.Nat.{zero-add}
use mathlib.Core.Path.{◌≡◌, sym, ap, ◌∙◌}
use Prim.Native.Nat.{◌+◌}
use lib.ListN.{length, drop}
use Rattle.spec.specs.Layout.Format.{concat_map}
use Rattle.map_tables.proofs.Tables.{of_field}
use Rattle.image_parts.proofs.Images.{length-used}
use Rattle.calls_map.proofs.ListLaws.{row_bytes, rows_of, rows-bytes, size-end}
use Rattle.calls_map.proofs.lists.lists_size.Goals as goal

pub loop-i-init : goal.loop-i-init
loop-i-init c = (omega arith, c.in_use-n.ensures.1, zero-add _, omega arith)

pub returns : goal.returns
returns c =
    let l = c.loop-i in
    let a = c.args in
    let k : length a.p.lists ≡ 16 = search (rules, of_field) in
    let m = length-used 16 a.p.count a.p.lists k in
    let z : l.i ≡ length (rows_of a.p) = omega arith in
    let y = size-end (rows_of a.p) l.i z in
    let u : l.size + length (concat_map row_bytes (drop l.i (rows_of a.p))) ≡ length (concat_map row_bytes (rows_of a.p)) = l.invariant.2 in
    let v : l.size ≡ length (concat_map row_bytes (rows_of a.p)) = omega arith in
    (v ∙ sym (ap length (rows-bytes (rows_of a.p))), omega (arith, l.invariant.0, l.invariant.1, l.invariant.3))
