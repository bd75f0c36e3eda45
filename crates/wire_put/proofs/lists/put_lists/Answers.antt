use native.Mathlib.Omega.{arith}
use mathlib.Core.Path.{refl, ◌∙◌}
use Prim.Native.Nat.{◌+◌, ◌*◌, ◌≤◌, ◌<◌}
use Rattle.wire_put.proofs.Placed.{size_step, list_count, lists_later, part_length, lists_next}
use lib.ListN.{length, get_or}
use Rattle.wire_put.proofs.lists.put_lists.Goals as goal

pub slice_bounds-put_list-end : goal.slice_bounds-put_list-end
slice_bounds-put_list-end c =
    let l = c.loop-i in
    let a = c.args in
    let h : l.i < a.n = omega arith in
    let k = list_count a.counts.now a.n l.i h l.invariant.2 in
    let g = c.requires.2 in
    let b : 8 * l.i + get_or a.counts.now l.i 0 ≤ length a.nodes.now = omega arith in
    omega arith

pub put_list-requires : goal.put_list-requires
put_list-requires c =
    let l = c.loop-i in
    let a = c.args in
    let h : l.i < a.n = omega arith in
    let k = list_count a.counts.now a.n l.i h l.invariant.2 in
    let g = c.requires.2 in
    let b : 8 * l.i + get_or a.counts.now l.i 0 ≤ length a.nodes.now = omega arith in
    let w = part_length a.counts.now a.nodes.now l.i b in
    (omega (arith, size_step a.counts.now a.n l.i h), omega arith)

pub loop-i-preserved : goal.loop-i-preserved
loop-i-preserved c =
    let l = c.loop-i in
    let a = c.args in
    let h : l.i < a.n = omega arith in
    let k = list_count a.counts.now a.n l.i h l.invariant.2 in
    let g = c.requires.2 in
    let b : 8 * l.i + get_or a.counts.now l.i 0 ≤ length a.nodes.now = omega arith in (
      omega arith,
      c.put_list.auto.out ∙ l.invariant.1,
      lists_later a.counts.now a.n l.i h l.invariant.2,
      omega (arith, size_step a.counts.now a.n l.i h),
      (rw c.put_list.ensures (lists_next a.counts.now a.nodes.now l.out l.p _ a.n l.i h b refl)) ∙ l.invariant.4,
    )
