use borrow.Author.Rules.{rules}
use native.Mathlib.Omega.{arith}
use mathlib.Core.Path.{◌≡◌, refl, ap, subst}
use mathlib.Core.Bool.{true}
use lib.Dec.{leb}
use borrow.Author.Tests.{le-leb}
use Prim.Native.Nat.{ℕ, ◌-◌, ◌<◌}
use lib.ListN.{length, take}
use Rattle.spec.specs.Lists.{every}
use Rattle.spec.specs.Layout.Format.{next, value, value_n}
use Rattle.map_tables.specs.declared.NodeList.{NodeList}
use Rattle.map_request.specs.Parts.{list_f}
use Rattle.map_request.proofs.Rows.{row_first, part_held, part-after, part-more, lists_end, every_more}
use Rattle.map_request.proofs.lists.load_placement.Goals as goal

pub loop-i-init : goal.loop-i-init
unfolding every
loop-i-init c =
    let a = c.args in
    let h = c.requires in
    let e : a.p.len - 0 ≡ a.p.len = omega arith in (
      omega arith,
      h.few,
      rw e h.row,
      refl,
      ap (λ (m : ℕ). value_n (value list_f a.s.now) (next list_f a.s.now) m a.p.at) e,
      refl,
    )

pub nodes_at-list-requires : goal.nodes_at-list-requires
nodes_at-list-requires c =
    let l = c.loop-i in
    let a = c.args in
    row_first a.s.now a.p.len l.i l.at (omega arith) l.invariant.2

pub load_list-requires : goal.load_list-requires
load_list-requires c =
    let l = c.loop-i in
    let a = c.args in
    part_held a.s.now a.p.len l.i l.at (omega arith) l.invariant.2 c.nodes_at-list.result c.nodes_at-list.ensures

pub overflow_mul-at : goal.overflow_mul-at
overflow_mul-at c =
    let l = c.loop-i in
    let a = c.args in
    let r = c.nodes_at-list in
    omega (arith, (part_held a.s.now a.p.len l.i l.at (omega arith) l.invariant.2 r.result r.ensures).inside)

pub overflow_add-at : goal.overflow_add-at
overflow_add-at c =
    let l = c.loop-i in
    let a = c.args in
    let r = c.nodes_at-list in
    omega (arith, (part_held a.s.now a.p.len l.i l.at (omega arith) l.invariant.2 r.result r.ensures).inside)

pub loop-i-preserved : goal.loop-i-preserved
loop-i-preserved c =
    let l = c.loop-i in
    let a = c.args in
    let r = c.nodes_at-list in
    let x = c.load_list in
    let n : l.i < a.p.len = omega arith in
    let room : l.i < length l.lists = omega arith in (
      omega arith,
      l.invariant.1,
      part-after a.s.now a.p.len l.i l.at n l.invariant.2 r.result r.ensures,
      search rules,
      part-more a.s.now a.p.len l.i l.at n l.invariant.2 r.result r.ensures l.lists x.result _ l.invariant.4 room x.ensures.0,
      every_more (λ (y : NodeList). leb y.count 8) l.lists l.i x.result room l.invariant.5 (le-leb x.result.count 8 x.ensures.1),
    )

pub returns : goal.returns
returns c =
    let l = c.loop-i in
    let a = c.args in
    let e : l.i ≡ a.p.len = omega arith in (
      lists_end a.s.now l.lists a.p.len l.i l.at _ e l.invariant.4,
      l.invariant.1,
      subst (λ (m : ℕ). every (λ (y : NodeList). leb y.count 8) (take m l.lists) ≡ true) e l.invariant.5,
    )
