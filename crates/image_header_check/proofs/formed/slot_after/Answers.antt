use borrow.Author.Rules.{rules}
use native.Mathlib.Omega.{arith}
use mathlib.Core.Path.{refl, sym, ◌∙◌, ap}
use Prim.Native.Nat.{◌+◌, ◌*◌}
use Rattle.node_header.specs.View.{no_held_row}
use Rattle.node_header.specs.Formed.{on_slot}
use Rattle.node_header.proofs.Lists.{some_on, some_stop, some_end}
use Rattle.image_header.specs.Image.{node_at}
use Rattle.image_header_check.proofs.Rows.{held_long, row_at, slot-on, slot_off}
use Rattle.image_header_check.proofs.formed.slot_after.Goals as goal

pub loop-i-init : goal.loop-i-init
loop-i-init c = (c.requires.1, refl)

pub returns-then-get8-slot : goal.returns-then-get8-slot
returns-then-get8-slot c =
    let a = c.args in
    let the-pre = c.requires in
    let l = c.loop-i in
    let s = a.s.now in
    let i = l.i in
    let n = a.count in
    let k = the-pre.0.1 in
    let g = held_long s in
    let lt = c.loop-i-test.true in
    some_stop (on_slot a.slot) (node_at s).held n i (omega arith) _ l.invariant.1 no_held_row lt (ap (on_slot a.slot) (row_at s n the-pre.0 i no_held_row lt) ∙ slot-on s (48 + 1280 * i) a.slot (sym c.get8.ensures ∙ c.if-get8-slot.true))

pub loop-i-preserved : goal.loop-i-preserved
loop-i-preserved c =
    let a = c.args in
    let the-pre = c.requires in
    let l = c.loop-i in
    let s = a.s.now in
    let i = l.i in
    let n = a.count in
    let k = the-pre.0.1 in
    let g = held_long s in
    let lt = c.loop-i-test.true in
    (omega arith, some_on (on_slot a.slot) (node_at s).held n i (omega arith) _ l.invariant.1 no_held_row lt (ap (on_slot a.slot) (row_at s n the-pre.0 i no_held_row lt) ∙ slot_off s (48 + 1280 * i) a.slot (λ q. c.if-get8-slot.false (c.get8.ensures ∙ q))))

pub returns : goal.returns
returns c =
    let a = c.args in
    let s = a.s.now in
    let k = c.requires.0.1 in
    let g = held_long s in
    some_end (on_slot a.slot) (node_at s).held a.count c.loop-i.i (omega arith) _ c.loop-i.invariant.1 (search rules)
