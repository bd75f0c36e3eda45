use borrow.Author.Rules.{rules}
use native.Mathlib.Omega.{arith}
use mathlib.Core.Path.{◌≡◌, refl, sym, ◌∙◌, ap}
use Prim.Native.Nat.{ℕ, ◌+◌, ◌*◌}
use lib.ListN.{get_or, take, drop}
use lib.Dec.{ltb}
use borrow.Author.Tests.{lt-ltb, le-ltb}
use Rattle.spec.specs.Lists.{any}
use Rattle.node_header.specs.declared.HeldRow.{HeldRow}
use Rattle.node_header.specs.View.{no_held_row}
use Rattle.node_header.specs.Formed.{on_slot}
use Rattle.node_header.proofs.Formed.{slots-on, slots_over, slots_twice, slots_end}
use Rattle.image_header.specs.Image.{node_at}
use Rattle.image_header_check.proofs.Rows.{held_long, row_at, slot_is}
use Rattle.image_header_check.proofs.formed.slots_fit.Goals as goal

pub loop-i-init : goal.loop-i-init
loop-i-init c = (omega arith, refl)

pub returns-then-slot-ge8 : goal.returns-then-slot-ge8
returns-then-slot-ge8 c =
    let a = c.args in
    let the-pre = c.requires in
    let l = c.loop-i in
    let s = a.s.now in
    let i = l.i in
    let n = a.count in
    let k = the-pre.1 in
    let g = held_long s in
    let lt = c.loop-i-test.true in
    let e : (get_or (node_at s).held i no_held_row).slot ≡ c.get8-slot.result = ap (λ (x : HeldRow). x.slot) (row_at s n (the-pre) i no_held_row lt) ∙ slot_is s (48 + 1280 * i) ∙ sym c.get8-slot.ensures in
    slots_over (node_at s).held n i (omega arith) l.invariant.1 no_held_row lt (ap (λ (j : ℕ). ltb j 8) e ∙ le-ltb _ _ c.if-slot-ge8.true)

pub returns-then-slot_after : goal.returns-then-slot_after
returns-then-slot_after c =
    let a = c.args in
    let the-pre = c.requires in
    let l = c.loop-i in
    let the-get8 = c.get8-slot in
    let s = a.s.now in
    let i = l.i in
    let n = a.count in
    let k = the-pre.1 in
    let g = held_long s in
    let lt = c.loop-i-test.true in
    let e : (get_or (node_at s).held i no_held_row).slot ≡ the-get8.result = ap (λ (x : HeldRow). x.slot) (row_at s n (the-pre) i no_held_row lt) ∙ slot_is s (48 + 1280 * i) ∙ sym the-get8.ensures in
    slots_twice (node_at s).held n i (omega arith) l.invariant.1 no_held_row lt (ap (λ (j : ℕ). ltb j 8) e ∙ lt-ltb _ _ c.if-slot-ge8.false) (ap (λ (j : ℕ). any (on_slot j) (drop (i + 1) (take n (node_at s).held))) e ∙ sym c.slot_after.ensures ∙ c.if-slot_after.true)

pub loop-i-preserved : goal.loop-i-preserved
loop-i-preserved c =
    let a = c.args in
    let the-pre = c.requires in
    let l = c.loop-i in
    let the-get8 = c.get8-slot in
    let s = a.s.now in
    let i = l.i in
    let n = a.count in
    let k = the-pre.1 in
    let g = held_long s in
    let lt = c.loop-i-test.true in
    let e : (get_or (node_at s).held i no_held_row).slot ≡ the-get8.result = ap (λ (x : HeldRow). x.slot) (row_at s n (the-pre) i no_held_row lt) ∙ slot_is s (48 + 1280 * i) ∙ sym the-get8.ensures in
    (omega arith, slots-on (node_at s).held n i (omega arith) l.invariant.1 no_held_row lt (ap (λ (j : ℕ). ltb j 8) e ∙ lt-ltb _ _ c.if-slot-ge8.false) (ap (λ (j : ℕ). any (on_slot j) (drop (i + 1) (take n (node_at s).held))) e ∙ sym c.slot_after.ensures ∙ c.if-slot_after.false))

pub returns : goal.returns
returns c =
    let a = c.args in
    let s = a.s.now in
    let k = c.requires.1 in
    let g = held_long s in
    slots_end (node_at s).held a.count c.loop-i.i (omega arith) c.loop-i.invariant.1 (search rules)
