use native.Mathlib.Omega.{arith}
use mathlib.Core.Path.{◌≡◌, refl, sym, ◌∙◌}
use lib.ListN.{take}
use Rattle.node_header.proofs.Grow.{free_on, free_stop, free-end}
use Rattle.image_header.specs.Image.{node_at}
use Rattle.image_header_begin.proofs.places.free_slot.Goals as goal

pub loop-slot-init : goal.loop-slot-init
loop-slot-init c = (omega arith, refl)

pub slot_after-requires : goal.slot_after-requires
slot_after-requires c = (c.requires, omega arith)

pub returns-then-not-slot_after : goal.returns-then-not-slot_after
returns-then-not-slot_after c =
    let a = c.args in free_stop (take a.count (node_at a.s.now).held) c.loop-slot.slot c.loop-slot.invariant.1 c.loop-slot-test.true (sym c.slot_after.ensures ∙ c.if-not-slot_after.true)

pub loop-slot-preserved : goal.loop-slot-preserved
loop-slot-preserved c =
    let a = c.args in let lt = c.loop-slot-test.true in (omega arith, free_on (take a.count (node_at a.s.now).held) c.loop-slot.slot c.loop-slot.invariant.1 lt (sym c.slot_after.ensures ∙ c.if-not-slot_after.false))

pub returns : goal.returns
returns c =
    let a = c.args in let e : 8 ≡ c.loop-slot.slot = omega arith in e ∙ free-end (take a.count (node_at a.s.now).held) c.loop-slot.slot c.loop-slot.invariant.1 c.loop-slot-test.false
