use borrow.Author.Rules.{rules}
use native.Mathlib.Omega.{arith}
use Rattle.image_parts.proofs.Images.{stored-word}
use Rattle.calls_show_walk.proofs.SlotLaws.{give_slots_start, give_slots_on, give_slots_set, give_slots_end}
use Rattle.calls_show_walk.proofs.slots.give_slots.Goals as goal
use Rattle.calls_show_walk.proofs.slots.give_slots.Goals.{then-get8-ge8, else-get8-ge8}

pub loop-i-init : goal.loop-i-init
loop-i-init c = give_slots_start c.args.out.now c.args.count c.requires.0 c.requires.1

pub overflow_mul-i : goal.overflow_mul-i
overflow_mul-i c = let g = c.loop-i.invariant.counts.1 in let lt = c.loop-i-test.true in omega arith

pub overflow_add-i : goal.overflow_add-i
overflow_add-i c = let g = c.loop-i.invariant.counts.1 in let lt = c.loop-i-test.true in omega arith

pub get8-requires : goal.get8-requires
get8-requires c =
    let g = c.loop-i.invariant.counts.1 in let r = c.loop-i.invariant.counts.0 in let lt = c.loop-i-test.true in omega arith

pub free_slot-slot-requires : goal.free_slot-slot-requires
free_slot-slot-requires c = c.loop-i.invariant.counts

pub overflow_mul-i-then-get8-ge8 : goal.overflow_mul-i-then-get8-ge8
overflow_mul-i-then-get8-ge8 c = let g = c.loop-i.invariant.counts.1 in let lt = c.loop-i-test.true in omega arith

pub overflow_add-i-then-get8-ge8 : goal.overflow_add-i-then-get8-ge8
overflow_add-i-then-get8-ge8 c = let g = c.loop-i.invariant.counts.1 in let lt = c.loop-i-test.true in omega arith

pub put8-requires : goal.put8-requires
put8-requires c =
    let g = c.loop-i.invariant.counts.1 in let r = c.loop-i.invariant.counts.0 in let lt = c.loop-i-test.true in omega arith

pub loop-i-preserved : goal.loop-i-preserved
loop-i-preserved c =
    let lt = c.loop-i-test.true in let e = c.get8.ensures in
    elim c.if-get8-ge8.branch [
      | then-get8-ge8 w ↦
          let h = w.if-get8-ge8.true in rw w.out-is (give_slots_set c.args.out.now c.loop-i.out c.args.count c.loop-i.i c.loop-i.invariant lt (omega arith) w.free_slot-slot.result w.free_slot-slot.ensures (search rules) _ (stored-word 8 _ w.put8.ensures))
      | else-get8-ge8 w ↦
          let h = w.if-get8-ge8.false in rw w.out-is (give_slots_on c.args.out.now c.loop-i.out c.args.count c.loop-i.i c.loop-i.invariant lt (omega arith))
    ]

pub shape_of-out : goal.shape_of-out
shape_of-out c = c.loop-i.invariant.long

pub returns : goal.returns
returns c =
    give_slots_end c.args.out.now c.loop-i.out c.args.count c.loop-i.i c.loop-i.invariant c.loop-i-test.false c.loop-i.auto.i-end
