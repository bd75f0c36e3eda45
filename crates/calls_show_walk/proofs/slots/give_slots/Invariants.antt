use Rattle.calls_show_walk.proofs.SlotLaws.{SlotGiving}
use Rattle.calls_show_walk.proofs.slots.give_slots.Given as goal

abbrev pub invariant-loop-i : goal.invariant-loop-i
invariant-loop-i l =
    SlotGiving l.initial.out l.out l.count l.i
