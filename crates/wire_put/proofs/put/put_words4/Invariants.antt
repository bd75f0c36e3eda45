use Rattle.wire_put.proofs.Writes.{WordsTo}
use Rattle.wire_put.proofs.put.put_words4.Given as goal

abbrev pub invariant-loop-i : goal.invariant-loop-i
invariant-loop-i l =
    WordsTo 4 l.initial.out l.at l.v l.out l.i
