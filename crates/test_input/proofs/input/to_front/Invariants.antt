use mathlib.Core.Path.{◌≡◌}
use Prim.Native.Nat.{◌+◌, ◌-◌, ◌≤◌}
use lib.ListN.{length, take, drop}
use Rattle.test_input.proofs.input.to_front.Given as goal

abbrev pub invariant-loop-i : goal.invariant-loop-i
invariant-loop-i l =
    (l.i ≤ l.rest) × (l.at + l.rest ≤ length l.initial.buf) × (length l.buf ≡ length l.initial.buf) × (take l.i l.buf ≡ take l.i (drop l.at l.initial.buf)) × (drop (l.at + l.i) l.buf ≡ drop (l.at + l.i) l.initial.buf)
