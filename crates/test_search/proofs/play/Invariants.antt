use mathlib.Core.Path.{◌≡◌}
use lib.ListN.{length}
use Rattle.test_search.proofs.play.Given as goal

abbrev pub invariant-loop : goal.invariant-loop
invariant-loop l =
    (length l.message ≡ 184) × (length l.epochs ≡ length l.initial.epochs) × (length l.offsets ≡ length l.initial.offsets) × (length l.ids ≡ length l.initial.ids) × (length l.codes ≡ length l.initial.codes) × (length l.lengths ≡ length l.initial.lengths) × (length l.floats ≡ length l.initial.floats) × (length l.keys ≡ length l.initial.keys) × (length l.places ≡ length l.initial.places)
