-- Every definition of this crate, and of the specification below it, opened at once: what a test that the checker computes says `unfolding` of. Assumes nothing.
use Prim.Native.Nat.{ℕ}
use Rattle.spec.proofs.Opened as model
use Rattle.spec_callers.specs.Editions as editions
use Rattle.spec_callers.specs.Counts as counts
use Rattle.spec_callers.specs.Calls as calls

unfoldable pub all : ℕ
unfolding model.opened editions.encode_called_write editions.decode_called_write editions.encode_called_search editions.decode_called_search editions.is_second editions.caller_in editions.plain counts.well_formed_counts counts.count_of counts.room_for counts.set_count counts.placed counts.moved_for counts.effect_of counts.after counts.after_malformed counts.counts_after calls.write_by calls.search_by
all = 0
