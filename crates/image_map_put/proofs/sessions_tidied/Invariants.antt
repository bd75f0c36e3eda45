use Prim.Native.Nat.{◌-◌, ◌≤◌}
use lib.ListN.{length}
use Rattle.map_tables.specs.View.{view_session}
use Rattle.image_map_row.specs.Rows.{session_at, session_bytes}
use Rattle.image_map_form.specs.Canon.{image_session}
use Rattle.image_map.specs.Image.{no_session}
use Rattle.image_map_put.proofs.Tidy.{Done, Tidy}
use Rattle.image_map_put.proofs.sessions_tidied.Given as goal

abbrev pub invariant-loop-i : goal.invariant-loop-i
invariant-loop-i l =
    Done session_bytes 80 21416 no_session l.initial.out (Tidy image_session view_session l.count (session_at l.initial.out) 80 21416 no_session) l.out l.i × (l.i ≤ l.count) × (l.count ≤ 64) × (26536 ≤ length l.initial.out)
