-- Paper 01, 'Program applymap': the example computed from the definitions, on requests and on the bytes that they are written as.
use mathlib.Core.Path.{◌≡◌, refl}
use mathlib.Core.Bool.{cond}
use mathlib.Core.List.{List, [], ◌∷◌, ◌++◌}
use Prim.Native.Nat.{ℕ}
use Rattle.spec.specs.Lists.{find, put, ◌and◌, rising, every}
use Rattle.spec.specs.Map.Tables.{empty_map}
use Rattle.spec.specs.Map.Create.{node_at}
use Rattle.spec.specs.Map.Apply.{apply, apply_to, settle, decide, commit, remembered, session_at, register_answer, dead_answer, update}
use Rattle.spec.specs.Map.WellFormed.{well_formed_map, table_fits}
use Rattle.spec.specs.Map.Calls.{Line, Word, was_applied, was_rejected, lines_for, apply_call}
use Rattle.spec.specs.Layout.Request.{Request, Command, register, mark_dead}

abbrev pub request : ℕ → ℕ → Command → Request
request index seq c = record { index = index; client = 1; seq = seq; command = c }

abbrev pub line : ℕ → Word → ℕ → ℕ → Line
line index w reason version = record { index = index; word = w; reason = reason; version = version }

-- 'Register node 1 at incarnation 4, the same again, MarkNodeDead 1 at 4, with indexes 5, 6, 7 and one client's seq 1, 2, 3'
abbrev pub asked : List Request
asked = request 5 1 (register 1 [] 4) ∷ request 6 2 (register 1 [] 4) ∷ request 7 3 (mark_dead 1 4) ∷ []

abbrev pub answered : List Line
answered = line 5 was_applied 0 5 ∷ line 6 was_rejected 7 5 ∷ line 7 was_applied 0 7 ∷ []

pub example : lines_for empty_map asked ≡ answered
unfolding lines_for apply_call apply apply_to settle decide commit remembered session_at register_answer dead_answer node_at update find put well_formed_map table_fits ◌and◌ rising every
example = refl
