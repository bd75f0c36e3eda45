-- A request on a map's image, in place. Definitions only: the map after is what bytes are read as, and no function makes it.
use Rattle.std.specs.Prelude.{ℕ, ◌≤◌, ◌≡◌, Bool, true, false, List, length}
use Rattle.spec.specs.Lists.{every, put}
use Rattle.spec.specs.Layout.Format.{Bytes}
use Rattle.spec.specs.Map.Apply.{session_below, commit, decide}
use Rattle.spec.specs.Map.Calls.{reason_number}
use Rattle.spec.specs.Map.Change.{accepts}
use Rattle.spec.specs.Map.Tables as tables
use Rattle.map_tables.specs.Counted.{row_counted}
use Rattle.map_tables.specs.View.{answer_of, view_command, view_map}
use Rattle.map_tables.specs.declared.Request.{Request}
use Rattle.map_tables.specs.declared.Verdict.{Verdict}
use Rattle.map_apply.specs.Applied.{SettledAs}
use Rattle.map_apply.specs.declared.Settled.{Settled}
use Rattle.image_map.specs.Image.{map_at, MapWrites}
use Rattle.calls_map.specs.Calls.{noted}
use Rattle.image_map_put.specs.Few.{Few}
use Rattle.image_map_put.specs.Rows.{shard_rows, read_as}
use Rattle.image_map_edit.specs.Edits.{Edits}
use Rattle.image_map_edit.specs.Other.{with_sessions, with_version}
use Rattle.calls_decide.specs.Decides.{Ready, Keeps}

-- ---- what is written

-- the command takes effect
abbrev pub Accepted : List ℕ → Request → Type 0
Accepted s q = (padding : List ℕ) → decide (view_map (map_at s)) (view_command q padding) ≡ accepts

-- what an accepted command makes of the bytes, before its outcome is remembered: they are read as the map after
pub record Taken (s t : List ℕ) (q : Request) : Type 0 where
  pub map : tables.Map
  pub edits : Edits s t map
  pub is : (padding : List ℕ) → map ≡ commit (read_as s) (view_command q padding)

-- a map of `spec` is written over an image: bytes are read as it, its shards within their arrays where they were, and these are written back
pub record Writes (s t : List ℕ) (x : tables.Map) : Type 0 where
  pub edited : List ℕ
  pub bytes : Bytes edited
  pub few : Few edited
  pub view : read_as edited ≡ x
  pub counted : every row_counted (shard_rows s) ≡ true → every row_counted (shard_rows edited) ≡ true
  pub written : MapWrites s t (map_at edited)

module _ (s : List ℕ) (client seq : ℕ) where
  -- the sessions with an outcome remembered
  abbrev pub noting : tables.Outcome → List tables.Session
  noting o = put session_below (record { client = client; seq = seq; outcome = o }) (read_as s).sessions

  -- there is a place for what is remembered
  abbrev pub Room : tables.Answer → Type 0
  Room (tables.outcome o) = length (noting o) ≤ 64
  Room (tables.refused why) = 0 ≤ 64

  -- an outcome is remembered, and the map written back with a version; a refusal changes no byte
  abbrev pub Noted : (t : List ℕ) → tables.Answer → (version : ℕ) → Type 0
  Noted t (tables.outcome o) version = Writes s t (with_version (with_sessions (read_as s) (noting o)) version)
  Noted t (tables.refused why) version = t ≡ s

-- ---- what it comes to

-- an answer and a map after that the definition has; where the map remembers the answer its image is written, and otherwise no byte changes
pub record Settles (s t : List ℕ) (q : Request) (r : ℕ) : Type 0 where
  pub after : Settled
  pub settles : SettledAs (map_at s) q after
  pub answer : r ≡ reason_number (answer_of after.verdict)
  pub written : noted r ≡ true → MapWrites s t after.map
  pub kept : noted r ≡ false → t ≡ s

-- the answers that take effect
abbrev pub takes_effect : tables.Answer → Bool
takes_effect (tables.outcome tables.applied) = true
takes_effect (tables.outcome (tables.rejected why)) = false
takes_effect (tables.refused why) = false

-- an answer that left the map as it was, told again
abbrev pub Repeats : List ℕ → List ℕ → Verdict → (r : ℕ) → Type 0
Repeats s t v r = (q : Request) → Ready s q → Keeps s q (answer_of v) → Settles s t q r
