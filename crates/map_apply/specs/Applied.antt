-- What applying a request asks for and comes to. Definitions only.
use Rattle.std.specs.Prelude.{ℕ, ◌≤◌, ◌≡◌, true, List, []}
use Rattle.std.proofs.Math.Option.{some}
use Rattle.spec.specs.Map.Tables.{Session}
use Rattle.spec.specs.Map.Apply.{apply, settle, decide, session_at}
use Rattle.spec.specs.Map.WellFormed.{well_formed_map, command_fits}
use Rattle.map_tables.specs.Counted.{TablesCounted}
use Rattle.map_tables.specs.View.{answer_of, view_map, view_command, view_request}
use Rattle.map_tables.specs.declared.Request.{Request}
use Rattle.map_tables.specs.declared.ShardMap.{ShardMap}
use Rattle.map_apply.specs.declared.Settled.{Settled}

-- a map that passed the 24 test, and a request within its limits
pub record Settleable (m : ShardMap) (r : Request) : Type 0 where
  pub counted : TablesCounted m
  pub formed : well_formed_map (view_map m) ≡ true
  pub lists : r.placement.count ≤ 16
  pub within : command_fits (view_command r []) ≡ true

-- neither older, nor a repetition, nor of a 65th client
abbrev pub DecidedNow : ShardMap → Request → Type 0
DecidedNow m r =
    (padding : List ℕ)
    → apply (view_map m) (view_request r padding) ≡ settle (view_map m) (view_request r padding) (decide (view_map m) (view_command r padding))

-- not the request that is remembered of its client
abbrev pub Unseen : ShardMap → Request → Type 0
Unseen m r = (x : Session) → session_at (view_map m).sessions r.client ≡ some x → r.seq ≡ x.seq → ⊥

-- the answer and the map are those of the definition, whatever the bytes of a Bench; where the definition leaves the map as it was, every place
-- of it is as it was, the free ones too; and the map passes the 24 test again
pub record SettledAs (m : ShardMap) (r : Request) (s : Settled) : Type 0 where
  pub answer : (padding : List ℕ) → answer_of s.verdict ≡ (apply (view_map m) (view_request r padding)).answer
  pub map : (padding : List ℕ) → view_map s.map ≡ (apply (view_map m) (view_request r padding)).map
  pub kept : (padding : List ℕ) → (apply (view_map m) (view_request r padding)).map ≡ view_map m → s.map ≡ m
  pub counted : TablesCounted s.map
  pub formed : well_formed_map (view_map s.map) ≡ true
