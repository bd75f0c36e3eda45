-- What deciding a request comes to. Definitions only.
use Rattle.std.specs.Prelude.{ℕ, ◌≡◌, List}
use Rattle.spec.specs.Map.Apply.{decide}
use Rattle.map_tables.specs.View.{answer_of, view_command, view_map}
use Rattle.map_tables.specs.declared.Request.{Request}
use Rattle.map_tables.specs.declared.ShardMap.{ShardMap}
use Rattle.map_tables.specs.declared.Verdict.{Verdict}

-- the answer is that of the definition, whatever the bytes of a Bench
pub record Decided (m : ShardMap) (r : Request) (v : Verdict) : Type 0 where
  pub answer : (padding : List ℕ) → answer_of v ≡ decide (view_map m) (view_command r padding)
