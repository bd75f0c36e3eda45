-- What a request is answered, from the bytes of a map that passed its test. Definitions only.
use Rattle.std.specs.Prelude.{ℕ, ◌<◌, ◌≡◌, true, false, List}
use Rattle.spec.specs.Layout.Format.{number_at}
use Rattle.spec.specs.Map.Apply.{is_client, is_shard, apply}
use Rattle.spec.specs.Map.Create.{is_node}
use Rattle.spec.specs.Map.Tables as tables
use Rattle.map_tables.specs.Names.{view_key}
use Rattle.map_tables.specs.Find.{first_at}
use Rattle.map_tables.specs.Counted.{ShardsCounted}
use Rattle.map_tables.specs.View.{answer_of, view_map, view_nodes, view_request, view_sessions, view_shards}
use Rattle.map_tables.specs.declared.Request.{Request}
use Rattle.map_tables.specs.declared.ShardKey.{ShardKey}
use Rattle.map_tables.specs.declared.Verdict.{Verdict}
use Rattle.map_apply.specs.Applied.{Settleable, DecidedNow, Unseen}
use Rattle.image_map.specs.Image.{map_at, nodes_at, shards_at, sessions_at}
use Rattle.image_map_put.specs.Few.{Few}
use Rattle.calls_decide.specs.declared.Decision.{Decision}

-- ---- what is asked for

-- a map that passed the test (24), and a request within its limits
pub record Ready (s : List ℕ) (q : Request) : Type 0 where
  pub few : Few s
  pub settleable : Settleable (map_at s) q

-- neither older, nor a repetition, nor of a 65th client
pub record Fresh (s : List ℕ) (q : Request) : Type 0 where
  pub ready : Ready s q
  pub decided : DecidedNow (map_at s) q
  pub unseen : Unseen (map_at s) q

-- of a client that the map knows, and where its session stands
pub record Known (s : List ℕ) (q : Request) (place : ℕ) : Type 0 where
  pub ready : Ready s q
  pub found : place ≡ first_at (is_client q.client) (view_sessions (sessions_at s))
  pub inside : place < number_at 8 s 32

-- where the key's shard stands, in a table of which each row is within its arrays
pub record Stands (s : List ℕ) (n hit : ℕ) (key : ShardKey) : Type 0 where
  pub few : Few s
  pub counted : ShardsCounted (shards_at s)
  pub count : n ≡ number_at 8 s 24
  pub found : hit ≡ first_at (is_shard (view_key key)) (view_shards (shards_at s))

-- where the node's row stands
pub record NodeStands (s : List ℕ) (n hit node : ℕ) : Type 0 where
  pub few : Few s
  pub count : n ≡ number_at 8 s 8
  pub found : hit ≡ first_at (is_node node) (view_nodes (nodes_at s))

-- ---- what is decided

-- the verdict is the answer of the definition, whatever the bytes of a Bench
abbrev pub Answers : List ℕ → Request → Verdict → Type 0
Answers s q v = (padding : List ℕ) → answer_of v ≡ (apply (view_map (map_at s)) (view_request q padding)).answer

-- an answer that leaves the map as it was
abbrev pub Keeps : List ℕ → Request → tables.Answer → Type 0
Keeps s q a = (padding : List ℕ) → apply (view_map (map_at s)) (view_request q padding) ≡ record { answer = a; map = view_map (map_at s) }

pub record Decides (s : List ℕ) (q : Request) (d : Decision) : Type 0 where
  pub answer : Answers s q d.verdict
  pub fresh : d.fresh ≡ true → Fresh s q
  pub told : d.fresh ≡ false → Keeps s q (answer_of d.verdict)
