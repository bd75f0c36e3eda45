-- The nodes, shards and sessions of a map that the bytes are read as, by the places at which they were found. Assumes nothing.
use Prim.Native.Nat.{ℕ, ◌+◌, ◌*◌, ◌≤◌, ◌<◌}
use mathlib.Core.Path.{◌≡◌, refl, sym, ap, subst, ◌∙◌}
use mathlib.Core.List.{List}
use mathlib.Core.Option.{none, some}
use lib.ListN.{length, get_or}
use native.Mathlib.Omega.{arith}
use Rattle.spec.specs.Layout.Format.{number_at}
use Rattle.spec.specs.Map.Apply as model
use Rattle.spec.specs.Map.Apply.{is_client, is_shard}
use Rattle.spec.specs.Map.Create.{is_node, node_at}
use Rattle.map_tables.specs.Find.{first_at}
use Rattle.map_tables.specs.Names.{view_key}
use Rattle.map_tables.specs.Counted.{row_counted, Sized}
use Rattle.map_tables.specs.View.{view_node, view_nodes, view_session, view_sessions, view_shard, view_shards}
use Rattle.map_tables.specs.declared.NodeRow.{NodeRow}
use Rattle.map_tables.specs.declared.SessionRow.{SessionRow}
use Rattle.map_tables.specs.declared.ShardRow.{ShardRow}
use Rattle.map_tables.specs.declared.ShardKey.{ShardKey}
use Rattle.map_tables.proofs.Tables.{found, missed, every-at, used-size}
use Rattle.map_shard.proofs.Change.{sized}
use Rattle.image_map_row.specs.Rows as rows
use Rattle.image_map_row.specs.Rows.{shard_at, session_at}
use Rattle.image_map.specs.Image.{no_node, no_shard, no_session, nodes_at, shards_at, sessions_at}
use Rattle.image_map_check.proofs.RowLaws.{rows_long, rows_row}
use Rattle.calls_decide.specs.Decides.{NodeStands, Stands}

-- ---- the node of an id

module _ (s : List ℕ) (n hit node : ℕ) (z : NodeStands s n hit node) where
  nodes-room : number_at 8 s 8 ≤ length (nodes_at s).items
  nodes-room = let q = rows_long 32 96 40 (rows.node_at s) no_node (number_at 8 s 8) z.few.nodes in let f = z.few.nodes in omega arith

  pub nodes-count : length (view_nodes (nodes_at s)) ≡ n
  nodes-count = used-size view_node (nodes_at s).items (number_at 8 s 8) nodes-room ∙ sym z.count

  pub node-none : n ≤ hit → node_at (view_nodes (nodes_at s)) node ≡ none
  unfolding node_at
  node-none h = let q = z.count in missed view_node (nodes_at s).items (number_at 8 s 8) nodes-room (is_node node) hit z.found (omega arith)

  pub node_some : hit < n → node_at (view_nodes (nodes_at s)) node ≡ some (view_node (rows.node_at s (40 + 96 * hit)))
  unfolding node_at
  node_some h =
      let q = z.count in
      found view_node (nodes_at s).items (number_at 8 s 8) nodes-room (is_node node) hit z.found no_node (omega arith)
      ∙ ap (λ (r : NodeRow). some (view_node r)) (rows_row 32 96 40 (rows.node_at s) no_node (number_at 8 s 8) z.few.nodes hit no_node (omega arith))

pub incarnation_is : (s : List ℕ) (p : ℕ) → (view_node (rows.node_at s p)).incarnation ≡ number_at 8 s (p + 8)
unfolding rows.node_at
incarnation_is s p = refl

-- ---- the shard of a key

module _ (s : List ℕ) (n hit : ℕ) (key : ShardKey) (z : Stands s n hit key) where
  few : number_at 8 s 24 ≤ 64
  few = z.counted.count

  pub long : number_at 8 s 24 ≤ length (shards_at s).items
  long = let q = rows_long 64 272 4008 (shard_at s) no_shard (number_at 8 s 24) few in let f = few in omega arith

  pub row_is : hit < n → get_or (shards_at s).items hit no_shard ≡ shard_at s (4008 + 272 * hit)
  row_is h = let q = z.count in rows_row 64 272 4008 (shard_at s) no_shard (number_at 8 s 24) few hit no_shard (omega arith)

  pub shard-none : n ≤ hit → model.shard_at (view_shards (shards_at s)) (view_key key) ≡ none
  unfolding model.shard_at
  shard-none h = let q = z.count in missed view_shard (shards_at s).items (number_at 8 s 24) long (is_shard (view_key key)) hit z.found (omega arith)

  pub shard_some : hit < n → model.shard_at (view_shards (shards_at s)) (view_key key) ≡ some (view_shard (shard_at s (4008 + 272 * hit)))
  unfolding model.shard_at
  shard_some h =
      let q = z.count in
      found view_shard (shards_at s).items (number_at 8 s 24) long (is_shard (view_key key)) hit z.found no_shard (omega arith)
      ∙ ap (λ (r : ShardRow). some (view_shard r)) (row_is h)

  pub shard-sized : hit < n → Sized (shard_at s (4008 + 272 * hit))
  shard-sized h =
      let q = z.count in
      subst Sized (row_is h) (sized (get_or (shards_at s).items hit no_shard) (every-at row_counted (shards_at s).items (number_at 8 s 24) hit no_shard long z.counted.rows (omega arith)))

-- ---- the session of a client

module _ (s : List ℕ) (few : number_at 8 s 32 ≤ 64) (client place : ℕ) (is : place ≡ first_at (is_client client) (view_sessions (sessions_at s))) where
  sessions_long : number_at 8 s 32 ≤ length (sessions_at s).items
  sessions_long = let q = rows_long 64 80 21416 (session_at s) no_session (number_at 8 s 32) few in omega arith

  pub session_some : place < number_at 8 s 32 → model.session_at (view_sessions (sessions_at s)) client ≡ some (view_session (session_at s (21416 + 80 * place)))
  unfolding model.session_at
  session_some inside =
      found view_session (sessions_at s).items (number_at 8 s 32) sessions_long (is_client client) place is no_session inside
      ∙ ap (λ (r : SessionRow). some (view_session r)) (rows_row 64 80 21416 (session_at s) no_session (number_at 8 s 32) few place no_session inside)

  pub session-none : number_at 8 s 32 ≤ place → model.session_at (view_sessions (sessions_at s)) client ≡ none
  unfolding model.session_at
  session-none past = missed view_session (sessions_at s).items (number_at 8 s 32) sessions_long (is_client client) place is past
