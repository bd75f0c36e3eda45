-- A header with a shard that begins, in its bytes. Definitions only.
use Rattle.std.specs.Prelude.{ℕ, ◌+◌, ◌*◌, ◌≤◌, ◌<◌, ◌≡◌, false, List, length, take, drop}
use Rattle.spec.specs.Layout.Format.{number_at}
use Rattle.spec.specs.declared.Metric.{Metric}
use Rattle.spec.specs.declared.Role.TheVariants.{Backup}
use Rattle.node_shard.specs.declared.Held.{Held}
use Rattle.node_admit.specs.Headers.{Begins, Realigns}
use Rattle.map_tables.specs.declared.ShardKey.{ShardKey}
use Rattle.node_header.specs.declared.HeldRow.{HeldRow}
use Rattle.node_header.specs.declared.Node.{Node}
use Rattle.node_header.specs.Grow.{Inserts}
use Rattle.image_header_row.specs.Rows.{held_row_at}
use Rattle.image_header.specs.Image.{node_at}
use Rattle.image_header.specs.Becomes.{HeaderWrites}

-- the row at a place
abbrev pub row_at : List ℕ → ℕ → HeldRow
row_at s j = held_row_at s (48 + 1280 * j)

-- of `count` rows those from place `at` on are read one place up, those below it are as they were, and the header counts one more: the row at
-- place `at` is free
pub record Opened (s t : List ℕ) (at count : ℕ) : Type 0 where
  pub long : length t ≡ length s
  pub id : number_at 8 t 0 ≡ number_at 8 s 0
  pub incarnation : number_at 8 t 8 ≡ number_at 8 s 8
  pub version : number_at 8 t 16 ≡ number_at 8 s 16
  pub shards : number_at 8 t 24 ≡ count + 1
  pub code : number_at 4 t 36 ≡ number_at 4 s 36
  pub end : number_at 8 t 40 ≡ number_at 8 s 40
  pub below : (j : ℕ) → j < at → row_at t j ≡ row_at s j
  pub above : (j : ℕ) → at ≤ j → j < count → row_at t (j + 1) ≡ row_at s j
  pub past : drop (48 + 1280 * (count + 1)) t ≡ drop (48 + 1280 * (count + 1)) s

-- a shard that begins under an epoch (serve, `begun` and `realigned`): no replica and no peer of the arrays is in use
abbrev pub begun_held : Held → (epoch : ℕ) → Metric → Held
begun_held h epoch metric = record {
  epoch = record { 0 = epoch };
  metric = metric;
  last = 0;
  role = Backup;
  own = false;
  replicas = h.replicas;
  holders = 0;
  peers = h.peers;
  count = 0;
}

abbrev pub begun_set : HeldRow → ShardKey → (slot epoch : ℕ) → Metric → HeldRow
begun_set x key slot epoch metric = record { key = key; slot = slot; stored = 0; held = begun_held x.held epoch metric }

-- the image s became t, in which the header stands with that shard put in
pub record Begun (s t : List ℕ) (key : ShardKey) (epoch : ℕ) (metric : Metric) : Type 0 where
  pub fresh : Held
  pub held : Held
  pub node : Node
  pub begins : Begins metric fresh
  pub realigns : Realigns fresh epoch 0 held
  pub inserts : Inserts (node_at s) key held node
  pub writes : HeaderWrites s t node
