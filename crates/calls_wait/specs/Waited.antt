-- A header after a wait that changed the peers of one shard. Definitions only.
use Rattle.std.specs.Prelude.{ℕ, ◌+◌, ◌*◌, true, false, ◌≡◌, List, map, take, get_or}
use Rattle.spec.specs.Lists.{every, collect}
use Rattle.spec.specs.Layout.Format.{number_at}
use Rattle.spec.specs.Node.Shards.{leads_at}
use Rattle.spec.specs.Node.Client.{wait_row, to_shrink, node_of, has_acked}
use Rattle.node_shard.specs.declared.Nodes.{Nodes}
use Rattle.node_shard.specs.declared.Held.{Held}
use Rattle.node_shard.specs.View.{with_rows}
use Rattle.node_header.specs.declared.HeldRow.{HeldRow}
use Rattle.node_header.specs.declared.Node.{Node}
use Rattle.node_header.specs.View.{no_held_row, kept_as, with_shard}
use Rattle.image_parts.specs.Canon.{padded}
use Rattle.image_header_row.specs.Rows.{no_peer, role_at, peers_at}
use Rattle.image_header.specs.Image.{node_at}
use Rattle.calls_parts.specs.Answer.{number_put}
use Rattle.calls_header.specs.Waits.{id_bytes, RowsPut}

-- a shard whose rows in use were waited for
abbrev pub waited_held : Held → (clock timeout : ℕ) → Held
waited_held h clock timeout = with_rows h (padded 32 no_peer (map (wait_row h.last clock timeout) (take h.count h.peers)))

unfoldable pub waited_held_row : HeldRow → (clock timeout : ℕ) → HeldRow
waited_held_row x clock timeout = kept_as x (waited_held x.held clock timeout)

abbrev pub waited_node : Node → (at clock timeout : ℕ) → Node
waited_node n at clock timeout = with_shard n at (waited_held (get_or n.held at no_held_row).held clock timeout)

-- ---- the wait at a shard that is held

-- internal: the shard stands at place `at`; 18 with the own epoch, or whom to shrink, and what is left
pub record WaitsAt (s t p q a b : List ℕ) (at epoch offset clock timeout r : ℕ) : Type 0 where
  pub late : Nodes
  pub other : leads_at (role_at s (48 + 1280 * at + 108)) epoch ≡ false
      → (r ≡ 18) × (t ≡ s) × (q ≡ p) × (b ≡ number_put a (number_at 8 s (48 + 1280 * at + 64)))
  pub shrinks : leads_at (role_at s (48 + 1280 * at + 108)) epoch ≡ true
      → take late.count late.items
      ≡ collect (to_shrink (number_at 8 s (48 + 1280 * at + 72)) clock timeout) node_of (take (number_at 8 s (48 + 1280 * at + 88)) (peers_at s (48 + 1280 * at + 256)))
  pub over : leads_at (role_at s (48 + 1280 * at + 108)) epoch ≡ true
      → every (has_acked offset) (take (number_at 8 s (48 + 1280 * at + 88)) (peers_at s (48 + 1280 * at + 256))) ≡ true
      → RowsPut id_bytes 8 0 s t p q a b (take late.count late.items) (waited_node (node_at s) at clock timeout) r
  pub still : leads_at (role_at s (48 + 1280 * at + 108)) epoch ≡ true
      → every (has_acked offset) (take (number_at 8 s (48 + 1280 * at + 88)) (peers_at s (48 + 1280 * at + 256))) ≡ false
      → RowsPut id_bytes 8 1 s t p q a b (take late.count late.items) (waited_node (node_at s) at clock timeout) r
