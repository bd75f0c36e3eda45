-- Paper 02, 2.10, of the entry points for C (include/catalogue.h): two editors at one node, whose host owns byte images. Each
-- `catalogue_write` is lent what the call before it left, and only its contract is known. Definitions only.
use Rattle.std.specs.Prelude.{ℕ, ◌≤◌, ◌≡◌, List, length}
use Rattle.std.proofs.Math.Option.{Option, some}
use Rattle.spec.specs.Keys.{Key}
use Rattle.spec.specs.Log.{Log, Vectors}
use Rattle.spec.specs.Layout.Format.{Bytes}
use Rattle.spec.specs.Node.Held.{Node}
use Rattle.spec.specs.Node.Shards.{held_shard}
use Rattle.image_node.specs.State.{state_at}
use Rattle.calls_client.specs.Written.{buffers, WritesImages}
use Rattle.calls_client.specs.Searched.{SearchesImages}
use Rattle.thm_order_writes.specs.Editors.{vectors_in, log_in, Moment}

-- ---- a node

-- what its host owns: the two images, and the bytes of the count of refused calls. Memory holds bytes, numbers below 256
pub record Images : Type 0 where
  pub header : List ℕ
  pub stores : List ℕ
  pub refused : List ℕ
  pub memory : Bytes stores

-- what the images are read as
abbrev pub node_in : Images → Node
node_in u = state_at u.header u.stores

-- the vectors and the log of the shard of a key, if it is held
abbrev pub vectors_at : Images → Key → Option Vectors
vectors_at u k = vectors_in (held_shard (node_in u) k)

abbrev pub log_at : Images → Key → Option Log
log_at u k = log_in (held_shard (node_in u) k)

-- space for two more entries
abbrev pub SpaceForTwo : Images → Key → Type 0
SpaceForTwo u k = (l : Log) → log_at u k ≡ some l → length l ≤ 1022

-- ---- Writes

-- `catalogue_write` of the message m at some moment, with room for its answer, left v and answered the number r
pub record Writes (u : Images) (c : Moment) (m : List ℕ) (v : Images) (r : ℕ) : Type 0 where
  pub answer : List ℕ
  pub told : List ℕ
  pub room : 8 ≤ length answer
  pub bytes : Bytes m
  pub call : WritesImages (buffers u.header u.stores answer) (buffers v.header v.stores told) u.refused v.refused c.clock c.least m r

-- the node accepts the message at that moment: called on these images it answers 0
pub record Accepts (u : Images) (c : Moment) (m : List ℕ) : Type 0 where
  pub left : Images
  pub writes : Writes u c m left 0

-- two calls, one after the other, with what each answered
pub record InTurn (u : Images) (c d : Moment) (x y : List ℕ) (v : Images) (first second : ℕ) : Type 0 where
  pub between : Images
  pub called : Writes u c x between first
  pub followed : Writes between d y v second

-- ---- Searches

-- one `catalogue_search` at each of two nodes with the same operands, over outputs and a count that were the same: the numbers are the same, and
-- every byte of the hits, of the answer and of the count
abbrev pub SearchedAlike : Images → Images → Type 0
SearchedAlike u v =
    (clock : ℕ) (m hits answer count c₁ hits₁ answer₁ c₂ hits₂ answer₂ : List ℕ) (r₁ r₂ : ℕ)
    → SearchesImages u.header u.stores count clock m hits answer c₁ hits₁ answer₁ r₁
    → SearchesImages v.header v.stores count clock m hits answer c₂ hits₂ answer₂ r₂
    → (r₁ ≡ r₂) × (hits₁ ≡ hits₂) × (answer₁ ≡ answer₂) × (c₁ ≡ c₂)
