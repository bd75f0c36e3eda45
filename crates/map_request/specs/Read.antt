-- What is loaded: the request that `spec` reads, as the struct of crate `map_tables`. Definitions only.
use Rattle.std.specs.Prelude.{ℕ, ◌+◌, ◌≤◌, ◌≡◌, true, false, List, [], length}
use Rattle.spec.specs.Limits.{max_name, max_address, max_lists}
use Rattle.spec.specs.Layout.Format.{word, next, value, value_n}
use Rattle.spec.specs.Layout.Parts.{whenever}
use Rattle.spec.specs.Layout.Request as request
use Rattle.spec.specs.Map.WellFormed.{command_fits}
use Rattle.wire_read.specs.declared.Part.{Part}
use Rattle.wire_read.specs.declared.CommandPart.{CommandPart}
use Rattle.wire_read.specs.declared.CommandPart.TheVariants as part
use Rattle.wire_read.specs.declared.RequestPart.{RequestPart}
use Rattle.map_tables.specs.View.{view_command, view_request}
use Rattle.map_tables.specs.declared.Request.{Request}
use Rattle.map_names.specs.Texts.{bytes_at, key_in}
use Rattle.map_request.specs.Parts.{lists_at, listed_rows}
use Rattle.map_request.specs.declared.Loaded.{Loaded}

-- ---- what wire_read's parts show, as data

-- the bytes of a Bench
abbrev pub padding_at : List ℕ → Part → List ℕ
padding_at s p = value_n (value (word 1) s) (next (word 1) s) p.len p.at

abbrev pub command_read : List ℕ → CommandPart → request.Command
command_read s (part.Create c) =
    request.create (bytes_at s c.name)
    (record { dimension = c.dimension; metric = c.metric; shards = c.shards; replication = c.replication }) (lists_at s c.placement)
command_read s (part.Drop p) = request.drop_collection (bytes_at s p)
command_read s (part.Register c) = request.register c.node.0 (bytes_at s c.address) c.incarnation
command_read s (part.MarkNodeDead c) = request.mark_dead c.node.0 c.incarnation
command_read s (part.AddReplica c) = request.add_replica (key_in s c.key) c.node.0 c.incarnation c.epoch.0
command_read s (part.Remove c) = request.remove_replica (key_in s c.key) c.node.0 c.epoch.0
command_read s (part.Promote c) = request.promote_primary (key_in s c.key) c.node.0 c.epoch.0
command_read s (part.Shrink c) = request.shrink_in_sync (key_in s c.key) c.node.0 c.epoch.0
command_read s (part.Expand c) = request.expand_in_sync (key_in s c.key) c.node.0 c.epoch.0
command_read s (part.Bench p) = request.bench (padding_at s p)

abbrev pub request_read : List ℕ → RequestPart → request.Request
request_read s p = record { index = p.index; client = p.client; seq = p.seq; command = command_read s p.command }

-- the bytes of a command that is a Bench: the struct does not keep them
abbrev pub padding_of : request.Command → List ℕ
padding_of (request.create n s p) = []
padding_of (request.drop_collection n) = []
padding_of (request.register n a i) = []
padding_of (request.mark_dead n i) = []
padding_of (request.add_replica k n i e) = []
padding_of (request.remove_replica k n e) = []
padding_of (request.promote_primary k n e) = []
padding_of (request.shrink_in_sync k n e) = []
padding_of (request.expand_in_sync k n e) = []
padding_of (request.bench bs) = bs

-- ---- the struct

-- 'The shard map': the lengths and counts of the struct are within their arrays
pub record Counted (r : Request) : Type 0 where
  pub name : r.key.collection.len ≤ max_name
  pub address : r.address.len ≤ max_address
  pub lists : r.placement.count ≤ max_lists
  pub listed : listed_rows r.placement ≡ true

-- what the parts show
pub record LoadedAs (s : List ℕ) (p : RequestPart) (r : Request) : Type 0 where
  pub view : view_request r (padding_of (command_read s p.command)) ≡ request_read s p
  pub counted : Counted r

-- within the limits of the map, whatever the bytes of a Bench
pub record Within (r : Request) : Type 0 where
  pub counted : Counted r
  pub fits : (bs : List ℕ) → command_fits (view_command r bs) ≡ true

-- ---- the answers

-- 'Program applymap': found exactly where `spec` reads a request, and then its request and the position after it. A request has 25
-- bytes at least: its numbers and code
pub record LoadedAt (s : List ℕ) (at : ℕ) (l : Loaded) : Type 0 where
  pub padding : List ℕ
  pub read : request.request_at s at ≡ whenever l.found (view_request l.request padding, l.next)
  pub stays : l.found ≡ false → l.next ≡ at
  pub passes : l.found ≡ true → at + 25 ≤ l.next
  pub inside : l.found ≡ true → l.next ≤ length s
  pub within : l.found ≡ true → Within l.request

-- 'Bytes on the wire': found exactly where all of the bytes are a request, and then that request
pub record LoadedAll (s : List ℕ) (l : Loaded) : Type 0 where
  pub padding : List ℕ
  pub read : request.decode_request s ≡ whenever l.found (view_request l.request padding)
  pub next : l.found ≡ true → l.next ≡ length s
  pub stays : l.found ≡ false → l.next ≡ 0
  pub within : l.found ≡ true → Within l.request
