-- Where the operands of a command stand in a message, what stands there, and that it is within the limits of paper 01, 'The shard map'.
-- Definitions only.
use Rattle.std.specs.Prelude.{ℕ, ◌+◌, ◌*◌, ◌≤◌, ◌≡◌, Bool, true, List, length, take, leb}
use Rattle.spec.specs.Lists.{every}
use Rattle.spec.specs.Limits.{max_name, max_address, max_lists, max_listed}
use Rattle.spec.specs.Layout.Format.{Format, many, fits, fits_n, next, value, value_n}
use Rattle.spec.specs.Layout.Parts.{u64}
use Rattle.spec.specs.declared.Epoch.{Epoch}
use Rattle.wire_read.specs.declared.Part.{Part}
use Rattle.wire_read.specs.declared.KeyPart.{KeyPart}
use Rattle.wire_read.specs.declared.CreatePart.{CreatePart}
use Rattle.wire_read.specs.declared.RegisterPart.{RegisterPart}
use Rattle.wire_read.specs.declared.CommandPart.{CommandPart}
use Rattle.wire_read.specs.declared.CommandPart.TheVariants as part
use Rattle.map_tables.specs.declared.Command.{Command}
use Rattle.map_tables.specs.declared.Command.TheVariants.{Create, Drop, Register, MarkNodeDead, OfShard, Bench}
use Rattle.map_tables.specs.declared.Change.{Change}
use Rattle.map_tables.specs.declared.Change.TheVariants.{Add, Remove, Promote, Shrink, Expand}
use Rattle.map_tables.specs.declared.Placement.{Placement}
use Rattle.map_names.specs.Texts.{Text}
use Rattle.map_request.specs.declared.Operands.{Operands}

-- ---- where the operands stand

abbrev pub nowhere : Part
nowhere = record { at = 0; len = 0 }

abbrev pub created_of : CreatePart → Operands
created_of c = record {
  command = Create (record { dimension = c.dimension; metric = c.metric; shards = c.shards; replication = c.replication });
  name = c.name;
  shard = 0;
  address = nowhere;
  placement = c.placement;
}

abbrev pub registered_of : RegisterPart → Operands
registered_of c =
    record { command = Register c.node c.incarnation; name = nowhere; shard = 0; address = c.address; placement = nowhere }

-- a command with a name or a key, or with neither
abbrev pub named_of : Command → Part → (shard : ℕ) → Operands
named_of c name shard = record { command = c; name = name; shard = shard; address = nowhere; placement = nowhere }

abbrev pub plain_of : Command → Operands
plain_of c = named_of c nowhere 0

abbrev pub shard_operands : Change → Epoch → KeyPart → Operands
shard_operands c e k = named_of (OfShard c e) k.name k.shard

abbrev pub operands_of : CommandPart → Operands
operands_of (part.Create c) = created_of c
operands_of (part.Drop p) = named_of Drop p 0
operands_of (part.Register c) = registered_of c
operands_of (part.MarkNodeDead c) = plain_of (MarkNodeDead c.node c.incarnation)
operands_of (part.AddReplica c) = shard_operands (Add c.node c.incarnation) c.epoch c.key
operands_of (part.Remove c) = shard_operands (Remove c.node) c.epoch c.key
operands_of (part.Promote c) = shard_operands (Promote c.node) c.epoch c.key
operands_of (part.Shrink c) = shard_operands (Shrink c.node) c.epoch c.key
operands_of (part.Expand c) = shard_operands (Expand c.node) c.epoch c.key
operands_of (part.Bench p) = plain_of Bench

-- ---- what stands there

-- a list of a placement
abbrev pub list_f : Format
list_f = many 1 0 max_listed u64

-- the nodes of a list
abbrev pub nodes_at : List ℕ → Part → List ℕ
nodes_at s p = value_n (value u64 s) (next u64 s) p.len p.at

-- the lists of a placement
abbrev pub lists_at : List ℕ → Part → List (List ℕ)
lists_at s p = value_n (value list_f s) (next list_f s) p.len p.at

-- ---- that it stands there, within its limits

pub record Nodes (s : List ℕ) (p : Part) : Type 0 where
  pub few : p.len ≤ max_listed
  pub inside : p.at + p.len * 8 ≤ length s

pub record Lists (s : List ℕ) (p : Part) : Type 0 where
  pub few : p.len ≤ max_lists
  pub row : fits_n (fits list_f s) (next list_f s) p.len p.at ≡ true

pub record Held (s : List ℕ) (o : Operands) : Type 0 where
  pub name : Text max_name s o.name
  pub address : Text max_address s o.address
  pub placement : Lists s o.placement

-- each list of a placement in use is within its array
abbrev pub listed_rows : Placement → Bool
listed_rows p = every (λ l. leb l.count max_listed) (take p.count p.lists)
