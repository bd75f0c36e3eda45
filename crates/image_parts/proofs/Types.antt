-- What the code's types say of a value that a function is handed: its numbers fit, and its arrays are as long as they are declared
-- (`Good` of specs/Shape.antt). A proof has it of a parameter as `c.good`. Assumes nothing.
use Prim.Native.Nat.{ℕ}
use mathlib.Core.Path.{sym, subst, ◌∙◌}
use mathlib.Core.List.{List, [], ◌∷◌, map, map-id}
use lib.ListN.{length-map}
use mir.Val.{Val}
use base.Fml.{Fml}
use denote.Shadow.{shadow}
use denote.Laws.{Is}
use denote.Array.{each, in_array}
use denote.Struct.Declared.{row}
use denote.Plain.{UInt}
use mir.Syntax.{w8}
use Rattle.spec.specs.Layout.Format.{All}
use Rattle.spec.specs.declared.DataNodeId.{DataNodeId}
use Rattle.spec.specs.declared.Replica.{Replica}
use Rattle.spec.specs.contracts.DataNodeId as ofId
use Rattle.spec.specs.contracts.Replica as ofReplica
use Rattle.map_tables.specs.declared.Name.{Name}
use Rattle.map_tables.specs.declared.Address.{Address}
use Rattle.map_tables.specs.declared.ShardKey.{ShardKey}
use Rattle.map_tables.specs.contracts.Name as ofName
use Rattle.map_tables.specs.contracts.Address as ofAddress
use Rattle.map_tables.specs.contracts.ShardKey as of_key
use Rattle.image_parts.specs.Shape.{Shape, Value, Good, byte, rep, u64}
use Rattle.image_parts.specs.Parts.{name_f, name_value, address_f, address_value, key_f, key_value, replica_f, replica_value, id_value}

-- ---- an array, of which each element fits by its type

module _ {B d : Type 0} (own : d → List Val → Fml) (into : B → d) (f : Shape) (val : B → Value f)
    (law : (x : B) (vs : List Val) → shadow (own (into x) vs) → Good f (val x)) where
  each_good : (xs : List B) (us : List Val) → shadow (each d own (map into xs) us) → All (Good f) (map val xs)
  each_good [] us p = tt
  each_good (x ∷ xs) [] p = absurd p
  each_good (x ∷ xs) (u ∷ us) p = (law x (u ∷ []) p.0, each_good xs us p.1)

  pub array_good : (n : ℕ) (xs : List B) (vs : List Val) → shadow (in_array d own n (map into xs) vs) → Good (rep n f) (map val xs)
  array_good n xs vs p = (length-map xs val ∙ sym (length-map xs into) ∙ p.1.0.1, each_good xs p.0 p.1.1)

-- an array of a type that the code copies: its elements stand in it as they are
pub rows_good : {B : Type 0} (own : B → List Val → Fml) (f : Shape) (val : B → Value f) → ((x : B) (vs : List Val) → shadow (own x vs) → Good f (val x)) →
    (n : ℕ) (xs : List B) (vs : List Val) → shadow (in_array B own n xs vs) → Good (rep n f) (map val xs)
rows_good {B} own f val law n xs vs p =
    array_good own (λ (x : B). x) f val law n xs vs (subst (λ (l : List B). shadow (in_array B own n l vs)) (sym (map-id xs)) p)

-- ---- bytes, names, addresses, keys, copies of a shard, ids

bytes_good : (n : ℕ) (bs : List ℕ) (vs : List Val) → shadow (in_array ℕ (UInt w8).own_val n bs vs) → Good (rep n byte) bs
bytes_good n bs vs p = subst (λ (l : List ℕ). Good (rep n byte) l) (map-id bs) (rows_good (UInt w8).own_val byte (λ (v : ℕ). v) (λ x us q. q.1) n bs vs p)

pub name_good : (n : Name) (vs : List Val) → Is (row ofName.the_type) n vs → Good name_f (name_value n)
name_good n vs p = (p.1.1.1.0.1, bytes_good 32 n.bytes _ p.1.1.0)

pub address_good : (a : Address) (vs : List Val) → Is (row ofAddress.the_type) a vs → Good address_f (address_value a)
address_good a vs p = (p.1.1.1.0.1, bytes_good 64 a.bytes _ p.1.1.0)

pub key_good : (k : ShardKey) (vs : List Val) → Is (row of_key.the_type) k vs → Good key_f (key_value k)
key_good k vs p = (name_good k.collection _ p.1.1.0, p.1.1.1.0.1)

pub replica_good : (r : Replica) (vs : List Val) → Is (row ofReplica.the_type) r vs → Good replica_f (replica_value r)
replica_good r vs p = (p.1.1.0.1.1.0.1, p.1.1.1.0.1)

pub replicas_good : (rs : List Replica) (vs : List Val) → shadow (in_array Replica (ofReplica.the_row).own_val 8 rs vs) → Good (rep 8 replica_f) (map replica_value rs)
replicas_good rs vs p = rows_good (ofReplica.the_row).own_val replica_f replica_value replica_good 8 rs vs p

pub id_good : (n : DataNodeId) (vs : List Val) → Is (row ofId.the_type) n vs → Good u64 (id_value n)
id_good n vs p = p.1.1.0.1

pub ids_good : (ns : List DataNodeId) (vs : List Val) → shadow (in_array DataNodeId (ofId.the_row).own_val 8 ns vs) → Good (rep 8 u64) (map id_value ns)
ids_good ns vs p = rows_good (ofId.the_row).own_val u64 id_value id_good 8 ns vs p
