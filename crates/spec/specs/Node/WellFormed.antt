-- Paper 01, 'Who is turned down', 24: what a malformed lent state is, of a node: each clause of the paper and nothing else. What concerns
-- the lent arrays (codes, the floats' length and their used part) is said where the arrays are. Definitions only.
use Rattle.std.specs.Prelude.{ℕ, zero, suc, ◌+◌, Bool, true, false, List, [], ◌∷◌, eqb, leb, length, ℤ, pos, negsuc, Float}
use Rattle.std.specs.Bool.{beq}
use Rattle.std.proofs.Math.Option.{Option, none, some}
use Rattle.std.specs.Float.{nan, inf, fin, binary32}
use Rattle.std.specs.Float.Ieee.{fits}
use Rattle.spec.specs.Lists.{◌and◌, every, rising}
use Rattle.spec.specs.Limits.{max_components, max_entries, max_held, max_replicas, max_workers, max_time}
use Rattle.spec.specs.Keys.{Key}
use Rattle.spec.specs.Nearest.Order.{in_domain}
use Rattle.spec.specs.Nearest.Search.{Vector}
use Rattle.spec.specs.Log.{Op, upsert, delete, Entry, Log, Vectors, ShardReplica, vector_below, last_offset, play}
use Rattle.spec.specs.Map.WellFormed.{name_fits}
use Rattle.spec.specs.Node.Held.{Held, Node}
use Rattle.spec.specs.Node.Shards.{held_below, row_below, held_shard}
use Rattle.spec.specs.declared.Peer.{Peer}

-- ---- the header: what every call is lent

-- 'an acked offset above 2^62'
abbrev pub ack_fits : Peer → Bool
ack_fits p = leb p.acked.0 max_time

-- 'a count over its limit, sorted keys that do not rise', of one held shard
unfoldable pub well_formed_held : Held → Bool
well_formed_held h =
    name_fits h.key.collection
    and leb (length h.holders) max_replicas
    and leb (last_offset h.replica) max_entries
    and leb (length h.peers) max_workers
    and rising row_below h.peers
    and every ack_fits h.peers

-- 'a count over its limit, sorted keys that do not rise', of the held shards
unfoldable pub well_formed_header : Node → Bool
well_formed_header n =
    leb (length n.held) max_held and rising held_below n.held and every well_formed_held n.held

-- ---- the store of one shard

-- 'log offsets other than 1, 2, 3 and so on'
unfoldable pub numbered_from : ℕ → Log → Bool
numbered_from o [] = true
numbered_from o (e ∷ es) = eqb e.offset o and numbered_from (o + 1) es

-- 'Nearest objects': a component is an f32 in the domain
abbrev pub component : Float → Bool
component x = fits binary32 x and in_domain x

-- 'Nearest objects': 1 to 32 floats
unfoldable pub well_formed_vector : List Float → Bool
well_formed_vector xs = leb 1 (length xs) and leb (length xs) max_components and every component xs

-- 'a stored vector outside the domain'
abbrev pub well_formed_op : Op → Bool
well_formed_op (upsert id xs) = well_formed_vector xs
well_formed_op (delete id) = true

-- the same of an entry
abbrev pub well_formed_entry : Entry → Bool
well_formed_entry e = well_formed_op e.op

-- the same whole number; the same float, bit for bit
abbrev pub same_int : ℤ → ℤ → Bool
same_int (pos a) (pos b) = eqb a b
same_int (pos a) (negsuc b) = false
same_int (negsuc a) (pos b) = false
same_int (negsuc a) (negsuc b) = eqb a b

-- the same float, part by part
abbrev pub same_float : Float → Float → Bool
same_float nan nan = true
same_float nan (inf t) = false
same_float nan (fin t n f) = false
same_float (inf s) nan = false
same_float (inf s) (inf t) = beq s t
same_float (inf s) (fin t n f) = false
same_float (fin s m e) nan = false
same_float (fin s m e) (inf t) = false
same_float (fin s m e) (fin t n f) = beq s t and eqb m n and same_int e f

-- the same components
unfoldable pub same_floats : List Float → List Float → Bool
same_floats [] [] = true
same_floats [] (y ∷ ys) = false
same_floats (x ∷ xs) [] = false
same_floats (x ∷ xs) (y ∷ ys) = same_float x y and same_floats xs ys

-- 'a vector table that differs': the same ids with the same components
unfoldable pub same_vectors : Vectors → Vectors → Bool
same_vectors [] [] = true
same_vectors [] (w ∷ ws) = false
same_vectors (v ∷ vs) [] = false
same_vectors (v ∷ vs) (w ∷ ws) = eqb v.id w.id and same_floats v.components w.components and same_vectors vs ws

-- the clauses that speak of a log and its vectors; 'a vector table that differs from the log played'
unfoldable pub well_formed_log : ShardReplica → Bool
well_formed_log r =
    numbered_from 1 r.log
    and every well_formed_entry r.log
    and rising vector_below r.vectors
    and same_vectors r.vectors (play r.log)

-- ---- the lent state of a call

-- a shard that is not held lends no log
abbrev pub log_if_held : Option Held → Bool
log_if_held none = true
log_if_held (some h) = well_formed_log h.replica

-- a call that touches a log is lent the header and the store of the shard that it names
unfoldable pub well_formed_lent : Node → Key → Bool
well_formed_lent n k = well_formed_header n and log_if_held (held_shard n k)

-- the log of one held shard
abbrev pub log_of : Held → Bool
log_of h = well_formed_log h.replica

-- the whole node, with all its logs
unfoldable pub well_formed_node : Node → Bool
well_formed_node n = well_formed_header n and every log_of n.held
