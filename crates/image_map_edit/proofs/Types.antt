-- What the code's types say of a row that a function is handed: it fits its shape, so where it was stored it is read again. Assumes nothing.
use Prim.Native.Nat.{ℕ, ◌+◌, ◌^◌, ◌≤◌, ◌<◌}
use mathlib.Core.Path.{◌≡◌, ap, ◌∙◌}
use mathlib.Core.List.{List, ◌++◌}
use lib.ListN.{length, drop}
use lib.Seq.{sets}
use native.Mathlib.Omega.{arith}
use mir.Val.{Val}
use denote.Laws.{Is}
use denote.Struct.Declared.{row}
use Rattle.spec_laws.proofs.Wire.Data.{metric_of_lem, metric_below}
use Rattle.map_tables.specs.declared.NodeRow.{NodeRow}
use Rattle.map_tables.specs.declared.CollectionRow.{CollectionRow}
use Rattle.spec.specs.declared.DataNodeId.{DataNodeId}
use Rattle.std.specs.Prelude.{Option}
use Rattle.std.specs.Prelude.{None, Some}
use Rattle.map_tables.specs.declared.ShardRow.{ShardRow}
use Rattle.map_tables.specs.declared.Rejection.{Rejection}
use Rattle.map_tables.specs.declared.Rejection.TheVariants.{
  Older,
  Exists,
  ZeroSpec,
  PlacementMismatch,
  NotAlive,
  NoCollection,
  KnownIncarnation,
  NotAtIncarnation,
  NoShard,
  OtherEpoch,
  AlreadyHeld,
  RemovesPrimary,
  NotHeld,
  NotInSync,
  ShrinksPrimary,
  AlreadyInSync,
}
use Rattle.map_tables.specs.declared.Outcome.{Outcome}
use Rattle.map_tables.specs.declared.Outcome.TheVariants.{Applied, Rejected}
use Rattle.map_tables.specs.declared.SessionRow.{SessionRow}
use Rattle.map_tables.specs.contracts.NodeRow as of_node
use Rattle.map_tables.specs.contracts.CollectionRow as ofCollection
use Rattle.std.specs.contracts.option.Option as of_option
use Rattle.spec.specs.contracts.DataNodeId as of_id
use Rattle.map_tables.specs.contracts.ShardRow as ofShard
use Rattle.map_tables.specs.contracts.Rejection as ofRejection
use Rattle.map_tables.specs.contracts.Outcome as ofOutcome
use Rattle.map_tables.specs.contracts.SessionRow as ofSession
use Rattle.image_parts.specs.declared.Coded.{Coded}
use Rattle.image_parts.specs.Shape.{Stored}
use Rattle.image_parts.specs.Codes.{primary_node, rejection_coded, outcome_coded}
use Rattle.image_parts.proofs.CodeLaws.{flag_back, flag_small, primary-back, primary_small, outcome-back, outcome_small, replicas-back, ids-back}
use Rattle.image_parts.proofs.Types.{name_good, address_good, key_good, replicas_good, ids_good}
use Rattle.image_parts.proofs.Back.{value-encode, drop-sets}
use Rattle.image_map_row.specs.Rows.{node_f, node_of, node_value, node_at, node_bytes, collection_f, collection_of, collection_value, collection_at, collection_bytes, shard_f, shard_row_of, shard_value, shard_at, shard_bytes, session_f, session_of, session_value, session_at, session_bytes}
use Rattle.image_map.proofs.Back.{NodeFits, CollectionFits, ShardFits, SessionFits}

-- what was stored stands there
there : {s t : List ℕ} {at : ℕ} {b : List ℕ} {n : ℕ} → Stored s t at b n → at + n ≤ length s → drop at t ≡ b ++ drop (at + length b) s
there {s} {t} {at} {b} {n} p h = let l = p.long in ap (drop at) p.image ∙ drop-sets s at b (omega arith)

-- ---- nodes

pub node_good : (r : NodeRow) (vs : List Val) → Is (row of_node.the_type) r vs → NodeFits r
node_good r vs p = (
  (((p.1.1.0.1.1.0.1, p.1.1.1.1.0.1), omega (arith, flag_small r.alive)), omega arith),
  address_good r.address _ p.1.1.1.0,
)

pub node-back : {s t : List ℕ} {at : ℕ} (r : NodeRow) → NodeFits r → Stored s t at (node_bytes r) 96 → at + 96 ≤ length s → node_at t at ≡ r
unfolding node_at node_bytes
node-back {s} {t} {at} r g p h = ap node_of (value-encode node_f (node_value r) t at _ g (there p h)) ∙ (rw (flag_back r.alive))

-- ---- collections

pub collection_good : (r : CollectionRow) (vs : List Val) → Is (row ofCollection.the_type) r vs → CollectionFits r
collection_good r vs p =
    let s = p.1.1.1.0 in (
      (((name_good r.name _ p.1.1.0, s.1.1.0.1), omega (arith, metric_below r.spec.metric)), s.1.1.1.1.0.1),
      s.1.1.1.1.1.0.1,
    )

pub collection-back : {s t : List ℕ} {at : ℕ} (r : CollectionRow) → CollectionFits r → Stored s t at (collection_bytes r) 56 → at + 56 ≤ length s → collection_at t at ≡ r
unfolding collection_at collection_bytes
collection-back {s} {t} {at} r g p h = ap collection_of (value-encode collection_f (collection_value r) t at _ g (there p h)) ∙ (rw (metric_of_lem r.spec.metric))

-- ---- shards

primary_good : (x : Option DataNodeId) (vs : List Val)
    → Is (of_option.the_field of_id.the_row).row ((of_option.the_field of_id.the_row).into x) vs → primary_node x < 256 ^ 8
primary_good None vs p = omega arith
primary_good (Some n) vs p = p.1.1.1.1.0.1.1.0.1

pub shard_good : (r : ShardRow) (vs : List Val) → Is (row ofShard.the_type) r vs → ShardFits r
shard_good r vs p =
    let h = p.1.1.1.0 in
    let s = p.1.1.1.1.1.0 in (
      (
        (
          (
            (
              ((key_good r.key _ p.1.1.0, omega (arith, primary_small r.primary)), primary_good r.primary _ p.1.1.1.1.0),
              p.1.1.1.1.1.1.0.1.1.0.1,
            ),
            h.1.1.1.0.1,
          ),
          s.1.1.1.0.1,
        ),
        replicas_good r.replicas.items _ h.1.1.0,
      ),
      ids_good r.insync.items _ s.1.1.0,
    )

pub shard-back : {s t : List ℕ} {at : ℕ} (r : ShardRow) → ShardFits r → Stored s t at (shard_bytes r) 272 → at + 272 ≤ length s → shard_at t at ≡ r
unfolding shard_at shard_bytes
shard-back {s} {t} {at} r g p h =
    ap shard_row_of (value-encode shard_f (shard_value r) t at _ g (there p h)) ∙ (rw (primary-back r.primary, replicas-back r.replicas.items, ids-back r.insync.items))

-- ---- sessions

-- the operands of an outcome
abbrev Small : Coded → Type 0
Small c = (c.first < 256 ^ 8) × (c.second < 256 ^ 8)

rejection_good : (x : Rejection) (vs : List Val) → Is (ofRejection.the_field).row ((ofRejection.the_field).into x) vs
    → Small (rejection_coded x)
rejection_good Older vs p = (omega arith, omega arith)
rejection_good Exists vs p = (omega arith, omega arith)
rejection_good ZeroSpec vs p = (omega arith, omega arith)
rejection_good PlacementMismatch vs p = (omega arith, omega arith)
rejection_good (NotAlive n) vs p = (p.1.1.1.1.0.1.1.0.1, omega arith)
rejection_good NoCollection vs p = (omega arith, omega arith)
rejection_good (KnownIncarnation n i) vs p = (p.1.1.1.1.0.1.1.0.1, p.1.1.1.1.1.0.1)
rejection_good (NotAtIncarnation n i) vs p = (p.1.1.1.1.0.1.1.0.1, p.1.1.1.1.1.0.1)
rejection_good NoShard vs p = (omega arith, omega arith)
rejection_good (OtherEpoch own given) vs p = (p.1.1.1.1.0.1.1.0.1, p.1.1.1.1.1.0.1.1.0.1)
rejection_good (AlreadyHeld n) vs p = (p.1.1.1.1.0.1.1.0.1, omega arith)
rejection_good RemovesPrimary vs p = (omega arith, omega arith)
rejection_good (NotHeld n) vs p = (p.1.1.1.1.0.1.1.0.1, omega arith)
rejection_good (NotInSync n) vs p = (p.1.1.1.1.0.1.1.0.1, omega arith)
rejection_good ShrinksPrimary vs p = (omega arith, omega arith)
rejection_good (AlreadyInSync n) vs p = (p.1.1.1.1.0.1.1.0.1, omega arith)

outcome_good : (x : Outcome) (vs : List Val) → Is (ofOutcome.the_field).row ((ofOutcome.the_field).into x) vs
    → Small (outcome_coded x)
outcome_good Applied vs p = (omega arith, omega arith)
outcome_good (Rejected r) vs p = rejection_good r _ p.1.1.1.1.0

pub session_good : (r : SessionRow) (vs : List Val) → Is (row ofSession.the_type) r vs → SessionFits r
session_good r vs p =
    let o = outcome_good r.outcome _ p.1.1.1.1.0 in (
      ((((p.1.1.0.1, p.1.1.1.0.1), key_good r.key _ p.1.1.1.1.1.0), omega (arith, outcome_small r.outcome)), o.0),
      o.1,
    )

pub session-back : {s t : List ℕ} {at : ℕ} (r : SessionRow) → SessionFits r → Stored s t at (session_bytes r) 80 → at + 80 ≤ length s → session_at t at ≡ r
unfolding session_at session_bytes
session-back {s} {t} {at} r g p h = ap session_of (value-encode session_f (session_value r) t at _ g (there p h)) ∙ (rw (outcome-back r.outcome))
