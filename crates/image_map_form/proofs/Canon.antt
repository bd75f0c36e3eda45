-- The canonical rows (specs/Canon.antt): each is read as the row of `spec` that it was made of; and the code has its primary and its outcome as
-- they are. Assumes nothing.
use Prim.Native.Nat.{ℕ}
use mathlib.Core.Path.{◌≡◌, refl, ap}
use mathlib.Core.Option.{Option, none, some}
use Rattle.spec.specs.Keys as keys
use Rattle.spec.specs.Refusals as said
use Rattle.spec.specs.Map.Tables as tables
use Rattle.map_tables.specs.Names.{view_key}
use Rattle.map_tables.specs.View.{view_node, view_collection, view_primary, view_shard, rejection_of, outcome_of, view_session}
use Rattle.std.specs.declared.option.Option as option
use Rattle.spec.specs.declared.DataNodeId.{DataNodeId}
use Rattle.std.specs.Prelude.{None, Some}
use Rattle.map_tables.specs.declared.Rejection.{Rejection}
use Rattle.map_tables.specs.declared.Rejection.TheVariants.{
  Older,
  Exists,
  ZeroSpec,
  PlacementMismatch,
  NotAlive,
  NoCollection,
  KnownIncarnation,
  NotAtIncarnation,
  NoShard,
  OtherEpoch,
  AlreadyHeld,
  RemovesPrimary,
  NotHeld,
  NotInSync,
  ShrinksPrimary,
  AlreadyInSync,
}
use Rattle.map_tables.specs.declared.Outcome.{Outcome}
use Rattle.map_tables.specs.declared.Outcome.TheVariants.{Applied, Rejected}
use Rattle.image_parts.specs.Codes.{id_of}
use Rattle.image_parts.specs.Parts.{no_name, no_key, no_replica}
use Rattle.image_parts.specs.Canon.{padded, image_key}
use Rattle.image_parts.proofs.Canon.{take-padded, view-name, view_address_lem, view-key}
use Rattle.image_map_form.specs.Canon.{image_node, image_collection, image_primary, image_shard, image_rejection, image_outcome, key_of_none, rejection_key, outcome_key, image_session}

-- ---- what the code has

pub none-key : no_key ≡ image_key key_of_none
unfolding no_key no_name padded
none-key = refl

pub same-primary : (p : option.Option DataNodeId) → image_primary (view_primary p) ≡ p
same-primary None = refl
same-primary (Some n) = refl

same_rejection : (r : Rejection) (k : keys.Key) → image_rejection (rejection_of r k) ≡ r
same_rejection Older k = refl
same_rejection Exists k = refl
same_rejection ZeroSpec k = refl
same_rejection PlacementMismatch k = refl
same_rejection (NotAlive n) k = refl
same_rejection NoCollection k = refl
same_rejection (KnownIncarnation n i) k = refl
same_rejection (NotAtIncarnation n i) k = refl
same_rejection NoShard k = refl
same_rejection (OtherEpoch own given) k = refl
same_rejection (AlreadyHeld n) k = refl
same_rejection RemovesPrimary k = refl
same_rejection (NotHeld n) k = refl
same_rejection (NotInSync n) k = refl
same_rejection ShrinksPrimary k = refl
same_rejection (AlreadyInSync n) k = refl

pub same_outcome : (o : Outcome) (k : keys.Key) → image_outcome (outcome_of o k) ≡ o
same_outcome Applied k = refl
same_outcome (Rejected r) k = ap Rejected (same_rejection r k)

-- ---- a row as it is written is read as it was

pub view-node : (x : tables.NodeInfo) → view_node (image_node x) ≡ x
view-node x = rw (view_address_lem x.address)

pub view-collection : (x : tables.Collection) → view_collection (image_collection x) ≡ x
view-collection x = rw (view-name x.name)

view-primary : (o : Option ℕ) → view_primary (image_primary o) ≡ o
view-primary none = refl
view-primary (some n) = refl

pub view-shard : (x : tables.ShardInfo) → view_shard (image_shard x) ≡ x
view-shard x = rw (view-key x.key, take-padded 8 no_replica x.replicas, view-primary x.primary, take-padded 8 (id_of 0) x.insync)

view_rejection : (r : said.Rejection) → rejection_of (image_rejection r) (view_key (image_key (rejection_key r))) ≡ r
view_rejection said.older = refl
view_rejection (said.exists n) = ap said.exists (view-name n)
view_rejection said.zero_spec = refl
view_rejection said.placement_mismatch = refl
view_rejection (said.not_alive n) = refl
view_rejection (said.no_collection n) = ap said.no_collection (view-name n)
view_rejection (said.known_incarnation n i) = refl
view_rejection (said.not_at_incarnation n i) = refl
view_rejection (said.no_shard k) = ap said.no_shard (view-key k)
view_rejection (said.other_epoch k own given) = ap (λ (x : keys.Key). said.other_epoch x own given) (view-key k)
view_rejection (said.already_held n) = refl
view_rejection said.removes_primary = refl
view_rejection (said.not_held n) = refl
view_rejection (said.not_in_sync n) = refl
view_rejection said.shrinks_primary = refl
view_rejection (said.already_in_sync n) = refl

view-outcome : (o : tables.Outcome) → outcome_of (image_outcome o) (view_key (image_key (outcome_key o))) ≡ o
view-outcome tables.applied = refl
view-outcome (tables.rejected r) = ap tables.rejected (view_rejection r)

pub view-session : (x : tables.Session) → view_session (image_session x) ≡ x
view-session x = ap (λ (o : tables.Outcome). record { client = x.client; seq = x.seq; outcome = o }) (view-outcome x.outcome)
