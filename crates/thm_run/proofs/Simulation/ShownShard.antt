-- Paper 01, 'Map shown', of the run's shard at a holder: who is not the primary steps down, the primary of a new epoch gets a record, and a
-- record that stays is as it was. Assumes nothing.
use Prim.Native.Nat.{ℕ, ◌≤◌}
use mathlib.Core.Path.{◌≡◌, refl, sym, ap, ◌∙◌, subst}
use mathlib.Core.Bool.{true, false, not}
use mathlib.Core.List.{List, [], ◌∷◌, map}
use native.Mathlib.Omega.{arith}
use lib.Dec.{leb}
use lib.ListN.{length, take}
use borrow.Author.Tests.{eqb-true, leb-true}
use Rattle.spec.specs.Lists.{◌and◌, every}
use Rattle.spec.specs.Log.{Log, ShardReplica, promote, epoch_ends, last_offset}
use Rattle.spec.specs.Map.Tables as tables
use Rattle.spec.specs.Map.Tables.{ShardInfo}
use Rattle.spec.specs.Map.Change.{holds, in_sync, is_id}
use Rattle.spec.specs.Map.WellFormed.{shard_fits}
use Rattle.spec.specs.Node.Held.{Held}
use Rattle.spec.specs.Node.Shards.{leads_at, demoted}
use Rattle.spec.specs.Node.Shown.{with_rows, retained, refreshed, promotes, promoted_to, kept_as}
use Rattle.spec.specs.declared.Metric.{Metric}
use Rattle.spec.specs.declared.Replica.{Replica}
use Rattle.spec.specs.declared.Peer.{Peer}
use Rattle.spec.specs.declared.Role as role
use Rattle.spec.specs.declared.Role.TheVariants.{Backup, Primary}
use Rattle.spec_laws.proofs.Lists.{and_right}
use Rattle.spec_laws.proofs.Map.Rows.{every_tail, every-find, find_true}
use Rattle.spec_laws.proofs.Map.WellFormed.{map-parts, shard-parts}
use Rattle.thm_run.proofs.Protocol.Sets.{In}
use Rattle.thm_run.proofs.Protocol.State as proto
use Rattle.thm_run.proofs.Protocol.State.{Map, Lead, Role, backup, lead, Node, with_role, leader}
use Rattle.thm_run.proofs.Simulation.Lists.{any-find}
use Rattle.thm_run.proofs.Simulation.Relation.{World, MapSim, RowsSim, LeadSim, RoleSim, LogFits, HeldSim}
use Rattle.thm_run.proofs.Simulation.Logs.{fits-promoted}
use Rattle.thm_run.proofs.Simulation.Rows.{retained-rows}
use Rattle.thm_run.proofs.Simulation.NewRows.{new-rows, none_added}

take_whole : (l : Log) → take (length l) l ≡ l
take_whole [] = refl
take_whole (x ∷ xs) = ap (λ (v : Log). x ∷ v) (take_whole xs)

-- in_sync_lem nodes are holders
pub sync_holds : (w : World) (m : tables.Map) (b : Map) → MapSim w m b → (p : ℕ) → In p b.insync → holds p w.holders ≡ true
unfolding in_sync
sync_holds w m b t p i =
    let s = t.shard in
    let all = subst (λ (l : List ShardInfo). every shard_fits l ≡ true) t.only (map-parts m t.formed).2.2 in
    let f = (shard-parts s (every_tail shard_fits s [] all).0).3 in
    let r = any-find (is_id p) s.insync (t.insync p ∙ i) in
    let h : holds r.0.0 s.replicas ≡ true = every-find (λ d. holds d.0 s.replicas) (is_id p) s.insync r.0 f r.1 in
    subst (λ (rs : List Replica). holds p rs ≡ true) t.replicas
    (subst (λ (z : ℕ). holds z s.replicas ≡ true) (eqb-true r.0.0 p (find_true (is_id p) s.insync r.0 r.1)) h)

module _ (w : World) (m : tables.Map) (am : Map) (t : MapSim w m am) (n : ℕ) (h : Held) (b : Node) (key : h.key ≡ w.key)
    (same : h.replica ≡ b.replica) (fits : LogFits w h.replica) (is : RoleSim w am.epoch n h.role h.replica h.peers b.role) where
  abbrev i : ShardInfo
  i = t.shard

  pub demoted_sim : HeldSim w am.epoch n (demoted (refreshed i h)) (with_role b backup)
  unfolding proto.with_role
  demoted_sim = record { key = key; holders = t.replicas; replica = same; fits = fits; role = refl }

  -- ---- a new record

  module _ (metric : Metric) (may : promotes h i ≡ true) where
    late : h.replica.epoch ≤ am.epoch
    late =
        subst (λ (e : ℕ). h.replica.epoch ≤ e) t.epoch
        (leb-true h.replica.epoch i.epoch (and_right (not (leads_at h.role i.epoch)) (leb h.replica.epoch i.epoch) may))

    abbrev l : Lead
    l = record {
      epoch = am.epoch;
      end = length b.replica.log;
      table = epoch_ends b.replica.log;
      ack = am.insync;
      acked = λ p. 0;
      aligned = λ p. false;
    }

    led : LeadSim w am.epoch n (Primary (record { 0 = i.epoch }) (record { 0 = last_offset h.replica })) (promote h.replica am.epoch)
        (with_rows n i.insync w.holders []) l
    unfolding promote
    led = record {
      role =
          ap {B = role.Role} (λ (e : ℕ). Primary (record { 0 = e }) (record { 0 = last_offset h.replica })) t.epoch
          ∙ ap {B = role.Role} (λ (r : ShardReplica). Primary (record { 0 = am.epoch }) (record { 0 = length r.log })) same;
      epoch = (let z = late in omega arith);
      end = (let z : length b.replica.log ≡ length h.replica.log = ap (λ (r : ShardReplica). length r.log) (sym same) in omega arith);
      table =
          ap epoch_ends
          (sym (ap (λ (r : ShardReplica). take (length b.replica.log) r.log) same ∙ take_whole b.replica.log));
      upto = omega arith;
      rows = new-rows w n i.insync l refl refl t.insync (sync_holds w m am t);
    }

    pub promoted_sim : HeldSim w am.epoch n (promoted_to n i metric h).held (leader b am)
    unfolding promoted_to proto.leader
    promoted_sim = record {
      key = key;
      holders = t.replicas;
      replica =
          ap (promote h.replica) t.epoch ∙ ap (λ (r : ShardReplica). promote r am.epoch) same;
      fits = subst (λ (e : ℕ). LogFits w (promote h.replica e)) (sym t.epoch) (fits-promoted w h.replica am.epoch late t.upto fits);
      role =
          subst (λ (rs : List Replica). LeadSim w am.epoch n (Primary (record { 0 = i.epoch }) (record { 0 = last_offset h.replica }))
          (promote h.replica i.epoch) (with_rows n i.insync rs []) l) (sym t.replicas)
          (subst (λ (e : ℕ). LeadSim w am.epoch n (Primary (record { 0 = i.epoch }) (record { 0 = last_offset h.replica }))
          (promote h.replica e) (with_rows n i.insync w.holders []) l) (sym t.epoch) led);
    }

  -- ---- a record that stays, or none

  abbrev rows : List Peer
  rows = map (retained w.holders) h.peers

  kept_role : (r : Role) → RoleSim w am.epoch n h.role h.replica h.peers r → (e : _) (o : _) → h.role ≡ Primary e o
      → RoleSim w am.epoch n h.role h.replica (with_rows n [] w.holders rows) r
  kept_role backup c e o q = c
  kept_role (lead l) c e o q = record {
    role = c.role;
    epoch = c.epoch;
    end = c.end;
    table = c.table;
    upto = c.upto;
    rows =
        (let v = retained-rows w n l h.peers c.rows in
        subst (RowsSim w n l) (sym (none_added n [] w.holders rows v.has)) v);
  }

  pub kept_sim : (metric : Metric) → HeldSim w am.epoch n (kept_as n i metric h h.role).held b
  unfolding kept_as
  kept_sim metric = go h.role refl
    where
      go : (r : role.Role) → h.role ≡ r → HeldSim w am.epoch n (kept_as n i metric h r).held b
      go Backup q = record { key = key; holders = t.replicas; replica = same; fits = fits; role = is }
      go (Primary e o) q = record {
        key = key;
        holders = t.replicas;
        replica = same;
        fits = fits;
        role =
            subst (λ (rs : List Replica). RoleSim w am.epoch n (Primary e o) h.replica (with_rows n [] rs (map (retained rs) h.peers))
            b.role) (sym t.replicas)
            (subst (λ (r : role.Role). RoleSim w am.epoch n r h.replica (with_rows n [] w.holders rows) b.role) q
            (kept_role b.role is e o q));
      }
