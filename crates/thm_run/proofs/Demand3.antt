-- Demand 3, whole: in every run that the rules allow, from every fresh state, each acknowledged write stands in the log of every node that
-- the map lists in sync, with its offset and its operation, and that node's vectors are its log played from the start. Assumes nothing.
use Prim.Native.Nat.{ℕ}
use mathlib.Core.Path.{◌≡◌, refl, sym, ap, ◌∙◌}
use mathlib.Core.Bool.{Bool, true, false, cond}
use mathlib.Core.List.{List, [], ◌∷◌}
use mathlib.Core.Option.{Option, none, some}
use Rattle.spec.specs.Keys.{Key, same_key}
use Rattle.spec.specs.Lists.{nth, find}
use Rattle.spec.specs.Log.{Log, entry_at, play}
use Rattle.spec.specs.Map.Tables.{ShardInfo}
use Rattle.spec.specs.Map.Apply.{shard_at}
use Rattle.spec.specs.Node.Held.{Held}
use Rattle.spec.specs.Node.Shards.{held_shard}
use Rattle.spec_laws.proofs.Lists.{not_both}
use Rattle.spec_laws.proofs.Map.Orders.{same_key_lem}
use Rattle.spec_run.specs.State.{State}
use Rattle.spec_run.specs.Event.{Event}
use Rattle.spec_run.specs.Step.{run}
use Rattle.spec_run.specs.Rules.{allowed_run}
use Rattle.spec_run.specs.Fresh.{Fresh}
use Rattle.spec_run.specs.Claim.{listed_in, in_sync_at, log_in, log_of, vectors_in, vectors_of, Durable}
use Rattle.thm_run.proofs.Protocol.Base.{all-nth}
use Rattle.thm_run.proofs.Protocol.Sets.{In}
use Rattle.thm_run.proofs.Protocol.State as proto
use Rattle.thm_run.proofs.Protocol.Run as protocol
use Rattle.thm_run.proofs.Protocol.Written.{KnownAt, known-run, known-first}
use Rattle.thm_run.proofs.Simulation.Lists.{nth-map}
use Rattle.thm_run.proofs.Simulation.Relation.{World, HeldSim, WriteKey, acknowledged_of, Sim}
use Rattle.thm_run.proofs.Simulation.AtNode.{shard-found, log_facts}
use Rattle.thm_run.proofs.Simulation.ShownShard.{sync_holds}
use Rattle.thm_run.proofs.Simulation.Start.{world, first, others, start, at-start}
use Rattle.thm_run.proofs.Simulation.Steps.{on-run}

module _ (w : World) (s : State) (a : proto.State) (k : Sim w s a) where
  -- who is in sync at a key is so at the run's, and in the protocol
  in_sync_lem : (key : Key) (n : ℕ) → in_sync_at s.map key n ≡ true → (key ≡ w.key) × In n a.map.insync
  unfolding in_sync_at shard_at find
  in_sync_lem key n e =
      go (same_key k.table.shard.key key) refl
      (sym (ap (λ (l : List ShardInfo). listed_in (shard_at l key) n) k.table.only) ∙ e)
    where
      go : (t : Bool) → same_key k.table.shard.key key ≡ t → listed_in (cond t (some k.table.shard) none) n ≡ true
          → (key ≡ w.key) × In n a.map.insync
      go true t e = (sym (same_key_lem k.table.shard.key key t) ∙ k.table.key, sym (k.table.insync n) ∙ e)
      go false t e = not_both false e refl

  -- what such a node holds is what the protocol's node holds
  holds-one : (n : ℕ) → In n a.map.insync
      → (h : Held) × ((s.nodes n).held ≡ h ∷ []) × HeldSim w a.map.epoch n h (a.nodes n) × (held_shard (s.nodes n) w.key ≡ some h)
  holds-one n i =
      let r = (k.nodes n).here (sync_holds w s.map a.map k.table n i) in
      (r.0, r.1, r.2, shard-found w a.map.epoch n (s.nodes n) (a.nodes n) (k.nodes n) r.0 r.1 r.2)

  -- the claim, from the protocol's
  held_fast : ((i : ℕ) (v : proto.Acknowledged) → nth a.acknowledged i ≡ some v → (n : ℕ) → In n a.map.insync
      → entry_at (a.nodes n).replica.log v.offset ≡ some (record { epoch = v.epoch; offset = v.offset; op = v.op }))
      → Durable s
  unfolding log_of vectors_of
  held_fast claim = record {
    stands = λ v i found n e.
        let own = all-nth (WriteKey w) s.acknowledged i v k.known found in
        let q = in_sync_lem v.key n e in
        let r = holds-one n q.1 in
        let log : (a.nodes n).replica.log ≡ log_of (s.nodes n) v.key =
        ap (λ z. z.log) (sym r.2.replica) ∙ ap log_in (sym r.3) ∙ ap (λ (j : Key). log_in (held_shard (s.nodes n) j)) (sym own) in
        record {
          entry = record { epoch = v.epoch; offset = v.offset; op = v.op };
          found =
              ap (λ (l : Log). entry_at l v.offset) (sym log)
              ∙ claim i (acknowledged_of w v)
              (ap (λ (z : List proto.Acknowledged). nth z i) (sym k.acknowledged) ∙ nth-map (acknowledged_of w) s.acknowledged i v found)
              n q.1;
          offset = refl;
          op = refl;
        };
    played = λ key n e.
        let q = in_sync_lem key n e in
        let r = holds-one n q.1 in
        let f = (log_facts w a.map.epoch n (s.nodes n) (a.nodes n) (k.nodes n) r.0 r.1).played in
        let one : held_shard (s.nodes n) key ≡ some r.0 = ap (held_shard (s.nodes n)) q.0 ∙ r.3 in
        ap vectors_in one ∙ f ∙ ap (λ (o : Option Held). play (log_in o)) (sym one);
  }

-- the invariant of a run's state: it shows itself in a state of the protocol that keeps the protocol's invariant. What later claims about
-- runs build on
pub record Invariant (w : World) (s : State) : Type 0 where
  pub abstract : proto.State
  pub related : Sim w s abstract
  pub kept : protocol.Inv abstract
  pub known : KnownAt abstract

module _ (s : State) (f : Fresh s) where
  -- what never changes in the run: key, holders, metric
  abbrev pub world_of : World
  world_of = world s.map f.shard f.created

  -- every run keeps the invariant
  pub invariant : (es : List Event) → allowed_run s es ≡ true → Invariant world_of (run s es)
  invariant es t =
      let m = s.map in
      let i = f.shard in
      let c = f.created in
      let r = on-run world_of s (start m i c) (at-start s f) es t in
      let v = protocol.at_first c.metric.0 (first m i c) (others m i c i.replicas) in
      record {
        abstract = proto.run (start m i c) r.0;
        related = r.1;
        kept = protocol.on-run (start m i c) r.0 v;
        known = known-run (start m i c) r.0 v (known-first c.metric.0 (first m i c) (others m i c i.replicas));
      }

-- demand 3
pub durable : (s : State) → Fresh s → (es : List Event) → allowed_run s es ≡ true → Durable (run s es)
durable s f es t =
    let v = invariant s f es t in
    held_fast (world_of s f) (run s es) v.abstract v.related (protocol.stands_in_sync v.abstract v.kept)
