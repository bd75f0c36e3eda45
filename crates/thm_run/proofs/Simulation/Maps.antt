-- Paper 01, 'Who is turned down', Apply, of a map that is related to the protocol's: a command that is not applied leaves what the relation
-- reads; Promote, Shrink and Expand that are applied make of it what the protocol's moves make. Assumes nothing.
use Prim.Native.Nat.{ℕ, ◌+◌, ◌≤◌}
use mathlib.Core.Path.{◌≡◌, refl, sym, ap, ◌∙◌, subst}
use mathlib.Core.Bool.{Bool, true, false, cond, not}
use mathlib.Core.List.{List, [], ◌∷◌}
use mathlib.Core.Option.{Option, none, some}
use native.Mathlib.Omega.{arith}
use lib.Dec.{eqb, ltb}
use lib.ListN.{length}
use borrow.Author.Tests.{eqb-true, eqb-false, eq-eqb, ne_eqb}
use Rattle.spec.specs.Keys.{Key, same_key}
use Rattle.spec.specs.Limits.{max_u64, max_clients}
use Rattle.spec.specs.Lists.{◌and◌, find, put}
use Rattle.spec.specs.Refusals.{older, no_room}
use Rattle.spec.specs.Map.Tables as tables
use Rattle.spec.specs.Map.Tables.{ShardInfo, Session, Answer, applied, rejected, refused}
use Rattle.spec.specs.Map.Change as change
use Rattle.spec.specs.Map.Change.{Change, changed, decide_change, accepts, rejects, in_sync, without, deposed, is_primary, id_below, node_id}
use Rattle.spec.specs.Map.Apply.{Applied, apply, apply_to, settle, decide, commit, change_shard, remembered, session_at, shard_at, is_shard, update}
use Rattle.spec.specs.Map.WellFormed.{well_formed_map}
use Rattle.spec.specs.Layout.Request.{Request}
use Rattle.spec_laws.proofs.Lists.{by-test, not_both, none_some, some_same}
use Rattle.spec_laws.proofs.Map.Sets.{out_of_without, rest_of_without, in_put, rest_of_put}
use Rattle.spec_laws.proofs.Map.Shards.{command_of, changed-key, commit-change, change-taken, promote-taken, shrink_taken}
use Rattle.spec_run.specs.Step as step
use Rattle.spec_run.specs.Rules.{not_last}
use Rattle.thm_run.proofs.Protocol.Base.{same_or}
use Rattle.thm_run.proofs.Protocol.Sets as sets
use Rattle.thm_run.proofs.Protocol.Sets.{member, in_head}
use Rattle.thm_run.proofs.Protocol.State.{Map, promoted, resized}
use Rattle.thm_run.proofs.Simulation.Relation.{World, MapSim}
use Rattle.thm_run.proofs.Simulation.Rows.{cons_other, without_other, without-same}

-- ---- the ways through apply: the map is left under an answer that applies nothing, or a remembered answer comes again, or the command
-- is decided now
pub ways : (P : Applied → Type 0) (m : tables.Map) (r : Request)
    → ((v : Answer) → step.is_applied v ≡ false → P (record { answer = v; map = m }))
    → ((x : Session) → session_at m.sessions r.client ≡ some x → r.seq ≡ x.seq → P (record { answer = tables.outcome x.outcome; map = m }))
    → ((v : Answer) → decide m r.command ≡ v → P (settle m r v))
    → P (apply m r)
unfolding apply apply_to
ways P m r kept again done = go (session_at m.sessions r.client) refl
  where
    go : (o : Option Session) → session_at m.sessions r.client ≡ o → P (apply_to m r o)
    go none e =
        by-test P (ltb (length m.sessions) max_clients) (λ q. done (decide m r.command) refl) (λ q. kept (refused no_room) refl)
    go (some x) e =
        by-test P (ltb r.seq x.seq) (λ q. kept (rejects older) refl)
        (λ q. by-test P (eqb r.seq x.seq) (λ t. again x e (eqb-true r.seq x.seq t)) (λ t. done (decide m r.command) refl))

-- a seq that is not the remembered one is not answered from memory
pub not_again : {P : Type 0} (o : Option Session) (seq : ℕ) → not_last o seq ≡ true → (x : Session) → o ≡ some x → seq ≡ x.seq → P
not_again o seq t x e q = go o e t
  where
    go : {P : Type 0} (o : Option Session) → o ≡ some x → not_last o seq ≡ true → P
    go none e t = none_some e
    go (some y) e t =
        let u : y ≡ x = some_same e in
        not_both (eqb y.seq seq) (eq-eqb y.seq seq (ap (λ (z : Session). z.seq) u ∙ sym q)) (flip (eqb y.seq seq) t)
      where
        flip : (b : Bool) → not b ≡ true → b ≡ false
        flip true e = sym e
        flip false e = refl

module _ (w : World) (m : tables.Map) (b : Map) (k : MapSim w m b) (r : Request) where
  -- a rejection is remembered, and nothing else changes
  pub not_applied_lem : (v : Answer) → step.is_applied v ≡ false → well_formed_map (settle m r v).map ≡ true → MapSim w (settle m r v).map b
  unfolding settle remembered
  not_applied_lem (tables.outcome applied) e f = not_both true refl e
  not_applied_lem (tables.outcome (rejected why)) e f = record {
    formed = f;
    nodes = k.nodes;
    collections = k.collections;
    shard = k.shard;
    only = k.only;
    key = k.key;
    replicas = k.replicas;
    primary = k.primary;
    epoch = k.epoch;
    upto = k.upto;
    insync = k.insync;
  }
  not_applied_lem (refused why) e f = k

  -- ---- a change that is applied

  module _ (key : Key) (e : ℕ) (c : Change) (is : r.command ≡ command_of key e c) (yes' : decide m r.command ≡ accepts) where
    found : (s : ShardInfo) × (shard_at m.shards key ≡ some s) × (s.epoch ≡ e) × (decide_change s c ≡ accepts)
    found = change-taken m key e c (sym (ap (decide m) is) ∙ yes')

    -- it is the run's shard
    same : (k.shard ≡ found.0) × (same_key k.shard.key key ≡ true)
    unfolding shard_at find
    same = go (same_key k.shard.key key) refl (sym (ap (λ (l : List ShardInfo). shard_at l key) k.only) ∙ found.1)
      where
        go : (t : Bool) → same_key k.shard.key key ≡ t → cond t (some k.shard) none ≡ some found.0
            → (k.shard ≡ found.0) × (same_key k.shard.key key ≡ true)
        go true t q = (some_same q, t)
        go false t q = none_some q

    pub at-epoch : b.epoch ≡ e
    at-epoch = sym k.epoch ∙ ap (λ (s : ShardInfo). s.epoch) same.0 ∙ found.2

    pub taken : decide_change k.shard c ≡ accepts
    taken = subst (λ (s : ShardInfo). decide_change s c ≡ accepts) (sym same.0) found.3

    -- the map after, if the changed shard is that of b'
    pub changed_sim : (b' : Map) → well_formed_map (settle m r accepts).map ≡ true → (changed k.shard c).replicas ≡ k.shard.replicas
        → (changed k.shard c).primary ≡ some b'.primary → (changed k.shard c).epoch ≡ b'.epoch → b'.epoch ≤ max_u64
        → ((n : ℕ) → in_sync n (changed k.shard c).insync ≡ member n b'.insync)
        → MapSim w (settle m r accepts).map b'
    unfolding settle remembered change_shard update
    changed_sim b' f replicas primary epoch upto insync =
        let made : commit m r.command ≡ change_shard m key c = ap (commit m) is ∙ commit-change m key e c in
        let only : update (is_shard key) (λ s. changed s c) m.shards ≡ changed k.shard c ∷ [] =
        ap (update (is_shard key) (λ s. changed s c)) k.only ∙ rw same.1 in
        record {
          formed = f;
          nodes = ap (λ (z : tables.Map). z.nodes) made ∙ k.nodes;
          collections = ap (λ (z : tables.Map). z.collections) made ∙ k.collections;
          shard = changed k.shard c;
          only = ap (λ (z : tables.Map). z.shards) made ∙ only;
          key = changed-key k.shard c ∙ k.key;
          replicas = replicas ∙ k.replicas;
          primary = primary;
          epoch = epoch;
          upto = upto;
          insync = insync;
        }

  -- ---- the three commands of a run

  -- the in_sync_lem set without a node
  out : (p q : ℕ) → in_sync q (without p k.shard.insync) ≡ member q (sets.without p b.insync)
  out p q = same_or (in_sync q (without p k.shard.insync) ≡ member q (sets.without p b.insync)) q p
      (λ e. subst (λ (z : ℕ). in_sync z (without p k.shard.insync) ≡ member z (sets.without p b.insync)) (sym e)
      (out_of_without p k.shard.insync ∙ sym (without-same p b.insync)))
      (λ ne. rest_of_without p k.shard.insync q ne ∙ k.insync q ∙ sym (without_other q p b.insync ne))

  pub promote_sim : (key : Key) (n e : ℕ) → r.command ≡ command_of key e (change.promote n) → decide m r.command ≡ accepts
      → well_formed_map (settle m r accepts).map ≡ true → (member n b.insync ≡ true) × MapSim w (settle m r accepts).map (promoted b n)
  unfolding changed promoted deposed
  promote_sim key n e is yes' f =
      let c : Change = change.promote n in
      let t = promote-taken k.shard n (taken key e c is yes') in (
        sym (k.insync n) ∙ t.0,
        changed_sim key e c is yes' (promoted b n) f refl refl (ap (λ (d : ℕ). d + 1) k.epoch ∙ omega arith)
            (let u = k.upto in let ne = t.1 in let q = k.epoch in omega arith)
            (λ q. ap (λ (o : Option ℕ). in_sync q (deposed n o k.shard.insync)) k.primary
            ∙ same_or (in_sync q (cond (eqb b.primary n) k.shard.insync (without b.primary k.shard.insync))
            ≡ member q (cond (eqb n b.primary) b.insync (sets.without b.primary b.insync))) n b.primary
            (λ p. rw (eq-eqb n b.primary p, eq-eqb b.primary n (sym p)) (k.insync q))
            (λ ne. rw (ne_eqb n b.primary ne, ne_eqb b.primary n (λ p. ne (sym p))) (out b.primary q))),
      )

  pub shrink_sim : (key : Key) (n e : ℕ) → r.command ≡ command_of key e (change.shrink n) → decide m r.command ≡ accepts
      → well_formed_map (settle m r accepts).map ≡ true
      → (b.epoch ≡ e) × (n ≡ b.primary → ⊥) × (member n b.insync ≡ true)
      × MapSim w (settle m r accepts).map (resized b (sets.without n b.insync))
  unfolding changed resized
  shrink_sim key n e is yes' f =
      let c : Change = change.shrink n in
      let t = shrink_taken k.shard n (taken key e c is yes') in (
        at-epoch key e c is yes',
        (λ q. eqb-false b.primary n (sym (ap (is_primary n) k.primary) ∙ t.0) (sym q)),
        sym (k.insync n) ∙ t.1,
        changed_sim key e c is yes' (resized b (sets.without n b.insync)) f refl k.primary k.epoch k.upto (out n),
      )

  pub expand_sim : (key : Key) (n e : ℕ) → r.command ≡ command_of key e (change.expand n) → decide m r.command ≡ accepts
      → well_formed_map (settle m r accepts).map ≡ true
      → (b.epoch ≡ e) × MapSim w (settle m r accepts).map (resized b (n ∷ b.insync))
  unfolding changed resized
  expand_sim key n e is yes' f =
      let c : Change = change.expand n in (
        at-epoch key e c is yes',
        changed_sim key e c is yes' (resized b (n ∷ b.insync)) f refl k.primary k.epoch k.upto
            (λ q. same_or (in_sync q (put id_below (node_id n) k.shard.insync) ≡ member q (n ∷ b.insync)) q n
            (λ p. subst (λ (z : ℕ). in_sync z (put id_below (node_id n) k.shard.insync) ≡ member z (n ∷ b.insync)) (sym p)
            (in_put n k.shard.insync ∙ sym (in_head n b.insync)))
            (λ ne. rest_of_put n k.shard.insync q ne ∙ k.insync q ∙ sym (cons_other q n b.insync ne))),
      )
