-- Request 2.13: after one round to align and one for each 256 entries begun, so after five at most, every holder's log is the primary's,
-- which is the one it had. Of every run, and any order inside a round. Assumes nothing.
use Prim.Native.Nat.{ℕ, zero, suc, ◌+◌, ◌*◌, ◌≤◌, min}
use mathlib.Core.Path.{◌≡◌, refl, sym, ap, ◌∙◌, subst}
use mathlib.Core.Bool.{Bool, true, false}
use mathlib.Core.List.{List, [], ◌∷◌, ◌++◌}
use mathlib.Core.Option.{Option, none, some}
use native.Mathlib.Omega.{arith}
use lib.ListN.{length}
use Rattle.spec.specs.Keys.{Key, same_key}
use Rattle.spec.specs.Limits.{max_entries, max_batch}
use Rattle.spec.specs.Lists.{every, find}
use Rattle.spec.specs.Log.{Log, ShardReplica}
use Rattle.spec.specs.Map.Tables.{ShardInfo}
use Rattle.spec.specs.Map.Apply.{shard_at}
use Rattle.spec.specs.Map.Change.{holds}
use Rattle.spec.specs.Node.Held.{Held}
use Rattle.spec.specs.Node.Shards.{held_shard, leads_at}
use Rattle.spec_laws.proofs.Lists.{and_left, and_right, none_some, some_same}
use Rattle.spec_laws.proofs.Map.Orders.{key-same}
use Rattle.spec_laws.proofs.Map.Rows.{every_tail}
use Rattle.spec_run.specs.State as real
use Rattle.spec_run.specs.Step as step
use Rattle.spec_run.specs.Rules.{allowed, allowed_run}
use Rattle.spec_run.specs.Event.{Event}
use Rattle.spec_run.specs.Fresh.{Fresh}
use Rattle.spec_run.specs.Claim.{log_in, log_of}
use Rattle.thm_run.proofs.Protocol.Base.{same_or}
use Rattle.thm_run.proofs.Protocol.State as proto
use Rattle.thm_run.proofs.Protocol.State.{Lead, lead}
use Rattle.thm_run.proofs.Simulation.Relation.{World, HeldSim, Sim}
use Rattle.thm_run.proofs.Simulation.AtNode.{shard_cases, shard-found, held_facts, leads}
use Rattle.thm_run.proofs.Demand3.{Invariant, world_of, invariant}
use Rattle.thm_rounds.specs.Rounds.{Leads, Still, holders_in, is_holder, in_round, Round, Rounds, run_rounds, CaughtUp, Enough}
use Rattle.thm_rounds.proofs.Steady.{Scene, Steady, SteadyAt, Closed}
use Rattle.thm_rounds.proofs.Forget.{forget, forget_inv, forget_sim}
use Rattle.thm_rounds.proofs.Peer.{Some, some_closed, Far, far_closed, same_log}
use Rattle.thm_rounds.proofs.Follow.{Now, next}
use Rattle.thm_rounds.proofs.Asking.{first_round, later_round}

-- the map's holders are the run's
holder_is : (w : World) (s : real.State) (a : proto.State) → Sim w s a → (p : ℕ) → is_holder s.map w.key p ≡ holds p w.holders
unfolding is_holder shard_at find
holder_is w s a k p =
    let t : same_key k.table.shard.key w.key ≡ true = subst (λ (j : Key). same_key j w.key ≡ true) (sym k.table.key) (key-same w.key) in
    ap (λ (l : List ShardInfo). holds p (holders_in (shard_at l w.key))) k.table.only
    ∙ rw t (ap (holds p) k.table.replicas)

module _ (w : World) (a E : ℕ) (log : Log) (mine : holds a w.holders ≡ true) where
  module _ (p : ℕ) (other : a ≡ p → ⊥) where
    -- `Aligning`: the peer may still be asked to align
    abbrev scene : Type 0 → Scene
    scene aligning = record { world = w; a = a; E = E; p = p; log = log; Aligning = aligning; mine = mine; other = other }

    -- nothing is under way: the lists begin anew
    restart : (X Y : Type 0) (K : Lead → Type 0) (s : real.State) → Still s → Now (scene X) K s → Now (scene Y) K s
    restart X Y K s still k = record {
      abstract = forget k.abstract;
      related = forget_sim w s k.abstract k.related still;
      kept = forget_inv k.abstract k.kept;
      steady = record {
        log = k.steady.log;
        epochs = k.steady.epochs;
        leads = k.steady.leads;
        asked = λ b q. tt;
        own = tt;
        told = tt;
      };
    }

    abbrev First : Scene
    First = scene (Unit {0})

    abbrev Later : Scene
    Later = scene ⊥

    module _ (holder : holds p w.holders ≡ true) where
      -- each round brings a batch
      rounds_far : (rs : List (List Event)) (g : ℕ) (s : real.State) → Still s → Now Later (Far Later (min g (length log))) s → Rounds w.key a E s rs
          → Now Later (Far Later (min (length rs * max_batch + g) (length log))) (run_rounds s rs)
      rounds_far [] g s still k r = subst (λ (m : ℕ). Now Later (Far Later (min m (length log))) s) (omega arith) k
      rounds_far (es ∷ rs) g s still k r =
          let e = r.0 in
          let z = later_round Later holder (λ y. y) g es s (restart ⊥ ⊥ (Far Later (min g (length log))) s still k) e.kinds e.rules
          (e.steps p (holder_is w s k.abstract k.related p ∙ holder) other) e.ends in
          let more = rounds_far rs (max_batch + g) (step.run s es) e.ends z r.1 in
          subst (λ (m : ℕ). Now Later (Far Later (min m (length log))) (run_rounds (step.run s es) rs)) (omega arith) more

      peer_caught : (es : List Event) (rs : List (List Event)) (s : real.State) → Still s → Now First (Some First) s → Rounds w.key a E s (es ∷ rs)
          → Enough (length log) (length rs) → (b : proto.State) × Sim w (run_rounds s (es ∷ rs)) b × ((b.nodes p).replica.log ≡ log)
      peer_caught es rs s still k r enough =
          let e = r.0 in
          let z = first_round First holder tt es s k e.kinds e.rules (e.steps p (holder_is w s k.abstract k.related p ∙ holder) other) e.ends in
          let y : Now Later (Far Later (min 0 (length log))) (step.run s es) =
          subst (λ (m : ℕ). Now Later (Far Later m) (step.run s es)) (omega arith) (restart (Unit {0}) ⊥ (Far Later 0) (step.run s es) e.ends z) in
          let f = rounds_far rs 0 (step.run s es) e.ends y r.1 in
          let m = min (length rs * max_batch + 0) (length log) in
          let far = f.steady.leads.3 in
          let much = far.1 in (
            f.abstract,
            f.related,
            same_log Later holder (Far Later m) (far_closed Later m (λ y. absurd y)) f.abstract f.kept f.steady far.0 (omega arith),
          )

    -- the primary's own log
    keeps : (es : List Event) (s : real.State) → Now First (Some First) s → every in_round es ≡ true → allowed_run s es ≡ true → Now First (Some First) (step.run s es)
    unfolding step.run allowed_run
    keeps [] s k q t = k
    keeps (e ∷ es) s k q t =
        let y = every_tail in_round e es q in
        keeps es (step.step s e)
        (next First (Some First) (some_closed First tt) s k e y.0 (and_left (allowed s e) (allowed_run (step.step s e) es) t)) y.1
        (and_right (allowed s e) (allowed_run (step.step s e) es) t)

    own-kept : (rs : List (List Event)) (s : real.State) → Now First (Some First) s → Rounds w.key a E s rs → Now First (Some First) (run_rounds s rs)
    own-kept [] s k r = k
    own-kept (es ∷ rs) s k r = own-kept rs (step.run s es) (keeps es s k r.0.kinds r.0.rules) r.1

-- ---- from the run's state

module _ (w : World) (s : real.State) (v : Invariant w s) where
  abbrev top : ℕ
  top = v.abstract.map.epoch

  -- a node's log, on either side
  log_of_lem : (t : real.State) (b : proto.State) → Sim w t b → (n : ℕ) → holds n w.holders ≡ true → log_of (t.nodes n) w.key ≡ (b.nodes n).replica.log
  unfolding log_of
  log_of_lem t b k n y =
      let r = (k.nodes n).here y in
      ap log_in (shard-found w b.map.epoch n (t.nodes n) (b.nodes n) (k.nodes n) r.0 r.1 r.2) ∙ ap (λ (z : ShardReplica). z.log) r.2.replica

  module _ (a E : ℕ) (l : Leads s w.key a E) (still : Still s) where
    abbrev log : Log
    log = log_of (s.nodes a) w.key

    found : (holds a w.holders ≡ true) × (x : Lead) × ((v.abstract.nodes a).role ≡ lead x) × (x.epoch ≡ E)
    found = shard_cases w top a (s.nodes a) (v.abstract.nodes a) (v.related.nodes a)
        (λ o. o ≡ some l.held → (holds a w.holders ≡ true) × (x : Lead) × ((v.abstract.nodes a).role ≡ lead x) × (x.epoch ≡ E)) w.key
        (λ e. none_some e)
        (λ y h is hs same e.
        let z : h ≡ l.held = some_same e in
        let r = leads w top a h.role h.replica h.peers (v.abstract.nodes a).role hs.role E (ap (λ (g : Held). leads_at g.role E) z ∙ l.role) in
        (y, r.0, r.1, r.3)) l.found

    mine : holds a w.holders ≡ true
    mine = found.0

    begins : (p : ℕ) (other : a ≡ p → ⊥) → Now (First w a E log mine p other) (Some (First w a E log mine p other)) s
    begins p other = record {
      abstract = forget v.abstract;
      related = forget_sim w s v.abstract v.related still;
      kept = forget_inv v.abstract v.kept;
      steady = record {
        log = sym (log_of_lem s v.abstract v.related a mine);
        epochs = λ m y.
            let r = (v.related.nodes m).here y in
            subst (λ (z : ShardReplica). z.epoch ≤ E) r.2.replica
            (l.highest m r.0 (shard-found w top m (s.nodes m) (v.abstract.nodes m) (v.related.nodes m) r.0 r.1 r.2));
        leads = (found.1, found.2, found.3, tt);
        asked = λ b q. tt;
        own = tt;
        told = tt;
      };
    }

    pub caught : (es : List Event) (rs : List (List Event)) → Rounds w.key a E s (es ∷ rs) → Enough (length log) (length rs)
        → CaughtUp s (run_rounds s (es ∷ rs)) w.key a
    caught es rs r enough p listed =
        let holder : holds p w.holders ≡ true = sym (holder_is w s v.abstract v.related p) ∙ listed in
        same_or (log_of ((run_rounds s (es ∷ rs)).nodes p) w.key ≡ log) a p
        (λ e. subst (λ (m : ℕ). log_of ((run_rounds s (es ∷ rs)).nodes m) w.key ≡ log) e
        (let ne : a ≡ suc a → ⊥ = (λ z. omega arith) in
        let k = own-kept w a E log mine (suc a) ne (es ∷ rs) s (begins (suc a) ne) r in
        log_of_lem (run_rounds s (es ∷ rs)) k.abstract k.related a mine ∙ k.steady.log))
        (λ ne. let k = peer_caught w a E log mine p ne holder es rs s still (begins p ne) r enough in
        log_of_lem (run_rounds s (es ∷ rs)) k.0 k.1 p holder ∙ k.2)

    -- no log has more than 1,024 entries
    pub few : length log ≤ max_entries
    few =
        let r = (v.related.nodes a).here mine in
        let z = (held_facts w top a (s.nodes a) (v.abstract.nodes a) (v.related.nodes a) r.0 r.1).log in
        let y : length log ≡ length r.0.replica.log =
        ap length (log_of_lem s v.abstract v.related a mine) ∙ ap (λ (z : ShardReplica). length z.log) (sym r.2.replica) in
        omega arith

-- request 2.13: in every run, from every fresh state
module _ (s₀ : real.State) (f : Fresh s₀) (before : List Event) (rules : allowed_run s₀ before ≡ true) where
  abbrev s : real.State
  s = step.run s₀ before

  abbrev k : Key
  k = f.shard.key

  pub caught_up_lem : (a e : ℕ) → Leads s k a e → Still s → (es : List Event) (rs : List (List Event)) → Rounds k a e s (es ∷ rs)
      → Enough (length (log_of (s.nodes a) k)) (length rs) → CaughtUp s (run_rounds s (es ∷ rs)) k a
  caught_up_lem a e l still es rs r enough = caught (world_of s₀ f) s (invariant s₀ f before rules) a e l still es rs r enough

  -- five rounds are enough for any log
  pub in_five : (a e : ℕ) → Leads s k a e → Still s → (r₁ r₂ r₃ r₄ r₅ : List Event) → Rounds k a e s (r₁ ∷ r₂ ∷ r₃ ∷ r₄ ∷ r₅ ∷ [])
      → CaughtUp s (run_rounds s (r₁ ∷ r₂ ∷ r₃ ∷ r₄ ∷ r₅ ∷ [])) k a
  in_five a e l still r₁ r₂ r₃ r₄ r₅ r =
      caught_up_lem a e l still r₁ (r₂ ∷ r₃ ∷ r₄ ∷ r₅ ∷ []) r (few (world_of s₀ f) s (invariant s₀ f before rules) a e l still)
