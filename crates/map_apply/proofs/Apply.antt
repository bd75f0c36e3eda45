-- The ways of a request through `apply`, on the code's map. Assumes nothing.
use Prim.Native.Nat.{ℕ, ◌≤◌, ◌<◌}
use mathlib.Core.Path.{◌≡◌, refl, sym, ap, ◌∙◌, subst}
use mathlib.Core.Bool.{Bool, true, cond}
use mathlib.Core.List.{List, []}
use mathlib.Core.Option.{Option, none, some}
use native.Mathlib.Omega.{arith}
use lib.ListN.{length}
use Rattle.spec.specs.Lists.{put}
use Rattle.spec.specs.Keys as keys
use Rattle.spec.specs.Limits.{max_clients}
use Rattle.spec.specs.Refusals.{Rejection, Refusal}
use Rattle.spec.specs.Map.Tables as tables
use Rattle.spec.specs.Map.Tables.{Session, Map, Answer, outcome, refused}
use Rattle.spec.specs.Map.Change.{accepts, rejects}
use Rattle.spec.specs.Map.Apply as model
use Rattle.spec.specs.Map.Apply.{apply, settle, decide, commit, remembered, sets_version, session_at, session_below}
use Rattle.spec.specs.Map.WellFormed.{well_formed_map, command_fits}
use Rattle.spec.specs.Layout.Request as request
use Rattle.spec_laws.proofs.Lists.{none_some}
use Rattle.spec_laws.proofs.Map.Sessions.{own-session}
use Rattle.spec_laws.proofs.Map.WellFormed.{map-parts, stays_well_formed}
use Rattle.map_tables.specs.Counted.{TablesCounted}
use Rattle.map_tables.specs.Names.{view_key}
use Rattle.map_tables.specs.View.{answer_of, outcome_of, view_map, view_sessions, view_command, view_request, command_in, session_of}
use Rattle.map_tables.specs.declared.Command.{Command}
use Rattle.map_tables.specs.declared.Command.TheVariants.{Create, Drop, Register, MarkNodeDead, OfShard, Bench}
use Rattle.map_tables.specs.declared.Outcome.{Outcome}
use Rattle.map_tables.specs.declared.Request.{Request}
use Rattle.map_tables.specs.declared.ShardKey.{ShardKey}
use Rattle.map_tables.specs.declared.ShardMap.{ShardMap}
use Rattle.map_tables.specs.declared.Verdict.{Verdict}
use Rattle.map_apply.specs.Decided.{Decided}
use Rattle.map_apply.specs.Applied.{Settleable, DecidedNow, Unseen, SettledAs}
use Rattle.map_apply.specs.declared.Settled.{Settled}

-- the bytes of a Bench change neither whether a command is within its limits nor whether it sets the version
module _ (k : keys.Key) (a : keys.Name) (p : List (List ℕ)) (bs : List ℕ) where
  same-fits : (c : Command) → command_fits (command_in c k a p bs) ≡ command_fits (command_in c k a p [])
  unfolding command_fits
  same-fits (Create s) = refl
  same-fits Drop = refl
  same-fits (Register n i) = refl
  same-fits (MarkNodeDead n i) = refl
  same-fits (OfShard c e) = refl
  same-fits Bench = refl

  same_version : (c : Command) → sets_version (command_in c k a p bs) ≡ sets_version (command_in c k a p [])
  same_version (Create s) = refl
  same_version Drop = refl
  same_version (Register n i) = refl
  same_version (MarkNodeDead n i) = refl
  same_version (OfShard c e) = refl
  same_version Bench = refl

pub fits_all : (r : Request) (bs : List ℕ) → command_fits (view_command r []) ≡ true → command_fits (view_command r bs) ≡ true
fits_all r bs h = same-fits _ _ _ bs r.command ∙ h

-- the answer of a command that is decided now
pub settle-answer : (m : Map) (r : request.Request) (a : Answer) → (settle m r a).answer ≡ a
unfolding settle
settle-answer m r (outcome tables.applied) = refl
settle-answer m r (outcome (tables.rejected why)) = refl
settle-answer m r (refused why) = refl

-- ---- a request that is decided now changes the map, unless it is refused

abbrev seq_of : Option Session → ℕ
seq_of none = 0
seq_of (some x) = x.seq

pub unseen_new : (m : ShardMap) (r : Request) → session_at (view_map m).sessions r.client ≡ none → Unseen m r
unseen_new m r a x e q = none_some (sym a ∙ e)

pub unseen_later : (m : ShardMap) (r : Request) (y : Session) → session_at (view_map m).sessions r.client ≡ some y → y.seq < r.seq → Unseen m r
unseen_later m r y a h x e q =
    let k : x.seq ≡ y.seq = ap seq_of (sym e ∙ a) in
    omega arith

settled-session : (m : Map) (r : request.Request) (o : tables.Outcome)
    → session_at (settle m r (outcome o)).map.sessions r.client ≡ some (record { client = r.client; seq = r.seq; outcome = o })
unfolding settle
settled-session m r tables.applied = own-session r (commit m r.command) tables.applied (cond (sets_version r.command) r.index m.version)
settled-session m r (tables.rejected why) = own-session r m (tables.rejected why) m.version

pub changes : (m : ShardMap) (r : Request) (o : tables.Outcome) (bs : List ℕ) → Unseen m r
    → (settle (view_map m) (view_request r bs) (outcome o)).map ≡ view_map m → ⊥
changes m r o bs new e =
    new _ (sym (ap (λ (n : Map). session_at n.sessions r.client) e) ∙ settled-session (view_map m) (view_request r bs) o) refl

module _ (m : Map) (r : request.Request) (w : well_formed_map m ≡ true) (h : command_fits r.command ≡ true) (way : apply m r ≡ settle m r (decide m r.command)) where
  -- there is a place for what is remembered
  place : (a : Answer) → decide m r.command ≡ a → length (settle m r a).map.sessions ≤ max_clients
  place a e =
      subst (λ (v : model.Applied). length v.map.sessions ≤ max_clients) (way ∙ ap (settle m r) e) (map-parts (apply m r).map (stays_well_formed m r w h)).3.0

module _ (m : ShardMap) (r : Request) (s : Settleable m r) (decided : DecidedNow m r) where
  -- the answer that was decided, and the map that it comes to
  module _ (o : Settled) (a : Answer) (d : Decided m r o.verdict) (e : answer_of o.verdict ≡ a) where
    way : (bs : List ℕ) → apply (view_map m) (view_request r bs) ≡ settle (view_map m) (view_request r bs) a
    way bs = decided bs ∙ ap (settle (view_map m) (view_request r bs)) (sym (d.answer bs) ∙ e)

    pub settled : ((bs : List ℕ) → view_map o.map ≡ (settle (view_map m) (view_request r bs) a).map)
        → ((bs : List ℕ) → (settle (view_map m) (view_request r bs) a).map ≡ view_map m → o.map ≡ m) → TablesCounted o.map → SettledAs m r o
    settled f stays k =
        let same : (bs : List ℕ) → view_map o.map ≡ (apply (view_map m) (view_request r bs)).map = λ bs. f bs ∙ ap (λ (v : model.Applied). v.map) (sym (way bs)) in
        record {
          answer = λ bs. e ∙ sym (settle-answer (view_map m) (view_request r bs) a) ∙ ap (λ (v : model.Applied). v.answer) (sym (way bs));
          map = same;
          kept = λ bs q. stays bs (ap (λ (v : model.Applied). v.map) (sym (way bs)) ∙ q);
          counted = k;
          formed = subst (λ (v : Map). well_formed_map v ≡ true) (sym (same [])) (stays_well_formed (view_map m) (view_request r []) s.formed s.within);
        }

  module _ (v : Verdict) (d : Decided m r v) where
    -- applied: committed and remembered
    module _ (q : Outcome) (k : ShardKey) (e : answer_of v ≡ accepts) (p : outcome_of q (view_key k) ≡ tables.applied) (done : ShardMap) where
      pub applied-place : view_map done ≡ commit (view_map m) (view_command r [])
          → length (put session_below (session_of r q k) (view_sessions done.sessions)) ≤ 64
      unfolding settle remembered
      applied-place f =
          subst (λ (x : tables.Outcome). length (put session_below (record { client = r.client; seq = r.seq; outcome = x }) (view_sessions done.sessions)) ≤ 64) (sym p)
          (subst (λ (x : Map). length (put session_below (record { client = r.client; seq = r.seq; outcome = tables.applied }) x.sessions) ≤ 64) (sym f)
          (place (view_map m) (view_request r []) s.formed s.within (decided []) accepts (sym (d.answer []) ∙ e)))

      pub applied-map : (n : ShardMap) (version : ℕ) (bs : List ℕ) → view_map n ≡ remembered (view_map done) (view_request r []) (outcome_of q (view_key k)) version
          → view_map done ≡ commit (view_map m) (view_command r bs) → version ≡ cond (sets_version (view_command r [])) r.index m.version
          → view_map n ≡ (settle (view_map m) (view_request r bs) accepts).map
      unfolding settle remembered
      applied-map n version bs g f h =
          g ∙ ap (λ (x : Map). remembered x (view_request r []) (outcome_of q (view_key k)) version) f
          ∙ ap (λ (x : tables.Outcome). remembered (commit (view_map m) (view_command r bs)) (view_request r []) x version) p
          ∙ ap (λ (x : ℕ). remembered (commit (view_map m) (view_command r bs)) (view_request r []) tables.applied x)
          (h ∙ ap (λ (x : Bool). cond x r.index m.version) (sym (same_version _ _ _ bs r.command)))

    -- rejected: remembered
    module _ (q : Outcome) (k : ShardKey) (why : Rejection) (e : answer_of v ≡ rejects why) (p : outcome_of q (view_key k) ≡ tables.rejected why) where
      pub rejected_place : length (put session_below (session_of r q k) (view_sessions m.sessions)) ≤ 64
      unfolding settle remembered
      rejected_place =
          subst (λ (x : tables.Outcome). length (put session_below (record { client = r.client; seq = r.seq; outcome = x }) (view_sessions m.sessions)) ≤ 64) (sym p)
          (place (view_map m) (view_request r []) s.formed s.within (decided []) (rejects why) (sym (d.answer []) ∙ e))

      pub rejected_map : (n : ShardMap) (bs : List ℕ) → view_map n ≡ remembered (view_map m) (view_request r []) (outcome_of q (view_key k)) m.version
          → view_map n ≡ (settle (view_map m) (view_request r bs) (rejects why)).map
      unfolding settle remembered
      rejected_map n bs g = g ∙ ap (λ (x : tables.Outcome). remembered (view_map m) (view_request r []) x m.version) p

-- a refusal changes nothing
pub refused-map : (m : Map) (r : request.Request) (why : Refusal) → m ≡ (settle m r (refused why)).map
unfolding settle
refused-map m r why = refl

-- a request that is not decided now: the map as it was
pub kept : (m : ShardMap) (r : Request) (s : Settleable m r) (v : Verdict) (a : Answer) → answer_of v ≡ a
    → ((bs : List ℕ) → apply (view_map m) (view_request r bs) ≡ record { answer = a; map = view_map m })
    → SettledAs m r (record { verdict = v; map = m })
kept m r s v a e way =
    record {
      answer = λ bs. e ∙ ap (λ (x : model.Applied). x.answer) (sym (way bs));
      map = λ bs. ap (λ (x : model.Applied). x.map) (sym (way bs));
      kept = λ bs q. refl;
      counted = s.counted;
      formed = s.formed;
    }
