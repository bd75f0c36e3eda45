-- Request 2.13: the two kinds of a round. In the first the peer is asked to align, unless it is aligned; in every later one it is sent what
-- follows on its ack, unless nothing is left. Assumes nothing.
use Prim.Native.Nat.{ℕ, zero, suc, ◌+◌, ◌-◌, ◌*◌, ◌≤◌, min, max}
use mathlib.Core.Path.{◌≡◌, refl, sym, ap, ◌∙◌, subst}
use mathlib.Core.Bool.{Bool, true, false, cond}
use mathlib.Core.Logic.{◌⊎◌, inl, inr}
use mathlib.Core.List.{List, [], ◌∷◌, ◌++◌}
use mathlib.Core.Option.{Option, none, some}
use native.Mathlib.Omega.{arith}
use lib.Dec.{eqb}
use lib.ListN.{length}
use borrow.Author.Tests.{le-ltb}
use Rattle.spec.specs.Keys.{Key, same_key}
use Rattle.spec.specs.Limits.{max_entries, max_batch, max_time}
use Rattle.spec.specs.Lists.{nth, every, find}
use Rattle.spec.specs.Log.{Entry, Log, End, ShardReplica, store, store_all, entries_from}
use Rattle.spec.specs.Refusals.{no_room}
use Rattle.spec.specs.Map.Tables.{ShardInfo}
use Rattle.spec.specs.Map.Apply.{shard_at}
use Rattle.spec.specs.Map.Change.{holds}
use Rattle.spec.specs.Layout.Message.{Reply, reply_adopted, encode_reply}
use Rattle.spec.specs.Node.Held.{Held}
use Rattle.spec.specs.Node.Shards.{held_shard, of_node, leads_at}
use Rattle.spec.specs.Node.Backup.{replied}
use Rattle.spec.specs.Node.Ack.{Sent, sent_align, record_ack, deed_of, bad_reply}
use Rattle.spec.specs.Node.Worker.{step_row, request_held}
use Rattle.spec.specs.Node.Calls.{RequestAnswer, unsent, written, request_refused, written_in, request_of, call_request}
use Rattle.spec.specs.declared.Metric.{Metric}
use Rattle.spec.specs.declared.Metric.TheVariants.{Euclidean}
use Rattle.spec.specs.declared.Replica.{Replica}
use Rattle.spec_laws.proofs.Lists.{by-test, not_both, nth_lt}
use Rattle.spec_laws.proofs.Log.Numbered.{from_at}
use Rattle.spec_laws.proofs.Log.Store.{store_cases, push-length}
use Rattle.spec_laws.proofs.Wire.Messages.{reply-back}
use Rattle.spec_laws.proofs.Map.Orders.{same_key_lem, key-same}
use Rattle.spec_run.specs.State as real
use Rattle.spec_run.specs.Step as step
use Rattle.spec_run.specs.Rules.{allowed_run}
use Rattle.spec_run.specs.Event.{Event}
use Rattle.spec_run.specs.Fresh.{Fresh}
use Rattle.spec_run.specs.Claim.{log_in, log_of}
use Rattle.thm_run.proofs.Protocol.Base.{all-nth}
use Rattle.thm_run.proofs.Protocol.State as proto
use Rattle.thm_run.proofs.Protocol.State.{Lead, lead, Request, align, send, State, arrival}
use Rattle.thm_run.proofs.Protocol.Run as protocol
use Rattle.thm_run.proofs.Protocol.Run.{Inv}
use Rattle.thm_run.proofs.Simulation.Relation.{World, AlignSim, SendSim, RequestSim, RequestAt, Sim}
use Rattle.thm_run.proofs.Simulation.AtNode.{shard-found, held_facts, leads}
use Rattle.thm_run.proofs.Simulation.Work as work
use Rattle.thm_run.proofs.Demand3.{Invariant, world_of, invariant}
use Rattle.thm_rounds.specs.Rounds.{Leads, Still, holders_in, is_holder, in_round, room_for, steps_for, Round, Rounds, run_rounds, CaughtUp, Enough}
use Rattle.thm_rounds.proofs.Steady.{Scene, Steady, SteadyAt, Closed, steady_run, p-follows}
use Rattle.thm_rounds.proofs.Forget.{forget, forget_inv, forget_sim}
use Rattle.thm_rounds.proofs.Peer.{Follows, stored-all, follows, many, Some, some_closed, Far, far_closed, epoch-p, acked-p, no_longer, numbered-a, same_log}
use Rattle.thm_rounds.proofs.Calls as calls
use Rattle.thm_rounds.proofs.Follow.{Now, Counts, Kind, round}

-- entries of a log leave another within its length
stored-within : (es : Log) (r : ShardReplica) (e n : ℕ) → ((i : ℕ) (x : Entry) → nth es i ≡ some x → x.offset ≤ n) → length r.log ≤ n
    → length (store_all r e es).log ≤ n
unfolding store_all nth
stored-within [] r e n f le = le
stored-within (x ∷ xs) r e n f le =
    stored-within xs (store r e x).replica e n (λ i y q. f (suc i) y q)
    (store_cases (λ v. length v.replica.log ≤ n) r e x (λ p q. let z = push-length r x in let y = f 0 x refl in omega arith) (λ p q. le) (λ p q. le) (λ q. le))

module _ (c : Scene) (holder : holds c.p c.world.holders ≡ true) where
  abbrev w : World
  w = c.world

  abbrev a : ℕ
  a = c.a

  abbrev p : ℕ
  p = c.p

  abbrev E : ℕ
  E = c.E

  abbrev n : ℕ
  n = length c.log

  abbrev due : ℕ → Log
  due j = entries_from c.log (j + 1) max_batch

  abbrev asking : List ℕ → real.Request
  asking bytes = record { sent = step.sent_of bytes; key = w.key; epoch = E; bytes = bytes }

  -- ---- what a step of a's worker for p is

  -- an alignment, a batch, or nothing
  abbrev Aligns : real.Request → Type 0
  Aligns q = (end : ℕ) × (t : List End) × AlignSim w p q E end t

  data Asks (l : Lead) (r : RequestAnswer) : Type 0 where
    aligns : (bytes : List ℕ) → r ≡ written bytes → l.aligned p ≡ false → Aligns (asking bytes) → Asks l r
    sends : (bytes : List ℕ) → r ≡ written bytes → l.aligned p ≡ true → SendSim w p (asking bytes) E (due (l.acked p)) → Asks l r
    waits : l.aligned p ≡ true → due (l.acked p) ≡ [] → Asks l r

  module _ (K : Lead → Type 0) (s : real.State) (k : Now c K s) (metric : Metric) (room : ℕ) where
    abbrev l : Lead
    l = k.steady.leads.0

    abbrev top : ℕ
    top = k.abstract.map.epoch

    abbrev h : Held
    h = ((k.related.nodes a).here c.mine).0

    abbrev Named : RequestAnswer → Type 0
    Named = work.Named w s k.abstract k.related a w.key E p metric room h ((k.related.nodes a).here c.mine).1
        ((k.related.nodes a).here c.mine).2 refl l k.steady.leads.1
        (calls.ls w top a (s.nodes a) (k.abstract.nodes a) (k.related.nodes a) c.mine l k.steady.leads.1) k.steady.leads.2 c.mine holder

    named : Named (call_request (s.nodes a) room w.key E p metric)
    named =
        subst Named (sym (calls.called w top a (s.nodes a) (k.abstract.nodes a) (k.related.nodes a) c.mine l k.steady.leads.1 E p k.steady.leads.2 holder metric room))
        (work.steps w s k.abstract k.related a w.key E p metric room h ((k.related.nodes a).here c.mine).1
        ((k.related.nodes a).here c.mine).2 refl l k.steady.leads.1
        (calls.ls w top a (s.nodes a) (k.abstract.nodes a) (k.related.nodes a) c.mine l k.steady.leads.1) k.steady.leads.2 c.mine holder)

    log_is : h.replica.log ≡ c.log
    log_is = ap (λ (r : ShardReplica). r.log) ((k.related.nodes a).here c.mine).2.replica ∙ k.steady.log

    due-is : entries_from h.replica.log (l.acked p + 1) max_batch ≡ due (l.acked p)
    due-is = ap (λ (v : Log). entries_from v (l.acked p + 1) max_batch) log_is

    -- the primary's log is within its limit
    small : n ≤ max_entries
    small =
        let z = (held_facts w top a (s.nodes a) (k.abstract.nodes a) (k.related.nodes a) h ((k.related.nodes a).here c.mine).1).log in
        let y : length h.replica.log ≡ n = ap length log_is in
        omega arith

    asks : room_for room (request_of (s.nodes a) w.key E p metric) ≡ true → Asks l (call_request (s.nodes a) room w.key E p metric)
    asks fit = go (call_request (s.nodes a) room w.key E p metric) named
        (calls.fits w top a (s.nodes a) (k.abstract.nodes a) (k.related.nodes a) c.mine l k.steady.leads.1 E p k.steady.leads.2 holder metric room fit)
      where
        put : (r : RequestAnswer) (bytes : List ℕ) → r ≡ written bytes → (q : Request) → RequestSim w p (asking bytes) q
            → work.Asks w s k.abstract k.related a w.key E p metric room h ((k.related.nodes a).here c.mine).1
            ((k.related.nodes a).here c.mine).2 refl l k.steady.leads.1
            (calls.ls w top a (s.nodes a) (k.abstract.nodes a) (k.related.nodes a) c.mine l k.steady.leads.1) k.steady.leads.2 c.mine holder q
            → Asks l r
        put r bytes e (align d end t) like asked = aligns bytes e (asked (λ q. c.other (sym q))) (end, t, subst (λ (m : ℕ). AlignSim w p (asking bytes) m end t) (sym like.epoch) like)
        put r bytes e (send d es) like asked =
            sends bytes e asked.0
            (subst (λ (v : Log). SendSim w p (asking bytes) E v) (sym asked.1 ∙ due-is)
            (subst (λ (m : ℕ). SendSim w p (asking bytes) m es) (sym like.epoch) like))

        go : (r : RequestAnswer) → Named r → (r ≡ request_refused no_room → ⊥) → Asks l r
        go r (inl x) f = put r x.bytes x.written x.asked x.like x.asks
        go r (inr (inl x)) f = waits x.1 (sym due-is ∙ x.2)
        go r (inr (inr x)) f = absurd (f x)

  -- ---- the first round

  module _ (yes : c.Aligning) where
    first-asks : (s : real.State) (k : Now c (Some c) s) (metric : Metric) (room : ℕ) → room_for room (request_of (s.nodes a) w.key E p metric) ≡ true
        → Far c 0 k.steady.leads.0 ⊎ ((bytes : List ℕ) × (call_request (s.nodes a) room w.key E p metric ≡ written bytes)
        × (j : ℕ) × Some c k.steady.leads.0 × Aligns (asking bytes))
    first-asks s k metric room fit = go (asks (Some c) s k metric room fit)
      where
        go : Asks k.steady.leads.0 (call_request (s.nodes a) room w.key E p metric)
            → Far c 0 k.steady.leads.0 ⊎ ((bytes : List ℕ) × (call_request (s.nodes a) room w.key E p metric ≡ written bytes)
            × (j : ℕ) × Some c k.steady.leads.0 × Aligns (asking bytes))
        go (aligns bytes e u x) = inr (bytes, e, 0, tt, x)
        go (sends bytes e u x) = inl (u, omega arith)
        go (waits u x) = inl (u, omega arith)

    first-answers : (s : real.State) (j : ℕ) (k : Now c (Some c) s) (i : ℕ) (q : real.Request) → nth (s.requests a p) i ≡ some q → Aligns q
        → (v : Reply) × ((step.heard (s.nodes p) q.sent q.bytes).answer ≡ replied v)
        × Counts c true 0 (record { node = a; peer = p; sent = q.sent; key = q.key; epoch = q.epoch; bytes = encode_reply v })
    unfolding bad_reply deed_of
    first-answers s j k i q found x =
        let sim = x.2 in
        let r = calls.adopts w k.abstract.map.epoch p (s.nodes p) (k.abstract.nodes p) (k.related.nodes p) q E x.0 x.1 sim
        (k.steady.epochs p holder) (follows-p (proto.leads_from (k.abstract.nodes p).role E) refl) in
        let u = r.0 in
        let le = r.2 in (
          reply_adopted u,
          r.1,
          record {
            node = refl;
            peer = refl;
            key = sim.key;
            epoch = sim.epoch;
            reply = reply_adopted u;
            decoded = reply-back (reply_adopted u) (omega arith);
            plain = le-ltb max_time u (omega arith);
            upto = u;
            deed = ap (λ (z : Sent). deed_of z (reply_adopted u) E) sim.sent;
            enough = λ e. not_both true refl e;
          },
        )
      where
        follows-p : (t : Bool) → proto.leads_from (k.abstract.nodes p).role E ≡ t → t ≡ false
        follows-p false e = refl
        follows-p true e = absurd (p-follows c (Some c) (some_closed c yes) k.abstract k.kept k.steady holder E refl e)

    first_kind : Kind c
    first_kind = record {
      Before = Some c;
      before = some_closed c yes;
      During = λ j. Some c;
      during = λ j. some_closed c yes;
      weaker = λ j l x. x;
      by = true;
      goal = 0;
      after = far_closed c 0 (λ _. refl);
      tied = λ e. not_both true refl e;
      none = λ _. refl;
      Asked = λ j. Aligns;
      asks = first-asks;
      answers = first-answers;
    }

    -- it leaves the peer aligned
    pub first_round : (es : List Event) (s : real.State) → Now c (Some c) s → every in_round es ≡ true → allowed_run s es ≡ true
        → steps_for w.key a E p s es ≡ true → Still (step.run s es) → Now c (Far c 0) (step.run s es)
    unfolding first_kind
    first_round = round c holder first_kind

  -- ---- a later one

  module _ (not_yet : c.Aligning → ⊥) (g : ℕ) where
    abbrev low : ℕ
    low = min g n

    abbrev goal : ℕ
    goal = min (max_batch + g) n

    closed : (m : ℕ) → Closed c (Far c m)
    closed m = far_closed c m (λ y. absurd (not_yet y))

    -- a batch that follows on j entries, all of them the primary's, and brings the goal
    pub record Sends (j : ℕ) (q : real.Request) : Type 0 where
      pub entries : Log
      pub like : SendSim w p q E entries
      pub follows : Follows j entries
      pub within : (i : ℕ) (x : Entry) → nth entries i ≡ some x → x.offset ≤ n
      pub enough : goal ≤ j + length entries

    abbrev During : ℕ → Lead → Type 0
    During j = Far c (max j low)

    later_asks : (s : real.State) (k : Now c (Far c low) s) (metric : Metric) (room : ℕ) → room_for room (request_of (s.nodes a) w.key E p metric) ≡ true
        → Far c goal k.steady.leads.0 ⊎ ((bytes : List ℕ) × (call_request (s.nodes a) room w.key E p metric ≡ written bytes)
        × (j : ℕ) × During j k.steady.leads.0 × Sends j (asking bytes))
    later_asks s k metric room fit = go (asks (Far c low) s k metric room fit)
      where
        low-j : min g n ≤ k.steady.leads.0.acked p
        low-j = k.steady.leads.3.1

        counted : length (due (k.steady.leads.0.acked p)) ≡ min max_batch (n - k.steady.leads.0.acked p)
        counted = many c.log (k.steady.leads.0.acked p) max_batch

        go : Asks k.steady.leads.0 (call_request (s.nodes a) room w.key E p metric)
            → Far c goal k.steady.leads.0 ⊎ ((bytes : List ℕ) × (call_request (s.nodes a) room w.key E p metric ≡ written bytes)
            × (j : ℕ) × During j k.steady.leads.0 × Sends j (asking bytes))
        go (aligns bytes e u x) = not_both (k.steady.leads.0.aligned p) k.steady.leads.3.0 u
        go (sends bytes e u x) =
            let j = k.steady.leads.0.acked p in
            let num = numbered-a c holder (Far c low) (closed low) k.abstract k.kept k.steady in
            let y = low-j in
            let z = counted in
            inr (
              bytes,
              e,
              j,
              (u, omega arith),
              record {
                entries = due j;
                like = x;
                follows = follows c.log j max_batch num;
                within = λ i x q.
                    let f = (from_at c.log (j + 1) max_batch i x q).1 in
                    let v = num (max (j + 1) 1 - 1 + i) x f in
                    let lt = nth_lt c.log (max (j + 1) 1 - 1 + i) x f in
                    omega arith;
                enough = omega arith;
              },
            )
        go (waits u x) =
            let y = low-j in
            let z = counted in
            let e : length (due (k.steady.leads.0.acked p)) ≡ 0 = ap length x in
            inl (u, omega arith)

    later_answers : (s : real.State) (j : ℕ) (k : Now c (During j) s) (i : ℕ) (q : real.Request) → nth (s.requests a p) i ≡ some q → Sends j q
        → (v : Reply) × ((step.heard (s.nodes p) q.sent q.bytes).answer ≡ replied v)
        × Counts c false goal (record { node = a; peer = p; sent = q.sent; key = q.key; epoch = q.epoch; bytes = encode_reply v })
    later_answers s j k i q found x =
        let K = During j in
        let cl = closed (max j low) in
        let b = k.abstract.nodes p in
        let es = x.entries in
        let tied = k.steady.leads.3.0 in
        let own = epoch-p c holder K cl k.abstract k.kept k.steady tied in
        let much = acked-p c holder K cl k.abstract k.kept k.steady tied in
        let far = k.steady.leads.3.1 in
        let fits : length (store_all b.replica E es).log ≤ n =
        stored-within es b.replica E n x.within (no_longer c holder K cl k.abstract k.kept k.steady own) in
        let lim = small K s k Euclidean 0 in
        let all : j + length es ≤ length (store_all b.replica E es).log =
        stored-all es b.replica E j (sym own) x.follows (omega arith) in
        let r = calls.stores w k.abstract.map.epoch p (s.nodes p) b (k.related.nodes p) q E es x.like (sym own) (omega arith) in
        let z = x.enough in (
          r.0,
          r.1,
          record {
            node = refl;
            peer = refl;
            key = x.like.key;
            epoch = x.like.epoch;
            reply = r.0;
            decoded = reply-back r.0 r.2.good;
            plain = r.2.plain;
            upto = length (store_all b.replica E es).log;
            deed = r.2.deed;
            enough = λ _. omega arith;
          },
        )

    later_kind : Kind c
    later_kind = record {
      Before = Far c low;
      before = closed low;
      During = During;
      during = λ j. closed (max j low);
      weaker = λ j l x. (x.0, let z = x.1 in omega arith);
      by = false;
      goal = goal;
      after = closed goal;
      tied = λ e l x. x.0;
      none = λ e. not_both true refl (sym e);
      Asked = Sends;
      asks = later_asks;
      answers = later_answers;
    }

    -- it brings a batch, or all that is left
    pub later_round : (es : List Event) (s : real.State) → Now c (Far c low) s → every in_round es ≡ true → allowed_run s es ≡ true
        → steps_for w.key a E p s es ≡ true → Still (step.run s es) → Now c (Far c goal) (step.run s es)
    unfolding later_kind
    later_round = round c holder later_kind
