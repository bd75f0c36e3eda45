-- Every run that keeps the paper's rules to the letter is one that Rules.antt of spec_run allows, and so demand 3 and request 2.5 hold of it. Assumes
-- nothing.
use Prim.Native.Nat.{ℕ, ◌≤◌}
use mathlib.Core.Path.{◌≡◌, refl, sym, ap, subst, ◌∙◌}
use mathlib.Core.Bool.{true, false}
use mathlib.Core.Logic.{inl}
use mathlib.Core.List.{List, [], ◌∷◌, map}
use mathlib.Core.Option.{Option, none, some}
use lib.Dec.{eqb, ltb}
use borrow.Author.Tests.{eqb-true, leb-true}
use Rattle.spec.specs.Limits.{max_u64}
use Rattle.spec.specs.Lists.{◌and◌, nth}
use Rattle.spec.specs.Map.Tables.{Map}
use Rattle.spec.specs.Map.Apply.{session_at}
use Rattle.spec.specs.Map.Calls.{apply_bytes, apply_decoded, apply_call}
use Rattle.spec.specs.Layout.Request as layout
use Rattle.spec.specs.Layout.Request.{decode_request}
use Rattle.spec_laws.proofs.Lists.{not_both, and_true, and_left, and_right}
use Rattle.spec_run.specs.State as real
use Rattle.spec_run.specs.State.{Offer, Request, set_map, set_offers}
use Rattle.spec_run.specs.Step as step
use Rattle.spec_run.specs.Step.{removed, unawaited}
use Rattle.spec_run.specs.Rules as rules
use Rattle.spec_run.specs.Rules.{is_bytes, is_u64, is_promote, not_last, fresh_seq, allowed, allowed_run}
use Rattle.spec_run.specs.Fresh.{Fresh}
use Rattle.spec_run.specs.Claim.{Durable, Alike, Written}
use Rattle.spec_run.specs.Paper.{Turn, Commanded, History, Seqs, Rising, before, fresh_history, promoted, taken, made, remember, no_nodes, own_of, promotes, proposes, paper, paper_run}
use Rattle.spec_run.specs.Event.{
  Event,
  command,
  map_shown,
  lease_granted,
  client_writes,
  client_searches,
  node_waits,
  worker_steps,
  request_arrives,
  request_lost,
  request_repeats,
  reply_arrives,
  reply_lost,
  reply_repeats,
  offer_arrives,
  offer_lost,
  offer_times_out,
  outcome_arrives,
  outcome_lost,
  outcome_times_out,
}
use Rattle.thm_run.proofs.Protocol.State as proto
use Rattle.thm_run.proofs.Simulation.Relation.{World, Sim}
use Rattle.thm_run.proofs.Simulation.Commands as commands
use Rattle.thm_run.proofs.Simulation.Start.{start, at-start}
use Rattle.thm_run.proofs.Simulation.Steps.{on-event}
use Rattle.thm_run.proofs.Demand3.{world_of, durable}
use Rattle.thm_run.proofs.Entries.{alike, written}
use Rattle.thm_run.proofs.Paper.Turns.{Known}
use Rattle.thm_run.proofs.Paper.Kept.{Inv, unused, promoted-known, taken-known, taken-counted, quiet, makes, renamed}
use Rattle.thm_run.proofs.Paper.Turns as turns
use Rattle.thm_run.proofs.Paper.Events as events
use Rattle.thm_run.proofs.Paper.Events.{Same}

module _ (q : Seqs) (rising : Rising q) (w : World) (s : real.State) (a : proto.State) (k : Sim w s a) (h : History)
    (v : Inv q s.map.sessions s.offers h.commanded) where
  abbrev c : Commanded
  c = h.commanded

  -- ---- Promote

  promotes-only : (o : Option layout.Request) → promotes c o ≡ true → rules.promotes o ≡ true
  promotes-only none p = refl
  promotes-only (some r) p = and_left (is_promote r.command) (ltb c.index r.index and no_nodes (c.senders r.client)) p

  -- ---- a proposal that arrives

  -- what the rule says of it
  record Arrives (i index seq : ℕ) : Type 0 where
    offer : Offer
    turn : Turn
    found : nth s.offers i ≡ some offer
    at : nth c.turns i ≡ some turn
    own : own_of offer.node (c.senders (s.clients offer.node)) ≡ true
    same : seq ≡ q offer.node turn.turn
    small : index ≤ max_u64
    less : seq ≤ max_u64

  arriving : (i index seq : ℕ)
      → is_u64 index and is_u64 seq and proposes q s c index seq (nth s.offers i) (nth c.turns i) ≡ true → Arrives i index seq
  unfolding is_u64
  arriving i index seq t = go (nth s.offers i) (nth c.turns i) refl refl (and_right (is_u64 seq) _ (and_right (is_u64 index) _ t))
    where
      go : (o : Option Offer) (u : Option Turn) → nth s.offers i ≡ o → nth c.turns i ≡ u → proposes q s c index seq o u ≡ true
          → Arrives i index seq
      go none u e f p = not_both false p refl
      go (some o) none e f p = not_both false p refl
      go (some o) (some u) e f p =
          let own = own_of o.node (c.senders (s.clients o.node)) in
          let rest = and_right (ltb c.index index) (own and eqb seq (q o.node u.turn)) p in
          record {
            offer = o;
            turn = u;
            found = e;
            at = f;
            own = and_left own (eqb seq (q o.node u.turn)) rest;
            same = eqb-true seq (q o.node u.turn) (and_right own (eqb seq (q o.node u.turn)) rest);
            small = leb-true index max_u64 (and_left (is_u64 index) _ t);
            less = leb-true seq max_u64 (and_left (is_u64 seq) _ (and_right (is_u64 index) _ t));
          }

  module _ (i index seq : ℕ) (z : Arrives i index seq) where
    abbrev o : Offer
    o = z.offer

    fresh : not_last (session_at s.map.sessions (s.clients o.node)) seq ≡ true
    fresh =
        subst (λ (n : ℕ). not_last (session_at s.map.sessions (s.clients o.node)) n ≡ true) (sym z.same)
        (unused q rising s.map.sessions s.offers c v.counted v.known i (s.clients o.node) o z.turn z.found z.at z.own)

    abbrev r : layout.Request
    r = record { index = index; client = s.clients o.node; seq = seq; command = step.command_of o o.what }

    applied : apply_bytes s.map (step.offer_bytes s o index seq) ≡ apply_call s.map r
    unfolding apply_bytes apply_decoded
    applied = ap (apply_decoded s.map) (commands.decoded w s a k i o z.found index seq z.small z.less fresh)

    offer_kept : Inv q (step.offered s i index seq (some o)).map.sessions (step.offered s i index seq (some o)).offers (taken s c i index (some o))
    unfolding step.offered set_offers set_map
    offer_kept =
        let y = apply_bytes s.map (step.offer_bytes s o index seq) in
        let t = set_offers (set_map s y.map) (removed s.offers i) in
        let e = events.told_same t o (step.is_applied y.answer) in
        quiet q t (step.told t o (step.is_applied y.answer)) (taken s c i index (some o)) e.map e.offers
        (record {
          counted = taken-counted q s.map r s.offers c v.counted v.known i o z.turn z.found z.at z.own z.same;
          known =
              subst (λ (m : Map). Known q m.sessions (taken s c i index (some o))) (ap (λ x. x.map) (sym applied))
              (taken-known q s.map r s.offers c v.counted v.known i o z.turn z.found z.at z.own z.same);
        })

  -- ---- every event

  may : (e : Event) → paper q s h e ≡ true → allowed s e ≡ true
  unfolding paper allowed fresh_seq
  may (command bytes) t =
      and_true (is_bytes bytes) (rules.promotes (decode_request bytes)) (and_left (is_bytes bytes) (promotes c (decode_request bytes)) t)
      (promotes-only (decode_request bytes) (and_right (is_bytes bytes) (promotes c (decode_request bytes)) t))
  may (map_shown n under) t = refl
  may (lease_granted n i sent lease) t = refl
  may (client_writes n now least bytes) t = t
  may (client_searches n now room bytes) t = t
  may (node_waits i now timeout) t = refl
  may (worker_steps n key epoch peer metric room) t = refl
  may (request_arrives from to i) t = refl
  may (request_lost from to i) t = refl
  may (request_repeats from to i) t = refl
  may (reply_arrives i) t = refl
  may (reply_lost i) t = refl
  may (reply_repeats i) t = refl
  may (offer_arrives i index seq) t =
      let z = arriving i index seq t in
      let f : fresh_seq s seq (nth s.offers i) ≡ true = ap (fresh_seq s seq) z.found ∙ fresh i index seq z in
      let p = proposes q s c index seq (nth s.offers i) (nth c.turns i) in
      and_true (is_u64 index) (is_u64 seq and fresh_seq s seq (nth s.offers i)) (and_left (is_u64 index) (is_u64 seq and p) t)
      (and_true (is_u64 seq) (fresh_seq s seq (nth s.offers i)) (and_left (is_u64 seq) p (and_right (is_u64 index) (is_u64 seq and p) t)) f)
  may (offer_lost i) t = refl
  may (offer_times_out i) t = refl
  may (outcome_arrives i) t = refl
  may (outcome_lost i) t = refl
  may (outcome_times_out i) t = refl

  abbrev After : real.State → History → Type 0
  After s' h' = Inv q s'.map.sessions s'.offers h'.commanded

  stays : (s' : real.State) → Same s s' → Inv q s'.map.sessions s'.offers c
  stays s' e = quiet q s s' c e.map e.offers v

  command_kept : (bytes : List ℕ) → promotes c (decode_request bytes) ≡ true → After (step.on_command s bytes) (remember s h (command bytes))
  unfolding step.on_command set_map apply_bytes apply_decoded remember
  command_kept bytes t = go (decode_request bytes) t
    where
      go : (o : Option layout.Request) → promotes c o ≡ true
          → Inv q (apply_decoded s.map o).map.sessions s.offers (promoted c o)
      go none p = not_both false p refl
      go (some r) p = record {
        counted = let g = v.counted in record { beside = g.beside; below = g.below; apart = g.apart };
        known = promoted-known q s.map r c v.known;
      }

  late-kept : (i : ℕ) → Inv q (step.on_offer_timeout s i).map.sessions (step.on_offer_timeout s i).offers c
  unfolding step.on_offer_timeout step.given_up set_offers
  late-kept i = go (nth s.offers i) refl
    where
      go : (o : Option Offer) → nth s.offers i ≡ o → Inv q (step.given_up s i o).map.sessions (step.given_up s i o).offers c
      go none e = v
      go (some o) e = record {
        counted = renamed q s.offers c i o (unawaited o) e refl v.counted;
        known = subst (λ (m : Map). Known q m.sessions c) (sym (events.told_same s o false).map) v.known;
      }

  kept : (e : Event) → paper q s h e ≡ true → After (step.step s e) (remember s h e)
  unfolding paper step.step step.on_offer remember made
  kept (command bytes) t = command_kept bytes (and_right (is_bytes bytes) (promotes c (decode_request bytes)) t)
  kept (map_shown n under) t = stays _ (events.shown-same s n under)
  kept (lease_granted n i sent lease) t = stays _ (events.grant-same s n i sent lease)
  kept (client_writes n now least bytes) t = stays _ (events.write_same s n now least bytes)
  kept (client_searches n now room bytes) t = stays _ (events.search_same s n now room bytes)
  kept (node_waits i now timeout) t =
      let e = events.wait_more s i now timeout in makes q s (step.on_wait s i now timeout) c e.new e.map e.offers v
  kept (worker_steps n key epoch peer metric room) t = stays _ (events.work_same s n key epoch peer metric room)
  kept (request_arrives from to i) t = stays _ (events.arrival-same s from to i)
  kept (request_lost from to i) t = stays _ (events.request_lost_same s from to i)
  kept (request_repeats from to i) t = stays _ (events.request_again_same s from to i)
  kept (reply_arrives i) t = let e = events.reply-more s i in makes q s (step.on_reply s i) c e.new e.map e.offers v
  kept (reply_lost i) t = stays _ (events.reply_lost_same s i)
  kept (reply_repeats i) t = stays _ (events.reply_again_same s i)
  kept (offer_arrives i index seq) t =
      let z = arriving i index seq t in
      subst (λ (o : Option Offer). Inv q (step.offered s i index seq o).map.sessions (step.offered s i index seq o).offers (taken s c i index o))
      (sym z.found) (offer_kept i index seq z)
  kept (offer_lost i) t = unfold step.on_offer_lost in unfold set_offers in record {
    counted = turns.gone-counted q s.offers c i v.counted;
    known = turns.gone-known q s.map.sessions c i v.known;
  }
  kept (offer_times_out i) t = late-kept i
  kept (outcome_arrives i) t = stays _ (events.outcome-same s i)
  kept (outcome_lost i) t = stays _ (events.outcome_lost_same s i)
  kept (outcome_times_out i) t = stays _ (events.outcome_late_same s i)

-- ---- the run

runs : (q : Seqs) → Rising q → (w : World) (s : real.State) (a : proto.State) → Sim w s a → (h : History)
    → Inv q s.map.sessions s.offers h.commanded → (es : List Event) → paper_run q s h es ≡ true → allowed_run s es ≡ true
unfolding paper_run allowed_run
runs q rising w s a k h v [] t = refl
runs q rising w s a k h v (e ∷ es) t =
    let p = and_left (paper q s h e) (paper_run q (step.step s e) (remember s h e) es) t in
    let m = may q rising w s a k h v e p in
    let r = on-event w s a k e m in
    and_true (allowed s e) (allowed_run (step.step s e) es) m
    (runs q rising w (step.step s e) (proto.run a r.0) r.1 (remember s h e) (kept q rising w s a k h v e p) es
    (and_right (paper q s h e) (paper_run q (step.step s e) (remember s h e) es) t))

module _ (q : Seqs) (rising : Rising q) (s : real.State) (f : Fresh s) where
  -- nothing has been proposed, and what the map remembers was sent by others
  first : Inv q s.map.sessions s.offers (fresh_history s f.shard).commanded
  unfolding fresh_history
  first = record {
    counted = record { beside = ap (map turns.offer_node) f.offers; below = tt; apart = tt };
    known = λ client x e. inl (ap before e);
  }

  -- every run of the paper is one that the rules allow
  pub paper-allowed : (es : List Event) → paper_run q s (fresh_history s f.shard) es ≡ true → allowed_run s es ≡ true
  paper-allowed es t =
      runs q rising (world_of s f) s (start s.map f.shard f.created) (at-start s f) (fresh_history s f.shard) first es t

  -- so demand 3 holds of it
  pub paper_durable : (es : List Event) → paper_run q s (fresh_history s f.shard) es ≡ true → Durable (step.run s es)
  paper_durable es t = durable s f es (paper-allowed es t)

  -- and request 2.5
  pub paper_alike : (es : List Event) → paper_run q s (fresh_history s f.shard) es ≡ true → Alike (step.run s es)
  paper_alike es t = alike s f es (paper-allowed es t)

  pub paper-written : (es : List Event) → paper_run q s (fresh_history s f.shard) es ≡ true → Written (step.run s es)
  paper-written es t = written s f es (paper-allowed es t)
