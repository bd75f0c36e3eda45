-- Paper 01, 'Rules of a run', 'Commands': a Promote from anyone, and the Shrinks and Expands that nodes propose, reach the map. Assumes
-- nothing.
use Prim.Native.Nat.{ℕ, ◌+◌, ◌≤◌}
use mathlib.Core.Path.{◌≡◌, refl, sym, ap, ◌∙◌, subst}
use mathlib.Core.Bool.{Bool, true, false, cond}
use mathlib.Core.List.{List, [], ◌∷◌, ◌++◌, map}
use mathlib.Core.Option.{Option, none, some}
use native.Mathlib.Omega.{arith}
use lib.ListN.{length}
use borrow.Author.Tests.{eq-eqb, ne_eqb, le-leb, leb-true}
use Rattle.spec.specs.Keys.{Key}
use Rattle.spec.specs.Limits.{max_u64, max_name}
use Rattle.spec.specs.Lists.{◌and◌, nth}
use Rattle.spec.specs.Map.Tables as tables
use Rattle.spec.specs.Map.Tables.{Answer, applied, rejected, refused}
use Rattle.spec.specs.Map.Change.{accepts}
use Rattle.spec.specs.Map.Apply.{Applied, apply, settle, decide, session_at}
use Rattle.spec.specs.Map.Calls.{apply_call, apply_decoded, apply_bytes}
use Rattle.spec.specs.Map.WellFormed.{well_formed_map, command_fits}
use Rattle.spec.specs.Layout.Request as layout
use Rattle.spec.specs.Layout.Request.{Command, Request, promote_primary, decode_request}
use Rattle.spec.specs.Layout.Writable.{U64, GoodKey, GoodCommand}
use Rattle.spec.specs.Node.Ack as ack
use Rattle.spec.specs.Node.Ack.{leaves}
use Rattle.spec.specs.Node.Held as held
use Rattle.spec.specs.Node.Held.{Held}
use Rattle.spec_laws.proofs.Lists.{by-test, not_both, and_left, and_right}
use Rattle.spec_laws.proofs.Wire.Requests.{request-back, request_forth}
use Rattle.spec_laws.proofs.Map.WellFormed.{stays_well_formed}
use Rattle.spec_laws.proofs.Node.Shards.{by_both}
use Rattle.spec_run.specs.State as real
use Rattle.spec_run.specs.Step as step
use Rattle.spec_run.specs.Rules.{is_bytes, is_u64, is_promote, promotes, not_last, fresh_seq}
use Rattle.thm_run.proofs.Protocol.Base.{All, all_map, all_snoc, all-nth, remove_at}
use Rattle.thm_run.proofs.Protocol.Sets as sets
use Rattle.thm_run.proofs.Protocol.Sets.{member}
use Rattle.thm_run.proofs.Protocol.State as proto
use Rattle.thm_run.proofs.Protocol.State.{Map, Role, backup, lead, Node, State, promotion, decision, rejection, promoted, resized}
use Rattle.thm_run.proofs.Simulation.Lists.{all-removed, nth-map, removed-map, collect-one, collect-skip}
use Rattle.thm_run.proofs.Simulation.Relation.{World, MapSim, RoleSim, HeldSim, NodeSim, OfferFits, OutcomeKey, proposal_of, shrinks, outcome_of, Sim}
use Rattle.thm_run.proofs.Simulation.Frame.{Reaches, stays, moves, Gently, rests, gently, on-map, same_map, on_offers, on_outcomes, same_outcomes}
use Rattle.thm_run.proofs.Simulation.Losses.{told_not}
use Rattle.thm_run.proofs.Simulation.Client.{are_bytes}
use Rattle.thm_run.proofs.Simulation.Maps.{ways, not_again, not_applied_lem, promote_sim, shrink_sim, expand_sim}

pub u64_of : (n : ℕ) → n ≤ max_u64 → U64 n
u64_of n h = omega arith

-- a well-formed map is never refused
applies : (m : tables.Map) (r : Request) → well_formed_map m ≡ true → apply_call m r ≡ apply m r
unfolding apply_call
applies m r e = rw e

-- ---- a later epoch of the map

module _ (w : World) (top top' : ℕ) (more : top ≤ top') where
  role_later : (n : ℕ) (h : Held) (r : Role) → RoleSim w top n h.role h.replica h.peers r
      → RoleSim w top' n h.role h.replica h.peers r
  role_later n h backup k = k
  role_later n h (lead l) k = record {
    role = k.role;
    epoch = k.epoch;
    end = k.end;
    table = k.table;
    upto = (let u = k.upto in omega arith);
    rows = k.rows;
  }

  held_later : (n : ℕ) (h : Held) (b : Node) → HeldSim w top n h b → HeldSim w top' n h b
  held_later n h b k = record { key = k.key; holders = k.holders; replica = k.replica; fits = k.fits; role = role_later n h b.role k.role }

  node_later : (n : ℕ) (x : held.Node) (b : Node) → NodeSim w top n x b → NodeSim w top' n x b
  node_later n x b k = record {
    id = k.id;
    formed = k.formed;
    here = λ y. let r = k.here y in (r.0, r.1, held_later n r.0 b r.2);
    gone = k.gone;
    listed = k.listed;
  }

  offer_later : (o : real.Offer) → OfferFits w top o → OfferFits w top' o
  offer_later o k = record { key = k.key; peer = k.peer; upto = (let u = k.upto in omega arith) }

on-promoted : (w : World) (s : real.State) (a : State) → Sim w s a → (m : tables.Map) (b : Map) → a.map.epoch ≤ b.epoch → MapSim w m b
    → Sim w (real.set_map s m) (proto.set_map a b)
unfolding real.set_map proto.set_map
on-promoted w s a k m b more h = record {
  table = h;
  nodes = λ n. node_later w a.map.epoch b.epoch more n (s.nodes n) (a.nodes n) (k.nodes n);
  clients = k.clients;
  requests = k.requests;
  replies = k.replies;
  offers = k.offers;
  offered = all_map (offer_later w a.map.epoch b.epoch more) s.offers k.offered;
  outcomes = k.outcomes;
  told = k.told;
  accepted = k.accepted;
  written = k.written;
  acknowledged = k.acknowledged;
  known = k.known;
}

-- ---- Promote

is-promote : (c : Command) → is_promote c ≡ true → (key : Key) × (n : ℕ) × (e : ℕ) × (c ≡ promote_primary key n e)
is-promote (layout.create n s p) t = not_both false t refl
is-promote (layout.drop_collection n) t = not_both false t refl
is-promote (layout.register n a i) t = not_both false t refl
is-promote (layout.mark_dead n i) t = not_both false t refl
is-promote (layout.add_replica k n i e) t = not_both false t refl
is-promote (layout.remove_replica k n e) t = not_both false t refl
is-promote (layout.promote_primary k n e) t = (k, n, e, refl)
is-promote (layout.shrink_in_sync k n e) t = not_both false t refl
is-promote (layout.expand_in_sync k n e) t = not_both false t refl
is-promote (layout.bench b) t = not_both false t refl

module _ (w : World) (s : real.State) (a : State) (k : Sim w s a) where
  abbrev m : tables.Map
  m = s.map

  module _ (r : Request) (key : Key) (n e : ℕ) (is : r.command ≡ promote_primary key n e) where
    decided : (v : Answer) → decide m r.command ≡ v → well_formed_map (settle m r v).map ≡ true → Reaches w (real.set_map s (settle m r v).map) a
    unfolding proto.step proto.on_promote proto.promoted
    decided (tables.outcome applied) q f =
        let h = promote_sim w m a.map k.table r key n e is q f in
        let moved : proto.step a (promotion n) ≡ proto.set_map a (promoted a.map n) =
        ap (λ (z : Bool). cond z (proto.set_map a (promoted a.map n)) a) h.0 in
        moves w _ a (promotion n) (subst (Sim w _) (sym moved) (on-promoted w s a k _ (promoted a.map n) (omega arith) h.1))
    decided (tables.outcome (rejected why)) q f =
        stays w _ a (same_map w s a k _ (not_applied_lem w m a.map k.table r (tables.outcome (rejected why)) refl f))
    decided (refused why) q f = stays w _ a (same_map w s a k _ (not_applied_lem w m a.map k.table r (refused why) refl f))

    promotes-map : well_formed_map (apply m r).map ≡ true → Reaches w (real.set_map s (apply m r).map) a
    promotes-map =
        ways (λ v. well_formed_map v.map ≡ true → Reaches w (real.set_map s v.map) a) m r
        (λ v t f. stays w _ a (same_map w s a k m k.table))
        (λ x t q f. stays w _ a (same_map w s a k m k.table))
        decided

  pub on_command_lem : (bytes : List ℕ) → is_bytes bytes and promotes (decode_request bytes) ≡ true → Reaches w (step.on_command s bytes) a
  unfolding step.on_command apply_bytes apply_decoded command_fits
  on_command_lem bytes t =
      go (decode_request bytes) refl (and_right (is_bytes bytes) (promotes (decode_request bytes)) t)
    where
      go : (o : Option Request) → decode_request bytes ≡ o → promotes o ≡ true → Reaches w (real.set_map s (apply_decoded m o).map) a
      go none e p = stays w _ a (same_map w s a k m k.table)
      go (some r) e p =
          let c = is-promote r.command p in
          let good = (request_forth bytes (are_bytes bytes (and_left (is_bytes bytes) (promotes (decode_request bytes)) t)) r e).0.3 in
          let good' : GoodCommand (promote_primary c.0 c.1 c.2) = subst GoodCommand c.3 good in
          let fits : command_fits r.command ≡ true =
          ap command_fits c.3 ∙ le-leb (length c.0.collection) max_name good'.0.0.0 in
          subst (λ (v : Applied). Reaches w (real.set_map s v.map) a)
          (sym (applies m r k.table.formed))
          (promotes-map r c.0 c.1 c.2 c.3 (stays_well_formed m r k.table.formed fits))

  -- ---- Shrink and Expand

  module _ (i : ℕ) (o : real.Offer) (found : nth s.offers i ≡ some o) where
    abbrev rest : List real.Offer
    rest = step.removed s.offers i

    fits : OfferFits w a.map.epoch o
    fits = all-nth (OfferFits w a.map.epoch) s.offers i o k.offered found

    at : nth a.proposals i ≡ some (proposal_of w o)
    at = ap (λ (z : List proto.Proposal). nth z i) (sym k.offers) ∙ nth-map (proposal_of w) s.offers i o found

    gone : map (proposal_of w) rest ≡ remove_at a.proposals i
    gone = removed-map (proposal_of w) s.offers i ∙ ap (λ (z : List proto.Proposal). remove_at z i) k.offers

    left : All (OfferFits w a.map.epoch) rest
    left = all-removed (OfferFits w a.map.epoch) s.offers i k.offered

    -- not applied: the proposal is gone
    pub turned_down_lem : (m' : tables.Map) → MapSim w m' a.map → Gently w (step.told (real.set_offers (real.set_map s m') rest) o false) a
    unfolding proto.step proto.on_forget proto.set_proposals
    turned_down_lem m' h =
        gently w _ a (rejection i) tt
        (told_not w (real.set_offers (real.set_map s m') rest) (proto.set_proposals a (remove_at a.proposals i))
        (on_offers w (real.set_map s m') a (same_map w s a k m' h) rest (remove_at a.proposals i) gone left) o fits)

    -- applied: the map of the protocol after, and the proposal gone
    module _ (m' : tables.Map) (l : List ℕ) (h : MapSim w m' (resized a.map l)) where
      abbrev s' : real.State
      s' = real.set_offers (real.set_map s m') rest

      abbrev a' : State
      a' = proto.set_proposals (proto.set_map a (resized a.map l)) (remove_at a.proposals i)

      settled : Sim w s' a'
      unfolding proto.set_map resized
      settled =
          on_offers w (real.set_map s m') (proto.set_map a (resized a.map l)) (on-map w s a k m' (resized a.map l) refl h)
          rest (remove_at a.proposals i) gone left

    shrunk : (m' : tables.Map) → o.what ≡ ack.shrink → a.map.epoch ≡ o.epoch → (o.peer ≡ a.map.primary → ⊥)
        → member o.peer a.map.insync ≡ true → MapSim w m' (resized a.map (sets.without o.peer a.map.insync))
        → Gently w (step.told (real.set_offers (real.set_map s m') rest) o true) a
    unfolding step.told proto.step proto.on_take proto.take_as proto.may_take proto.shrunk proto.set_proposals proto.set_map proto.set_outcomes real.set_offers real.set_map ◌and◌
    shrunk m' what same other inside h =
        let l : List ℕ = sets.without o.peer a.map.insync in
        let new : List proto.Outcome = a.outcomes ++ (outcome_of w (step.outcome_of o true) ∷ []) in
        let may : proto.may_take a.map (proposal_of w o) ≡ true =
        rw (eq-eqb o.epoch a.map.epoch (sym same), what, ne_eqb o.peer a.map.primary other) inside in
        let moved : proto.step a (decision i o.awaited) ≡ proto.set_outcomes (a' m' l h) (cond o.awaited new a.outcomes) =
        ap (proto.take_as a i o.awaited) at ∙ rw (may, what) in
        let mine : shrinks w (step.outcome_of o true) ≡ true = ap (λ (z : ack.Proposal). leaves z true) what in
        let sim = by_both (λ (x : real.State) (z : List proto.Outcome). Sim w x (proto.set_outcomes (a' m' l h) z)) o.awaited
        (λ t. on_outcomes w (s' m' l h) (a' m' l h) (settled m' l h) (s.outcomes ++ (step.outcome_of o true ∷ [])) new
        (collect-one (outcome_of w) (shrinks w) s.outcomes (step.outcome_of o true) mine
        ∙ ap (λ (z : List proto.Outcome). z ++ (outcome_of w (step.outcome_of o true) ∷ [])) k.outcomes)
        (all_snoc (OutcomeKey w) s.outcomes (step.outcome_of o true) k.told fits.key))
        (λ t. settled m' l h) in
        gently w _ a (decision i o.awaited) tt (subst (Sim w _) (sym moved) sim)

    expanded : (m' : tables.Map) → o.what ≡ ack.grow → a.map.epoch ≡ o.epoch
        → MapSim w m' (resized a.map (o.peer ∷ a.map.insync))
        → Gently w (step.told (real.set_offers (real.set_map s m') rest) o true) a
    unfolding step.told proto.step proto.on_take proto.take_as proto.may_take proto.expanded proto.set_proposals proto.set_map real.set_offers real.set_map ◌and◌
    expanded m' what same h =
        let l : List ℕ = o.peer ∷ a.map.insync in
        let may : proto.may_take a.map (proposal_of w o) ≡ true = rw (eq-eqb o.epoch a.map.epoch (sym same), what) in
        let moved : proto.step a (decision i o.awaited) ≡ a' m' l h = ap (proto.take_as a i o.awaited) at ∙ rw (may, what) in
        let none' : shrinks w (step.outcome_of o true) ≡ false = ap (λ (z : ack.Proposal). leaves z true) what in
        let sim = by-test (λ (x : real.State). Sim w x (a' m' l h)) o.awaited
        (λ t. same_outcomes w (s' m' l h) (a' m' l h) (settled m' l h) (s.outcomes ++ (step.outcome_of o true ∷ []))
        (collect-skip (outcome_of w) (shrinks w) s.outcomes (step.outcome_of o true) none' ∙ k.outcomes)
        (all_snoc (OutcomeKey w) s.outcomes (step.outcome_of o true) k.told fits.key))
        (λ t. settled m' l h) in
        gently w _ a (decision i o.awaited) tt (subst (Sim w _) (sym moved) sim)

    module _ (index seq : ℕ) (small : index ≤ max_u64) (less : seq ≤ max_u64)
        (fresh : not_last (session_at m.sessions (s.clients o.node)) seq ≡ true) where
      abbrev r : Request
      r = record { index = index; client = s.clients o.node; seq = seq; command = step.command_of o o.what }

      abbrev Goal : Applied → Type 0
      Goal v = Gently w (step.told (real.set_offers (real.set_map s v.map) rest) o (step.is_applied v.answer)) a

      not' : (v : Answer) → step.is_applied v ≡ false → (m' : tables.Map) → MapSim w m' a.map
          → Gently w (step.told (real.set_offers (real.set_map s m') rest) o (step.is_applied v)) a
      not' v e m' h = subst (λ (z : Bool). Gently w (step.told (real.set_offers (real.set_map s m') rest) o z) a) (sym e) (turned_down_lem m' h)

      yes' : (p : ack.Proposal) → o.what ≡ p → decide m r.command ≡ accepts → well_formed_map (settle m r accepts).map ≡ true
          → Gently w (step.told (real.set_offers (real.set_map s (settle m r accepts).map) rest) o true) a
      yes' ack.shrink e q f =
          let h = shrink_sim w m a.map k.table r o.key o.peer o.epoch (ap (step.command_of o) e) q f in
          shrunk (settle m r accepts).map e h.0 h.1 h.2 h.3
      yes' ack.grow e q f =
          let h = expand_sim w m a.map k.table r o.key o.peer o.epoch (ap (step.command_of o) e) q f in
          expanded (settle m r accepts).map e h.0 h.1

      settles : (v : Answer) → decide m r.command ≡ v → well_formed_map (settle m r v).map ≡ true → Goal (settle m r v)
      unfolding settle
      settles (tables.outcome applied) q f = yes' o.what refl q f
      settles (tables.outcome (rejected why)) q f =
          not' (tables.outcome (rejected why)) refl _ (not_applied_lem w m a.map k.table r (tables.outcome (rejected why)) refl f)
      settles (refused why) q f = not' (refused why) refl _ (not_applied_lem w m a.map k.table r (refused why) refl f)

      epoch : o.epoch ≤ max_u64
      epoch = let p = fits.upto in let q = k.table.upto in omega arith

      key' : GoodKey o.key
      key' = subst GoodKey (sym fits.key) w.good_key

      command : (p : ack.Proposal) → GoodCommand (step.command_of o p) × (command_fits (step.command_of o p) ≡ true)
      unfolding command_fits
      command ack.shrink = ((key', fits.peer, u64_of o.epoch epoch), le-leb (length o.key.collection) max_name key'.0.0)
      command ack.grow = ((key', fits.peer, u64_of o.epoch epoch), le-leb (length o.key.collection) max_name key'.0.0)

      offers_map : well_formed_map (apply m r).map ≡ true → Goal (apply m r)
      offers_map =
          ways (λ v. well_formed_map v.map ≡ true → Goal v) m r
          (λ v t f. not' v t m k.table)
          (λ x t q f. not_again (session_at m.sessions (s.clients o.node)) seq fresh x t q)
          settles

      -- the proposal's bytes are read as the request
      pub decoded : decode_request (step.offer_bytes s o index seq) ≡ some r
      unfolding step.offer_bytes
      decoded = request-back r (u64_of index small, k.clients o.node, u64_of seq less, (command o.what).0)

      pub offered : Gently w (step.offered s i index seq (some o)) a
      unfolding step.offered apply_bytes apply_decoded
      offered =
          subst Goal
          (sym (ap (apply_decoded m) decoded ∙ applies m r k.table.formed))
          (offers_map (stays_well_formed m r k.table.formed (command o.what).1))

  pub on_offer_lem : (i index seq : ℕ) → is_u64 index and is_u64 seq and fresh_seq s seq (nth s.offers i) ≡ true
      → Gently w (step.on_offer s i index seq) a
  unfolding step.on_offer step.offered fresh_seq is_u64
  on_offer_lem i index seq t =
      let f = fresh_seq s seq (nth s.offers i) in
      let u = and_right (is_u64 index) (is_u64 seq and f) t in
      go (nth s.offers i) refl (leb-true index max_u64 (and_left (is_u64 index) (is_u64 seq and f) t)) (leb-true seq max_u64 (and_left (is_u64 seq) f u))
      (and_right (is_u64 seq) f u)
    where
      go : (o : Option real.Offer) → nth s.offers i ≡ o → index ≤ max_u64 → seq ≤ max_u64 → fresh_seq s seq o ≡ true
          → Gently w (step.offered s i index seq o) a
      go none e p q f = rests w _ a k
      go (some o) e p q f = offered i o e index seq p q f
