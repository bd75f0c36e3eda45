-- Paper 01, 'Rules of a run', 'Messages', 'Commands': what is under way is lost, or a proposal times out. A lost reply stays with
-- the protocol for good; what else is lost here is lost there too. Assumes nothing.
use Prim.Native.Nat.{ℕ, zero, suc}
use mathlib.Core.Path.{◌≡◌, refl, sym, ap, ◌∙◌}
use mathlib.Core.Bool.{Bool, true, false}
use mathlib.Core.List.{List, [], ◌∷◌, ◌++◌, map}
use mathlib.Core.Option.{Option, none, some}
use Rattle.spec.specs.Lists.{nth, collect}
use Rattle.spec.specs.Node.Ack.{Proposal, shrink, grow, leaves}
use Rattle.spec_laws.proofs.Lists.{by-test, none_some}
use Rattle.spec_run.specs.State as real
use Rattle.spec_run.specs.Step as step
use Rattle.thm_run.proofs.Protocol.Base.{All, all_snoc, all-nth, remove_at}
use Rattle.thm_run.proofs.Protocol.State as proto
use Rattle.thm_run.proofs.Protocol.State.{State, rejection, silence}
use Rattle.thm_run.proofs.Simulation.Lists.{all-removed, all-replaced, removed-map, replaced-map, collect-skip, collect-removed, collect-taken, collect-replaced}
use Rattle.thm_run.proofs.Simulation.Relation.{World, RequestAt, ReplySim, OfferFits, OutcomeKey, proposal_of, shrinks, outcome_of, Sim}
use Rattle.thm_run.proofs.Simulation.Frame.{Gently, rests, gently, on_requests, on-replies, on_offers, same_offers, on_outcomes, same_outcomes}

pub removed-none : {A : Type 0} (l : List A) (i : ℕ) → nth l i ≡ none → step.removed l i ≡ l
unfolding nth step.removed
removed-none [] i e = refl
removed-none (x ∷ xs) zero e = none_some (sym e)
removed-none {A} (x ∷ xs) (suc i) e = ap (λ (v : List A). x ∷ v) (removed-none xs i e)

-- 'a timeout or a refusal counting as not applied'
pub not_left : (p : Proposal) → leaves p false ≡ false
not_left shrink = refl
not_left grow = refl

module _ (w : World) (s : real.State) (a : State) (k : Sim w s a) where
  pub request-lost : (from to i : ℕ) → Gently w (step.on_request_lost s from to i) a
  unfolding step.on_request_lost
  request-lost from to i =
      rests w _ a
      (on_requests w s a k from to (step.removed (s.requests from to) i)
      (all-removed (RequestAt w to (a.requests from to)) (s.requests from to) i (k.requests from to)))

  pub request-repeats : (from to i : ℕ) → Gently w (step.on_request_repeats s from to i) a
  unfolding step.on_request_repeats step.doubled
  request-repeats from to i = go (nth (s.requests from to) i) refl
    where
      go : (o : Option real.Request) → nth (s.requests from to) i ≡ o → Gently w (step.doubled s from to o) a
      go none e = rests w _ a k
      go (some q) e =
          rests w _ a
          (on_requests w s a k from to (s.requests from to ++ (q ∷ []))
          (all_snoc (RequestAt w to (a.requests from to)) (s.requests from to) q (k.requests from to)
          (all-nth (RequestAt w to (a.requests from to)) (s.requests from to) i q (k.requests from to) e)))

  pub reply-repeats : (i : ℕ) → Gently w (step.on_reply_repeats s i) a
  unfolding step.on_reply_repeats step.reply_doubled
  reply-repeats i = go (nth s.replies i) refl
    where
      go : (o : Option real.Reply) → nth s.replies i ≡ o → Gently w (step.reply_doubled s o) a
      go none e = rests w _ a k
      go (some q) e =
          rests w _ a
          (on-replies w s a k (s.replies ++ (q ∷ []))
          (all_snoc (ReplySim w a.replies) s.replies q k.replies (all-nth (ReplySim w a.replies) s.replies i q k.replies e)))

  pub reply-lost : (i : ℕ) → Gently w (step.on_reply_lost s i) a
  unfolding step.on_reply_lost
  reply-lost i =
      rests w _ a (on-replies w s a k (step.removed s.replies i) (all-removed (ReplySim w a.replies) s.replies i k.replies))

  pub offer_lost_lem : (i : ℕ) → Gently w (step.on_offer_lost s i) a
  unfolding step.on_offer_lost proto.step proto.on_forget
  offer_lost_lem i =
      gently w _ a (rejection i) tt
      (on_offers w s a k (step.removed s.offers i) (remove_at a.proposals i)
      (removed-map (proposal_of w) s.offers i ∙ ap (λ (l : List proto.Proposal). remove_at l i) k.offers)
      (all-removed (OfferFits w a.map.epoch) s.offers i k.offered))

  -- an outcome leaves the list, or one that was not applied takes its place
  pub outcome-gone : (i : ℕ) (o : real.Outcome) → nth s.outcomes i ≡ some o → (l : List real.Outcome)
      → collect (shrinks w) (outcome_of w) l ≡ collect (shrinks w) (outcome_of w) (step.removed s.outcomes i) → All (OutcomeKey w) l
      → Gently w (real.set_outcomes s l) a
  unfolding proto.step proto.on_untell
  outcome-gone i o e l q keys = go (shrinks w o) refl
    where
      go : (b : Bool) → shrinks w o ≡ b → Gently w (real.set_outcomes s l) a
      go true t =
          let r = collect-taken (outcome_of w) (shrinks w) s.outcomes i o e t in
          gently w _ a (silence r.0) tt
          (on_outcomes w s a k l (remove_at a.outcomes r.0)
          (q ∙ r.2 ∙ ap (λ (v : List proto.Outcome). remove_at v r.0) k.outcomes) keys)
      go false t =
          rests w _ a (same_outcomes w s a k l (q ∙ collect-removed (outcome_of w) (shrinks w) s.outcomes i o e t ∙ k.outcomes) keys)

  pub outcome-lost : (i : ℕ) → Gently w (step.on_outcome_lost s i) a
  unfolding step.on_outcome_lost
  outcome-lost i = go (nth s.outcomes i) refl
    where
      keys : All (OutcomeKey w) (step.removed s.outcomes i)
      keys = all-removed (OutcomeKey w) s.outcomes i k.told

      go : (o : Option real.Outcome) → nth s.outcomes i ≡ o → Gently w (real.set_outcomes s (step.removed s.outcomes i)) a
      go none e =
          rests w _ a
          (same_outcomes w s a k (step.removed s.outcomes i)
          (ap (collect (shrinks w) (outcome_of w)) (removed-none s.outcomes i e) ∙ k.outcomes) keys)
      go (some o) e = outcome-gone i o e (step.removed s.outcomes i) refl keys

  pub outcome-late : (i : ℕ) → Gently w (step.on_outcome_timeout s i) a
  unfolding step.on_outcome_timeout step.late
  outcome-late i = go (nth s.outcomes i) refl
    where
      go : (o : Option real.Outcome) → nth s.outcomes i ≡ o → Gently w (step.late s i o) a
      go none e = rests w _ a k
      go (some o) e =
          outcome-gone i o e (step.replaced s.outcomes i (step.not_applied o))
          (collect-replaced (outcome_of w) (shrinks w) s.outcomes i o (step.not_applied o) e (not_left o.what))
          (all-replaced (OutcomeKey w) s.outcomes i (step.not_applied o) k.told (all-nth (OutcomeKey w) s.outcomes i o k.told e))

  -- an outcome that was not applied goes under way, or none does
  pub told_not : (o : real.Offer) → OfferFits w a.map.epoch o → Sim w (step.told s o false) a
  unfolding step.told
  told_not o f =
      by-test (λ v. Sim w v a) o.awaited
      (λ t. same_outcomes w s a k (s.outcomes ++ (step.outcome_of o false ∷ []))
      (collect-skip (outcome_of w) (shrinks w) s.outcomes (step.outcome_of o false) (not_left o.what) ∙ k.outcomes)
      (all_snoc (OutcomeKey w) s.outcomes (step.outcome_of o false) k.told f.key))
      (λ t. k)

  pub offer_late : (i : ℕ) → Gently w (step.on_offer_timeout s i) a
  unfolding step.on_offer_timeout step.given_up
  offer_late i = go (nth s.offers i) refl
    where
      go : (o : Option real.Offer) → nth s.offers i ≡ o → Gently w (step.given_up s i o) a
      go none e = rests w _ a k
      go (some o) e =
          let f = all-nth (OfferFits w a.map.epoch) s.offers i o k.offered e in
          rests w _ a
          (same_offers w (step.told s o false) a (told_not o f) (step.replaced s.offers i (step.unawaited o))
          (replaced-map (proposal_of w) s.offers i o (step.unawaited o) e refl ∙ k.offers)
          (all-replaced (OfferFits w a.map.epoch) s.offers i (step.unawaited o) k.offered
          (record { key = f.key; peer = f.peer; upto = f.upto })))
