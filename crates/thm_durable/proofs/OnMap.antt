-- The calls of the map: a command, and a proposal that reaches it, are runs of `spec_run`. Assumes nothing.
use Prim.Native.Nat.{ℕ, zero, suc}
use mathlib.Core.Path.{◌≡◌, refl, sym, ap, subst, ◌∙◌}
use mathlib.Core.Bool.{Bool, true, false, cond}
use mathlib.Core.List.{List, [], ◌∷◌, ◌++◌}
use mathlib.Core.Option.{Option, none, some}
use mathlib.Core.Logic.{◌⊎◌, inl, inr, ⊎_elim}
use Rattle.spec.specs.Lists.{nth}
use Rattle.spec.specs.Refusals.{Refusal, malformed}
use Rattle.spec.specs.Map.Apply.{Applied}
use Rattle.spec.specs.Map.Calls.{refused_with, apply_call, apply_decoded, apply_bytes}
use Rattle.spec.specs.Layout.Request.{Request, decode_request}
use Rattle.spec_run.specs.State.{State, Offer, set_map, set_offers, set_outcomes}
use Rattle.spec_run.specs.Event.{command, offer_arrives, offer_lost, offer_times_out}
use Rattle.spec_run.specs.Rules.{allowed}
use Rattle.spec_run.specs.Step.{removed, replaced, on_command, offer_bytes, is_applied, outcome_of, told, offered, on_offer, on_offer_lost, unawaited, given_up, on_offer_timeout, step}
use Rattle.map_tables.specs.View.{view_map, answer_of}
use Rattle.map_tables.specs.declared.ShardMap.{ShardMap}
use Rattle.map_check.specs.Lent.{well_formed_lent}
use Rattle.map_apply.specs.Calls.{apply_lent}
use Rattle.node_header.proofs.Lists.{by_case}
use Rattle.thm_durable.specs.Engine.{Engine, seen, with_map}
use Rattle.thm_durable.specs.Calls.{Offers, Called}
use Rattle.thm_durable.proofs.Simulated.{Simulated, nothing, one, then}
use Rattle.thm_durable.proofs.Seen.{seen-map, Beside, hosted}
use Rattle.thm_durable.proofs.Lent.{map-well}

-- the definition's call, or a refusal that leaves the map
apply_as : (m : ShardMap) (o : Option Request)
    → (apply_lent m o ≡ apply_decoded (view_map m) o) ⊎ ((r : Refusal) × (apply_lent m o ≡ refused_with (view_map m) r))
unfolding apply_decoded apply_call
apply_as m none = inl refl
apply_as m (some r) = by_case (well_formed_lent m) (λ q. inl (rw (q, map-well m q))) (λ q. inr (malformed, rw q))

-- the map of an engine put back
same_map : (e : Engine) → set_map (seen e) (view_map e.map) ≡ seen e
unfolding seen set_map
same_map e = refl

module _ (e f : Engine) where
  -- ---- a command

  pub on_command_lem : (bytes : List ℕ) → allowed (seen e) (command bytes) ≡ true → Called e (command bytes) f → Simulated (seen e) (seen f)
  unfolding Called step on_command apply_bytes seen
  on_command_lem bytes may c =
      let z = apply_lent e.map (decode_request bytes) in
      let to : seen f ≡ set_map (seen e) z.map = ap seen c.2 ∙ seen-map e c.0.map ∙ ap (set_map (seen e)) c.1.map in
      ⊎_elim
      (λ q. one (seen e) (seen f) (command bytes) may (sym (to ∙ ap (λ (x : Applied). set_map (seen e) x.map) q)))
      (λ q. nothing (seen e) (seen f) (sym (to ∙ ap (λ (x : Applied). set_map (seen e) x.map) q.1 ∙ same_map e)))
      (apply_as e.map (decode_request bytes))

-- ---- a proposal

pub told-beside : (s : State) (o : Offer) (applied : Bool) → Beside s (told s o applied)
unfolding told set_outcomes
told-beside s o applied = go o.awaited
  where
    go : (b : Bool) → Beside s (cond b (set_outcomes s (s.outcomes ++ (outcome_of o applied ∷ []))) s)
    go true = record { map = refl; nodes = refl; clients = refl }
    go false = record { map = refl; nodes = refl; clients = refl }

-- it matters not whether the outcome is told before the proposal is gone or after
told_offers : (s : State) (l : List Offer) (o : Offer) (applied : Bool) → told (set_offers s l) o applied ≡ set_offers (told s o applied) l
unfolding told set_offers set_outcomes
told_offers s l o applied = go o.awaited
  where
    go : (b : Bool)
        → cond b (set_outcomes (set_offers s l) (s.outcomes ++ (outcome_of o applied ∷ []))) (set_offers s l)
        ≡ set_offers (cond b (set_outcomes s (s.outcomes ++ (outcome_of o applied ∷ []))) s) l
    go true = refl
    go false = refl

removed-replaced : {A : Type 0} (l : List A) (i : ℕ) (y : A) → removed (replaced l i y) i ≡ removed l i
unfolding removed replaced
removed-replaced [] i y = refl
removed-replaced (x ∷ xs) zero y = refl
removed-replaced (x ∷ xs) (suc i) y = ap (λ (l : List _). x ∷ l) (removed-replaced xs i y)

-- a proposal that the map refuses: it times out, and is lost
module _ (s : State) (i : ℕ) (o : Offer) (found : nth s.offers i ≡ some o) where
  given_up_lem : State
  given_up_lem = set_offers (told s o false) (replaced s.offers i (unawaited o))

  times-out : step s (offer_times_out i) ≡ given_up_lem
  unfolding step on_offer_timeout given_up given_up_lem
  times-out = rw found

  lost : step given_up_lem (offer_lost i) ≡ told (set_offers s (removed s.offers i)) o false
  unfolding step on_offer_lost given_up_lem set_offers
  lost =
      ap (set_offers (told s o false)) (removed-replaced s.offers i (unawaited o)) ∙ sym (told_offers s (removed s.offers i) o false)

  pub not_applied_lem : Simulated s (told (set_offers s (removed s.offers i)) o false)
  unfolding allowed
  not_applied_lem =
      then s given_up_lem (told (set_offers s (removed s.offers i)) o false) (one s given_up_lem (offer_times_out i) refl times-out)
      (one given_up_lem (told (set_offers s (removed s.offers i)) o false) (offer_lost i) refl lost)

module _ (e f : Engine) (i index seq : ℕ) (may : allowed (seen e) (offer_arrives i index seq) ≡ true) where
  abbrev s : State
  s = seen e

  abbrev after : Offer → Applied → State
  after o z = told (set_offers (set_map s z.map) (removed s.offers i)) o (is_applied z.answer)

  arrived : (o : Offer) → nth s.offers i ≡ some o → Offers e i index seq (some o) f → Simulated s (seen f)
  unfolding step on_offer offered apply_bytes seen set_map set_offers
  arrived o found c =
      let bytes = offer_bytes s o index seq in
      let z = apply_lent e.map (decode_request bytes) in
      let g = with_map e c.0.map in
      let deed : State → State = λ (t : State). told (set_offers t (removed t.offers i)) o (is_applied (answer_of c.0.verdict)) in
      let b = told-beside (set_offers (seen g) (removed (seen g).offers i)) o (is_applied (answer_of c.0.verdict)) in
      let to : seen f ≡ after o z =
      ap seen c.2
      ∙ hosted g deed (record { map = b.map; nodes = b.nodes; clients = b.clients })
      ∙ ap deed (seen-map e c.0.map)
      ∙ ap (λ (a : _). told (set_offers (set_map s (view_map c.0.map)) (removed s.offers i)) o (is_applied a)) c.1.answer
      ∙ ap (λ (m : _). told (set_offers (set_map s m) (removed s.offers i)) o (is_applied z.answer)) c.1.map in
      ⊎_elim
      (λ q. one s (seen f) (offer_arrives i index seq) may (rw found (sym (to ∙ ap (after o) q))))
      (λ q.
      subst (Simulated s) (sym (to ∙ ap (after o) q.1 ∙ ap (λ (t : State). told (set_offers t (removed s.offers i)) o false) (same_map e)))
      (not_applied_lem s i o found))
      (apply_as e.map (decode_request bytes))

  pub on_offer_lem : Called e (offer_arrives i index seq) f → Simulated s (seen f)
  unfolding Called seen
  on_offer_lem c = go (nth e.offers i) refl c
    where
      go : (o : Option Offer) → nth e.offers i ≡ o → Offers e i index seq o f → Simulated s (seen f)
      go none q c = nothing s (seen f) (sym (ap seen c))
      go (some o) q c = arrived o q c
