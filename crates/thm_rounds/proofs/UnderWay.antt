-- What is under way between two nodes stays so until it arrives, where nothing is lost. Assumes nothing.
use Prim.Native.Nat.{ℕ, zero, suc, ◌+◌}
use mathlib.Core.Path.{◌≡◌, refl, sym, ap, ◌∙◌, subst}
use mathlib.Core.Bool.{Bool, true, false, cond}
use mathlib.Core.Logic.{◌⊎◌, inl, inr}
use mathlib.Core.List.{List, [], ◌∷◌, ◌++◌, map}
use mathlib.Core.Option.{Option, none, some}
use lib.Dec.{eqb}
use lib.ListN.{length}
use borrow.Author.Tests.{eqb-true, eqb-false}
use Rattle.spec.specs.Lists.{nth}
use Rattle.spec_laws.proofs.Lists.{by-test, not_both, none_some, some_same, nth-nil, nth_lt, nth-append, nth_last}
use Rattle.spec.specs.Map.Calls.{apply_bytes}
use Rattle.spec.specs.Layout.Message.{encode_reply}
use Rattle.spec.specs.Node.Ack.{AckAnswer, noted, expand, ack_refused}
use Rattle.spec.specs.Node.Backup.{BackupAnswer, replied, backup_refused}
use Rattle.spec.specs.Node.Client as client
use Rattle.spec.specs.Node.Client.{WaitAnswer}
use Rattle.spec.specs.Node.Calls.{RequestAnswer, unsent, written, request_refused, call_request, call_ack, call_wait}
use Rattle.spec_run.specs.State.{State, Request, Reply, Offer, Outcome, Write, at, set_map, set_node, set_requests, set_replies, set_offers, set_outcomes, set_writes}
use Rattle.spec_run.specs.Step.{removed, sent_of, offer_bytes, is_applied, step, on_grant, on_search, on_wait, wait_for, waited, posted, on_work, heard, answered, arrives, on_arrival, doubled, on_request_repeats, reply_doubled, on_reply_repeats, acked, replies, on_reply, told, offered, on_offer, on_offer_lost, given_up, on_offer_timeout, learnt, on_outcome, on_outcome_lost, late, on_outcome_timeout}
use Rattle.spec_run.specs.Event.{
  Event,
  command,
  map_shown,
  lease_granted,
  client_writes,
  client_searches,
  node_waits,
  worker_steps,
  request_arrives,
  request_lost,
  request_repeats,
  reply_arrives,
  reply_lost,
  reply_repeats,
  offer_arrives,
  offer_lost,
  offer_times_out,
  outcome_arrives,
  outcome_lost,
  outcome_times_out,
}
use Rattle.thm_rounds.specs.Rounds.{in_round}

-- x stands in the list
abbrev pub Has : {A : Type 0} → List A → A → Type 0
Has l x = (i : ℕ) × (nth l i ≡ some x)

module _ {A : Type 0} where
  pub has_more : (l m : List A) (x : A) → Has l x → Has (l ++ m) x
  has_more l m x h = (h.0, nth-append l m h.0 (nth_lt l h.0 x h.1) ∙ h.1)

  pub has_last : (l : List A) (x : A) → Has (l ++ (x ∷ [])) x
  has_last l x = (length l, nth_last l x)

  -- it was the one that is gone, or it is still there
  pub has_left : (l : List A) (i j : ℕ) (x : A) → nth l i ≡ some x → (i ≡ j) ⊎ Has (removed l j) x
  unfolding nth removed
  has_left [] i j x e = nth-nil i x e
  has_left (y ∷ ys) zero zero x e = inl refl
  has_left (y ∷ ys) zero (suc j) x e = inr (0, e)
  has_left (y ∷ ys) (suc i) zero x e = inr (i, e)
  has_left (y ∷ ys) (suc i) (suc j) x e = next (has_left ys i j x e)
    where
      next : (i ≡ j) ⊎ Has (removed ys j) x → (suc i ≡ suc j) ⊎ Has (y ∷ removed ys j) x
      next (inl q) = inl (ap suc q)
      next (inr h) = inr (suc h.0, h.1)

module _ (a p : ℕ) where
  -- another list between two nodes
  pub link : (P : List Request → Type 0) (s : State) (from to : ℕ) (l : List Request) → (a ≡ from → p ≡ to → P l) → P (s.requests a p)
      → P ((set_requests s from to l).requests a p)
  unfolding set_requests at
  link P s from to l f g =
      by-test (λ (v : ℕ → List Request). P (v p)) (eqb a from)
      (λ e. by-test P (eqb p to) (λ d. f (eqb-true a from e) (eqb-true p to d))
      (λ d. subst (λ (m : ℕ). P (s.requests m p)) (eqb-true a from e) g))
      (λ e. g)

  module _ (s : State) (i : ℕ) (q : Request) (found : nth (s.requests a p) i ≡ some q) where
    abbrev There : State → Type 0
    There t = Has (t.requests a p) q

    here : There s
    here = (i, found)

    -- only its arrival takes a request away
    pub asked_stays : (e : Event) → in_round e ≡ true → (e ≡ request_arrives a p i) ⊎ There (step s e)
    unfolding step on_grant on_search on_wait wait_for waited on_work posted on_arrival arrives answered on_request_repeats doubled on_reply_repeats reply_doubled on_reply replies acked on_offer offered told on_offer_lost on_offer_timeout given_up on_outcome learnt on_outcome_lost on_outcome_timeout late set_map set_node set_replies set_offers set_outcomes set_writes
    asked_stays (command bytes) t = not_both false t refl
    asked_stays (map_shown n fresh) t = not_both false t refl
    asked_stays (lease_granted n j sent lease) t = inr here
    asked_stays (client_writes n now least bytes) t = not_both false t refl
    asked_stays (client_searches n now room bytes) t = inr here
    asked_stays (node_waits j now timeout) t = inr (go (nth s.accepted j))
      where
        act : (t : State) (w : Write) (v : WaitAnswer) → There t → There (waited t w v)
        act t w (client.wait_refused r) h = h
        act t w (client.waiting ps) h = h
        act t w (client.done ps) h = h

        go : (o : Option Write) → There (wait_for s now timeout o)
        go none = here
        go (some w) =
            let r = call_wait (s.nodes w.node) now timeout w.key w.epoch w.offset in act (set_node s w.node r.after) w r.answer here
    asked_stays (worker_steps n key epoch peer metric room) t = inr (go (call_request (s.nodes n) room key epoch peer metric))
      where
        go : (r : RequestAnswer) → There (posted s n key epoch peer r)
        go unsent = here
        go (request_refused r) = here
        go (written bytes) =
            let x : Request = record { sent = sent_of bytes; key = key; epoch = epoch; bytes = bytes } in
            link (λ l. Has l q) s n peer (s.requests n peer ++ (x ∷ []))
            (λ e d. has_more (s.requests n peer) (x ∷ []) q
            (subst (λ (m : ℕ). Has (s.requests n m) q) d (subst (λ (m : ℕ). Has (s.requests m p) q) e here))) here
    asked_stays (request_arrives from to j) t = same (nth (s.requests from to) j) refl
      where
        after : (t : State) (x : Request) (v : BackupAnswer) → There t → There (answered t from to x v)
        after t x (replied r) h = h
        after t x (backup_refused r) h = h

        same : (o : Option Request) → nth (s.requests from to) j ≡ o → (request_arrives from to j ≡ request_arrives a p i) ⊎ There (arrives s from to j o)
        same none e = inr here
        same (some x) e = go (eqb a from) refl (eqb p to) refl
          where
            next : There (set_requests s from to (removed (s.requests from to) j))
                → There (arrives s from to j (some x))
            next h =
                let r = heard (s.nodes to) x.sent x.bytes in
                after (set_requests (set_node s to r.after) from to (removed (s.requests from to) j)) x r.answer (unfold set_requests in h)

            apart : (a ≡ from → p ≡ to → ⊥) → There (set_requests s from to (removed (s.requests from to) j))
            apart f = link (λ l. Has l q) s from to (removed (s.requests from to) j) (λ e d. absurd (f e d)) here

            together : a ≡ from → p ≡ to → (i ≡ j) ⊎ Has (removed (s.requests from to) j) q
                → (request_arrives from to j ≡ request_arrives a p i) ⊎ There (arrives s from to j (some x))
            together e d (inl z) =
                inl (sym (ap (λ (m : ℕ). request_arrives m p i) e ∙ ap (λ (m : ℕ). request_arrives from m i) d ∙ ap (λ (m : ℕ). request_arrives from to m) z))
            together e d (inr h) = inr (next (link (λ l. Has l q) s from to (removed (s.requests from to) j) (λ _ _. h) here))

            go : (b : Bool) → eqb a from ≡ b → (c : Bool) → eqb p to ≡ c → (request_arrives from to j ≡ request_arrives a p i) ⊎ There (arrives s from to j (some x))
            go true e true d =
                together (eqb-true a from e) (eqb-true p to d)
                (has_left (s.requests from to) i j q
                (ap (λ (m : ℕ). nth (s.requests from m) i) (sym (eqb-true p to d)) ∙ ap (λ (m : ℕ). nth (s.requests m p) i) (sym (eqb-true a from e)) ∙ found))
            go true e false d = inr (next (apart (λ _. eqb-false p to d)))
            go false e c d = inr (next (apart (λ z _. eqb-false a from e z)))
    asked_stays (request_lost from to j) t = not_both false t refl
    asked_stays (request_repeats from to j) t = inr (go (nth (s.requests from to) j))
      where
        go : (o : Option Request) → There (doubled s from to o)
        go none = here
        go (some x) =
            link (λ l. Has l q) s from to (s.requests from to ++ (x ∷ []))
            (λ e d. has_more (s.requests from to) (x ∷ []) q
            (subst (λ (m : ℕ). Has (s.requests from m) q) d (subst (λ (m : ℕ). Has (s.requests m p) q) e here))) here
    asked_stays (reply_arrives j) t = inr (go (nth s.replies j))
      where
        act : (t : State) (x : Reply) (v : AckAnswer) → There t → There (acked t x v)
        act t x noted h = h
        act t x expand h = h
        act t x (ack_refused r) h = h

        go : (o : Option Reply) → There (replies s j o)
        go none = here
        go (some x) =
            let r = call_ack (s.nodes x.node) x.key x.epoch x.peer x.sent x.bytes in act (set_replies (set_node s x.node r.after) (removed s.replies j)) x r.answer here
    asked_stays (reply_lost j) t = not_both false t refl
    asked_stays (reply_repeats j) t = inr (go (nth s.replies j))
      where
        go : (o : Option Reply) → There (reply_doubled s o)
        go none = here
        go (some x) = here
    asked_stays (offer_arrives j index seq) t = inr (go (nth s.offers j))
      where
        act : (t : State) (o : Offer) (b : Bool) → There t → There (told t o b)
        act t o b h = by-test There o.awaited (λ _. h) (λ _. h)

        go : (o : Option Offer) → There (offered s j index seq o)
        go none = here
        go (some o) =
            let r = apply_bytes s.map (offer_bytes s o index seq) in
            act (set_offers (set_map s r.map) (removed s.offers j)) o (is_applied r.answer) here
    asked_stays (offer_lost j) t = inr here
    asked_stays (offer_times_out j) t = inr (go (nth s.offers j))
      where
        go : (o : Option Offer) → There (given_up s j o)
        go none = here
        go (some o) = by-test There o.awaited (λ _. here) (λ _. here)
    asked_stays (outcome_arrives j) t = inr (go (nth s.outcomes j))
      where
        go : (o : Option Outcome) → There (learnt s j o)
        go none = here
        go (some o) = here
    asked_stays (outcome_lost j) t = inr here
    asked_stays (outcome_times_out j) t = inr (go (nth s.outcomes j))
      where
        go : (o : Option Outcome) → There (late s j o)
        go none = here
        go (some o) = here

module _ (s : State) (i : ℕ) (q : Reply) (found : nth s.replies i ≡ some q) where
  abbrev Back : State → Type 0
  Back t = Has t.replies q

  back : Back s
  back = (i, found)

  -- only its arrival takes a reply away
  pub told_stays : (e : Event) → in_round e ≡ true → (e ≡ reply_arrives i) ⊎ Back (step s e)
  unfolding step on_grant on_search on_wait wait_for waited on_work posted on_arrival arrives answered on_request_repeats doubled on_reply_repeats reply_doubled on_reply replies acked on_offer offered told on_offer_lost on_offer_timeout given_up on_outcome learnt on_outcome_lost on_outcome_timeout late set_map set_node set_requests set_replies set_offers set_outcomes set_writes
  told_stays (command bytes) t = not_both false t refl
  told_stays (map_shown n fresh) t = not_both false t refl
  told_stays (lease_granted n j sent lease) t = inr back
  told_stays (client_writes n now least bytes) t = not_both false t refl
  told_stays (client_searches n now room bytes) t = inr back
  told_stays (node_waits j now timeout) t = inr (go (nth s.accepted j))
    where
      act : (t : State) (w : Write) (v : WaitAnswer) → Back t → Back (waited t w v)
      act t w (client.wait_refused r) h = h
      act t w (client.waiting ps) h = h
      act t w (client.done ps) h = h

      go : (o : Option Write) → Back (wait_for s now timeout o)
      go none = back
      go (some w) =
          let r = call_wait (s.nodes w.node) now timeout w.key w.epoch w.offset in act (set_node s w.node r.after) w r.answer back
  told_stays (worker_steps n key epoch peer metric room) t = inr (go (call_request (s.nodes n) room key epoch peer metric))
    where
      go : (r : RequestAnswer) → Back (posted s n key epoch peer r)
      go unsent = back
      go (request_refused r) = back
      go (written bytes) = back
  told_stays (request_arrives from to j) t = inr (go (nth (s.requests from to) j))
    where
      act : (t : State) (x : Request) (v : BackupAnswer) → Back t → Back (answered t from to x v)
      act t x (replied r) h =
          has_more t.replies (record { node = from; peer = to; sent = x.sent; key = x.key; epoch = x.epoch; bytes = encode_reply r } ∷ []) q h
      act t x (backup_refused r) h = h

      go : (o : Option Request) → Back (arrives s from to j o)
      go none = back
      go (some x) =
          let r = heard (s.nodes to) x.sent x.bytes in
          act (set_requests (set_node s to r.after) from to (removed (s.requests from to) j)) x r.answer back
  told_stays (request_lost from to j) t = not_both false t refl
  told_stays (request_repeats from to j) t = inr (go (nth (s.requests from to) j))
    where
      go : (o : Option Request) → Back (doubled s from to o)
      go none = back
      go (some x) = back
  told_stays (reply_arrives j) t = go (nth s.replies j)
    where
      act : (t : State) (x : Reply) (v : AckAnswer) → Back t → Back (acked t x v)
      act t x noted h = h
      act t x expand h = h
      act t x (ack_refused r) h = h

      left : (x : Reply) → (i ≡ j) ⊎ Has (removed s.replies j) q → (reply_arrives j ≡ reply_arrives i) ⊎ Back (replies s j (some x))
      left x (inl e) = inl (ap reply_arrives (sym e))
      left x (inr h) = inr (let r = call_ack (s.nodes x.node) x.key x.epoch x.peer x.sent x.bytes in act (set_replies (set_node s x.node r.after) (removed s.replies j)) x r.answer h)

      go : (o : Option Reply) → (reply_arrives j ≡ reply_arrives i) ⊎ Back (replies s j o)
      go none = inr back
      go (some x) = left x (has_left s.replies i j q found)
  told_stays (reply_lost j) t = not_both false t refl
  told_stays (reply_repeats j) t = inr (go (nth s.replies j))
    where
      go : (o : Option Reply) → Back (reply_doubled s o)
      go none = back
      go (some x) = has_more s.replies (x ∷ []) q back
  told_stays (offer_arrives j index seq) t = inr (go (nth s.offers j))
    where
      act : (t : State) (o : Offer) (b : Bool) → Back t → Back (told t o b)
      act t o b h = by-test Back o.awaited (λ _. h) (λ _. h)

      go : (o : Option Offer) → Back (offered s j index seq o)
      go none = back
      go (some o) =
          let r = apply_bytes s.map (offer_bytes s o index seq) in
          act (set_offers (set_map s r.map) (removed s.offers j)) o (is_applied r.answer) back
  told_stays (offer_lost j) t = inr back
  told_stays (offer_times_out j) t = inr (go (nth s.offers j))
    where
      go : (o : Option Offer) → Back (given_up s j o)
      go none = back
      go (some o) = by-test Back o.awaited (λ _. back) (λ _. back)
  told_stays (outcome_arrives j) t = inr (go (nth s.outcomes j))
    where
      go : (o : Option Outcome) → Back (learnt s j o)
      go none = back
      go (some o) = back
  told_stays (outcome_lost j) t = inr back
  told_stays (outcome_times_out j) t = inr (go (nth s.outcomes j))
    where
      go : (o : Option Outcome) → Back (late s j o)
      go none = back
      go (some o) = back
