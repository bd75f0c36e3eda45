-- What each step leaves of the map and of the proposals under way: all of it, or more proposals behind those that were. Assumes nothing.
use Prim.Native.Nat.{ℕ}
use mathlib.Core.Path.{◌≡◌, refl, sym, ap, ◌∙◌}
use mathlib.Core.Bool.{Bool, true}
use mathlib.Core.List.{List, [], ◌∷◌, ◌++◌, map, append-nil}
use mathlib.Core.Option.{Option, none, some}
use Rattle.spec.specs.Keys.{Key}
use Rattle.spec.specs.Lists.{nth}
use Rattle.spec.specs.Layout.Message as message
use Rattle.spec.specs.Node.Client as client
use Rattle.spec.specs.Node.Client.{WriteAnswer, WaitAnswer}
use Rattle.spec.specs.Node.Backup.{BackupAnswer, replied, backup_refused}
use Rattle.spec.specs.Node.Ack.{AckAnswer, noted, expand, ack_refused, grow}
use Rattle.spec.specs.Node.Calls.{RequestAnswer, unsent, written, request_refused}
use Rattle.spec.specs.declared.Metric.{Metric}
use Rattle.spec_laws.proofs.Lists.{by-test}
use Rattle.spec_run.specs.State.{State, Request, Reply, Offer, Outcome, Write, set_node, set_requests, set_replies, set_offers, set_outcomes, set_writes}
use Rattle.spec_run.specs.Step.{on_shown, on_grant, record_write, on_write, on_search, shrink_of, waited, wait_for, on_wait, posted, on_work, answered, arrives, on_arrival, on_request_lost, doubled, on_request_repeats, reply_doubled, on_reply_repeats, acked, replies, on_reply, on_reply_lost, told, learnt, on_outcome, on_outcome_lost, late, on_outcome_timeout}

-- the map and the proposals as they were
pub record Same (s s' : State) : Type 0 where
  pub map : s'.map ≡ s.map
  pub offers : s'.offers ≡ s.offers

-- the map as it was, and proposals behind those that were
pub record More (s s' : State) : Type 0 where
  pub map : s'.map ≡ s.map
  pub new : List Offer
  pub offers : s'.offers ≡ s.offers ++ new

no_more : (s s' : State) → Same s s' → More s s'
no_more s s' h = record { map = h.map; new = []; offers = h.offers ∙ sym (append-nil s.offers) }

module _ (s : State) where
  pub shown-same : (n fresh : ℕ) → Same s (on_shown s n fresh)
  unfolding on_shown set_node
  shown-same n fresh = record { map = refl; offers = refl }

  pub grant-same : (n i sent lease : ℕ) → Same s (on_grant s n i sent lease)
  unfolding on_grant set_node
  grant-same n i sent lease = record { map = refl; offers = refl }

  pub search_same : (n now room : ℕ) (bytes : List ℕ) → Same s (on_search s n now room bytes)
  unfolding on_search set_node
  search_same n now room bytes = record { map = refl; offers = refl }

  recorded : (t : State) → Same s t → (n : ℕ) (m : Option message.Write) (a : WriteAnswer) → Same s (record_write t n m a)
  unfolding record_write set_writes
  recorded t h n none a = h
  recorded t h n (some m) (client.write_refused r) = h
  recorded t h n (some m) (client.accepted o) = record { map = h.map; offers = h.offers }

  pub write_same : (n now least : ℕ) (bytes : List ℕ) → Same s (on_write s n now least bytes)
  unfolding on_write set_node
  write_same n now least bytes = recorded _ (record { map = refl; offers = refl }) n _ _

  waits : (t : State) → Same s t → (w : Write) (a : WaitAnswer) → More s (waited t w a)
  unfolding waited set_offers set_writes
  waits t h w (client.wait_refused r) = no_more s t h
  waits t h w (client.waiting ps) = record {
    map = h.map;
    new = map (shrink_of w) ps;
    offers = ap (λ (l : List Offer). l ++ map (shrink_of w) ps) h.offers;
  }
  waits t h w (client.done ps) = record {
    map = h.map;
    new = map (shrink_of w) ps;
    offers = ap (λ (l : List Offer). l ++ map (shrink_of w) ps) h.offers;
  }

  pub wait_more : (i now timeout : ℕ) → More s (on_wait s i now timeout)
  unfolding on_wait wait_for set_node
  wait_more i now timeout = go (nth s.accepted i)
    where
      go : (o : Option Write) → More s (wait_for s now timeout o)
      go none = no_more s s (record { map = refl; offers = refl })
      go (some w) = waits _ (record { map = refl; offers = refl }) w _

  posts : (n : ℕ) (k : Key) (epoch peer : ℕ) (a : RequestAnswer) → Same s (posted s n k epoch peer a)
  unfolding posted set_requests
  posts n k epoch peer unsent = record { map = refl; offers = refl }
  posts n k epoch peer (request_refused r) = record { map = refl; offers = refl }
  posts n k epoch peer (written bytes) = record { map = refl; offers = refl }

  pub work_same : (n : ℕ) (k : Key) (epoch peer : ℕ) (metric : Metric) (room : ℕ) → Same s (on_work s n k epoch peer metric room)
  unfolding on_work
  work_same n k epoch peer metric room = posts n k epoch peer _

  replies-same : (t : State) → Same s t → (from to : ℕ) (q : Request) (a : BackupAnswer) → Same s (answered t from to q a)
  unfolding answered set_replies
  replies-same t h from to q (backup_refused r) = h
  replies-same t h from to q (replied r) = record { map = h.map; offers = h.offers }

  pub arrival-same : (from to i : ℕ) → Same s (on_arrival s from to i)
  unfolding on_arrival arrives set_requests set_node
  arrival-same from to i = go (nth (s.requests from to) i)
    where
      go : (o : Option Request) → Same s (arrives s from to i o)
      go none = record { map = refl; offers = refl }
      go (some q) = replies-same _ (record { map = refl; offers = refl }) from to q _

  acks : (t : State) → Same s t → (q : Reply) (a : AckAnswer) → More s (acked t q a)
  unfolding acked set_offers
  acks t h q noted = no_more s t h
  acks t h q (ack_refused r) = no_more s t h
  acks t h q expand =
      let new : List Offer =
      record { node = q.node; key = q.key; peer = q.peer; epoch = q.epoch; what = grow; awaited = true } ∷ [] in
      record { map = h.map; new = new; offers = ap (λ (l : List Offer). l ++ new) h.offers }

  pub reply-more : (i : ℕ) → More s (on_reply s i)
  unfolding on_reply replies set_replies set_node
  reply-more i = go (nth s.replies i)
    where
      go : (o : Option Reply) → More s (replies s i o)
      go none = no_more s s (record { map = refl; offers = refl })
      go (some q) = acks _ (record { map = refl; offers = refl }) q _

  pub request_lost_same : (from to i : ℕ) → Same s (on_request_lost s from to i)
  unfolding on_request_lost set_requests
  request_lost_same from to i = record { map = refl; offers = refl }

  pub reply_lost_same : (i : ℕ) → Same s (on_reply_lost s i)
  unfolding on_reply_lost set_replies
  reply_lost_same i = record { map = refl; offers = refl }

  pub request_again_same : (from to i : ℕ) → Same s (on_request_repeats s from to i)
  unfolding on_request_repeats doubled set_requests
  request_again_same from to i = go (nth (s.requests from to) i)
    where
      go : (o : Option Request) → Same s (doubled s from to o)
      go none = record { map = refl; offers = refl }
      go (some q) = record { map = refl; offers = refl }

  pub reply_again_same : (i : ℕ) → Same s (on_reply_repeats s i)
  unfolding on_reply_repeats reply_doubled set_replies
  reply_again_same i = go (nth s.replies i)
    where
      go : (o : Option Reply) → Same s (reply_doubled s o)
      go none = record { map = refl; offers = refl }
      go (some q) = record { map = refl; offers = refl }

  -- whether or not its outcome is awaited
  pub told_same : (o : Offer) (applied : Bool) → Same s (told s o applied)
  unfolding told set_outcomes
  told_same o applied =
      by-test (Same s) o.awaited (λ t. record { map = refl; offers = refl }) (λ t. record { map = refl; offers = refl })

  pub outcome-same : (i : ℕ) → Same s (on_outcome s i)
  unfolding on_outcome learnt set_outcomes set_node
  outcome-same i = go (nth s.outcomes i)
    where
      go : (o : Option Outcome) → Same s (learnt s i o)
      go none = record { map = refl; offers = refl }
      go (some o) = record { map = refl; offers = refl }

  pub outcome_lost_same : (i : ℕ) → Same s (on_outcome_lost s i)
  unfolding on_outcome_lost set_outcomes
  outcome_lost_same i = record { map = refl; offers = refl }

  pub outcome_late_same : (i : ℕ) → Same s (on_outcome_timeout s i)
  unfolding on_outcome_timeout late set_outcomes
  outcome_late_same i = go (nth s.outcomes i)
    where
      go : (o : Option Outcome) → Same s (late s i o)
      go none = record { map = refl; offers = refl }
      go (some o) = record { map = refl; offers = refl }
