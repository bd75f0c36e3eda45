-- An event between nodes 1 and 2 leaves every other link as it was: of a computed run, only the two links between them are looked at.
-- Assumes nothing.
use Prim.Native.Nat.{ℕ}
use mathlib.Core.Path.{◌≡◌, refl, ap, ◌∙◌}
use mathlib.Core.Logic.{◌⊎◌, inl, inr}
use mathlib.Core.List.{List, [], ◌∷◌, ◌++◌}
use mathlib.Core.Option.{Option, none, some}
use Rattle.spec.specs.Keys.{Key}
use Rattle.spec.specs.Lists.{nth}
use Rattle.spec.specs.Layout.Message as message
use Rattle.spec.specs.Layout.Message.{decode_write}
use Rattle.spec.specs.Node.Client as client
use Rattle.spec.specs.Node.Client.{WriteAnswer}
use Rattle.spec.specs.Node.Ack.{AckAnswer, noted, expand, ack_refused}
use Rattle.spec.specs.Node.Backup.{BackupAnswer, replied, backup_refused}
use Rattle.spec.specs.Node.Calls.{call_write, RequestAnswer, unsent, written, request_refused, call_request, call_ack}
use Rattle.spec.specs.declared.Metric.{Metric}
use Rattle.spec_run.specs.State.{State, Request, Reply, set_map, set_node, set_requests, set_replies, set_offers, set_writes}
use Rattle.spec_run.specs.Event.{Event, command, map_shown, lease_granted, client_writes, worker_steps, request_arrives, reply_arrives}
use Rattle.spec_run.specs.Step.{removed, sent_of, step, run, on_shown, on_command, on_grant, on_write, record_write, on_work, posted, heard, answered, arrives, on_arrival, acked, replies, on_reply}
use Rattle.thm_run.proofs.Protocol.Base.{All, at_pair}
use Rattle.thm_rounds.specs.Rounds.{Still}
use Rattle.thm_rounds.proofs.UnderWay.{link}

-- an event that touches no link but those between nodes 1 and 2
abbrev pub Pair : (n m : ℕ) → Type 0
Pair n m = ((n ≡ 1) × (m ≡ 2)) ⊎ ((n ≡ 2) × (m ≡ 1))

pub data Only : Event → Type 0 where
  shows : (n fresh : ℕ) → Only (map_shown n fresh)
  commands : (bytes : List ℕ) → Only (command bytes)
  grants : (n i sent lease : ℕ) → Only (lease_granted n i sent lease)
  writes : (n now least : ℕ) (bytes : List ℕ) → Only (client_writes n now least bytes)
  steps : (n : ℕ) (k : Key) (e m : ℕ) (metric : Metric) (room : ℕ) → Pair n m → Only (worker_steps n k e m metric room)
  arrivals : (n m i : ℕ) → Pair n m → Only (request_arrives n m i)
  counts : (i : ℕ) → Only (reply_arrives i)

module _ (a b : ℕ) (out : Pair a b → ⊥) where
  abbrev Same : State → State → Type 0
  Same s t = t.requests a b ≡ s.requests a b

  apart : (n m : ℕ) → Pair n m → a ≡ n → b ≡ m → ⊥
  apart n m (inl e) p q = out (inl (p ∙ e.0, q ∙ e.1))
  apart n m (inr e) p q = out (inr (p ∙ e.0, q ∙ e.1))

  elsewhere : (s : State) (e : Event) → Only e → Same s (step s e)
  unfolding step on_shown on_command on_grant on_write record_write on_work posted on_arrival arrives answered on_reply replies acked set_map set_node set_replies set_offers set_writes
  elsewhere s e (shows n fresh) = refl
  elsewhere s e (commands bytes) = refl
  elsewhere s e (grants n i sent lease) = refl
  elsewhere s e (writes n now least bytes) = go (decode_write bytes) (call_write (s.nodes n) now least bytes).answer
    where
      go : (o : Option message.Write) (v : WriteAnswer) → Same s (record_write (set_node s n (call_write (s.nodes n) now least bytes).after) n o v)
      go none v = refl
      go (some m) (client.write_refused r) = refl
      go (some m) (client.accepted o) = refl
  elsewhere s e (steps n k d m metric room pair) = go (call_request (s.nodes n) room k d m metric)
    where
      go : (r : RequestAnswer) → Same s (posted s n k d m r)
      go unsent = refl
      go (request_refused r) = refl
      go (written bytes) =
          link a b (λ l. l ≡ s.requests a b) s n m (s.requests n m ++ (record { sent = sent_of bytes; key = k; epoch = d; bytes = bytes } ∷ []))
          (λ p q. absurd (apart n m pair p q)) refl
  elsewhere s e (arrivals n m i pair) = go (nth (s.requests n m) i)
    where
      after : (t : State) (q : Request) (v : BackupAnswer) → Same s t → Same s (answered t n m q v)
      after t q (replied r) h = h
      after t q (backup_refused r) h = h

      go : (o : Option Request) → Same s (arrives s n m i o)
      go none = refl
      go (some q) =
          let r = heard (s.nodes m) q.sent q.bytes in
          after (set_requests (set_node s m r.after) n m (removed (s.requests n m) i)) q r.answer
          (link a b (λ l. l ≡ s.requests a b) (set_node s m r.after) n m (removed (s.requests n m) i) (λ p q. absurd (apart n m pair p q)) refl)
  elsewhere s e (counts i) = go (nth s.replies i)
    where
      after : (t : State) (q : Reply) (v : AckAnswer) → Same s t → Same s (acked t q v)
      after t q noted h = h
      after t q expand h = h
      after t q (ack_refused r) h = h

      go : (o : Option Reply) → Same s (replies s i o)
      go none = refl
      go (some q) =
          let r = call_ack (s.nodes q.node) q.key q.epoch q.peer q.sent q.bytes in
          after (set_replies (set_node s q.node r.after) (removed s.replies i)) q r.answer refl

  elsewhere_run : (es : List Event) (s : State) → All Only es → Same s (run s es)
  unfolding run
  elsewhere_run [] s o = refl
  elsewhere_run (e ∷ es) s o = elsewhere_run es (step s e) o.1 ∙ elsewhere s e o.0

-- so it is enough to look between the two
pub still-run : (s : State) (es : List Event) → ((a b : ℕ) → (Pair a b → ⊥) → s.requests a b ≡ []) → All Only es → (run s es).requests 1 2 ≡ []
    → (run s es).requests 2 1 ≡ [] → (run s es).replies ≡ [] → Still (run s es)
still-run s es empty o one two silent = record {
  requests = λ a b.
      at_pair ((run s es).requests a b ≡ []) a b 1 2
      (λ p q. ap (λ (n : ℕ). (run s es).requests n b) p ∙ ap ((run s es).requests 1) q ∙ one)
      (λ f. at_pair ((run s es).requests a b ≡ []) a b 2 1
      (λ p q. ap (λ (n : ℕ). (run s es).requests n b) p ∙ ap ((run s es).requests 2) q ∙ two)
      (λ g. let out : Pair a b → ⊥ = either a b f g in elsewhere_run a b out es s o ∙ empty a b out));
  replies = silent;
}
  where
    either : (a b : ℕ) → (a ≡ 1 → b ≡ 2 → ⊥) → (a ≡ 2 → b ≡ 1 → ⊥) → Pair a b → ⊥
    either a b f g (inl e) = f e.0 e.1
    either a b f g (inr e) = g e.0 e.1

pub onwards : (s : State) → Still s → (a b : ℕ) → (Pair a b → ⊥) → s.requests a b ≡ []
onwards s k a b out = k.requests a b
