-- A history's numbers of messages stand in the places of the messages: as many of requests between any two nodes, and as many of replies, as
-- the state has under way, after every event that the paper allows. So its rules refuse no message for want of a number. Assumes nothing.
use Prim.Native.Nat.{ℕ, zero, suc}
use native.Mathlib.Omega.{arith}
use mathlib.Core.Path.{◌≡◌, refl, sym, ap, subst, ◌∙◌}
use mathlib.Core.Bool.{Bool, true, false, cond}
use mathlib.Core.List.{List, [], ◌∷◌, ◌++◌}
use mathlib.Core.Option.{Option, none, some}
use lib.Dec.{eqb}
use lib.ListN.{length, drop}
use lib.Seq.{drop-append_seam}
use Rattle.spec.specs.Keys.{Key}
use Rattle.spec.specs.Lists.{nth}
use Rattle.spec.specs.Layout.Message as message
use Rattle.spec.specs.Node.Client as client
use Rattle.spec.specs.Node.Client.{WriteAnswer, WaitAnswer}
use Rattle.spec.specs.Node.Backup.{BackupAnswer, replied, backup_refused}
use Rattle.spec.specs.Node.Ack.{AckAnswer, noted, expand, ack_refused}
use Rattle.spec.specs.Node.Calls.{RequestAnswer, unsent, written, request_refused}
use Rattle.spec_laws.proofs.Lists.{by-test, not_both, none_some}
use Rattle.spec_run.specs.State.{State, Request, Reply, Offer, Outcome, Write, at, set_map, set_node, set_requests, set_replies, set_offers, set_outcomes, set_writes}
use Rattle.spec_run.specs.Event.{
  Event,
  command,
  map_shown,
  lease_granted,
  client_writes,
  client_searches,
  node_waits,
  worker_steps,
  request_arrives,
  request_lost,
  request_repeats,
  reply_arrives,
  reply_lost,
  reply_repeats,
  offer_arrives,
  offer_lost,
  offer_times_out,
  outcome_arrives,
  outcome_lost,
  outcome_times_out,
}
use Rattle.spec_run.specs.Step as step
use Rattle.spec_run.specs.Step.{removed, on_command, on_shown, on_grant, record_write, on_write, on_search, waited, wait_for, on_wait, posted, on_work, answered, arrives, on_arrival, on_request_lost, doubled, on_request_repeats, acked, replies, on_reply, on_reply_lost, reply_doubled, on_reply_repeats, told, offered, on_offer, on_offer_lost, given_up, on_offer_timeout, learnt, on_outcome, on_outcome_lost, late, on_outcome_timeout}
use Rattle.thm_run.proofs.Paper.Turns.{at_same}
use Rattle.spec_run.specs.Fresh.{Fresh}
use Rattle.spec_run.specs.Paper.{Mail, History, Seqs, fresh_history, posting, replying, without_request, without_reply, request_again, reply_again, remember, is_there, counts, paper}

-- as many numbers as messages
pub record Beside (s : State) (m : Mail) : Type 0 where
  pub requests : (a b : ℕ) → length (m.requests a b) ≡ length (s.requests a b)
  pub replies : length m.replies ≡ length s.replies

-- the messages as they were
pub record SameMail (s s' : State) : Type 0 where
  pub requests : s'.requests ≡ s.requests
  pub replies : s'.replies ≡ s.replies

-- ---- lists

removed_long : {A B : Type 0} (l : List A) (m : List B) (i : ℕ) → length l ≡ length m → length (removed l i) ≡ length (removed m i)
unfolding removed
removed_long [] [] i e = refl
removed_long [] (y ∷ ys) i e = absurd (omega arith)
removed_long (x ∷ xs) [] i e = absurd (omega arith)
removed_long (x ∷ xs) (y ∷ ys) zero e = omega arith
removed_long (x ∷ xs) (y ∷ ys) (suc i) e = let h : length xs ≡ length ys = omega arith in ap suc (removed_long xs ys i h)

snoc_long : {A : Type 0} (l : List A) (x : A) → length (l ++ (x ∷ [])) ≡ suc (length l)
snoc_long [] x = refl
snoc_long (y ∷ ys) x = ap suc (snoc_long ys x)

-- where one list has an element at a place, one as long has one too
there : {A B : Type 0} (l : List A) (m : List B) (i : ℕ) (x : A) → nth l i ≡ some x → length l ≡ length m → (y : B) × (nth m i ≡ some y)
unfolding nth
there [] m i x e h = none_some e
there (a ∷ as') [] i x e h = absurd (omega arith)
there (a ∷ as') (b ∷ bs) zero x e h = (b, refl)
there (a ∷ as') (b ∷ bs) (suc i) x e h = there as' bs i x e (omega arith)

-- nothing stands behind all of it
none-new : {A : Type 0} (l : List A) → drop (length l) l ≡ []
none-new [] = refl
none-new (x ∷ xs) = none-new xs

-- two maps of two numbers that change at one place
link_long : {A B : Type 0} (f : ℕ → ℕ → List A) (g : ℕ → ℕ → List B) (n p : ℕ) (x : List A) (y : List B)
    → ((a b : ℕ) → length (f a b) ≡ length (g a b)) → length x ≡ length y
    → (a b : ℕ) → length (at f n (at (f n) p x) a b) ≡ length (at g n (at (g n) p y) a b)
unfolding at
link_long f g n p x y h e a b = go (eqb a n)
  where
    inner : (t : Bool) → length (cond t x (f n b)) ≡ length (cond t y (g n b))
    inner true = e
    inner false = h n b

    go : (s : Bool) → length (cond s (at (f n) p x) (f a) b) ≡ length (cond s (at (g n) p y) (g a) b)
    go true = inner (eqb b p)
    go false = h a b

-- ---- steps that leave the messages

module _ (s : State) where
  abbrev as_it_was : SameMail s s
  as_it_was = record { requests = refl; replies = refl }

  recorded : (t : State) → SameMail s t → (n : ℕ) (m : Option message.Write) (a : WriteAnswer) → SameMail s (record_write t n m a)
  unfolding record_write set_writes
  recorded t h n none a = h
  recorded t h n (some m) (client.write_refused r) = h
  recorded t h n (some m) (client.accepted o) = record { requests = h.requests; replies = h.replies }

  write_mail : (n now least : ℕ) (bytes : List ℕ) → SameMail s (on_write s n now least bytes)
  unfolding on_write set_node
  write_mail n now least bytes = recorded _ (record { requests = refl; replies = refl }) n _ _

  waits : (t : State) → SameMail s t → (w : Write) (a : WaitAnswer) → SameMail s (waited t w a)
  unfolding waited set_offers set_writes
  waits t h w (client.wait_refused r) = h
  waits t h w (client.waiting ps) = record { requests = h.requests; replies = h.replies }
  waits t h w (client.done ps) = record { requests = h.requests; replies = h.replies }

  wait_mail : (i now timeout : ℕ) → SameMail s (on_wait s i now timeout)
  unfolding on_wait wait_for set_node
  wait_mail i now timeout = go (nth s.accepted i)
    where
      go : (o : Option Write) → SameMail s (wait_for s now timeout o)
      go none = as_it_was
      go (some w) = waits _ (record { requests = refl; replies = refl }) w _

  told_mail : (t : State) → SameMail s t → (o : Offer) (applied : Bool) → SameMail s (told t o applied)
  unfolding told set_outcomes
  told_mail t h o applied =
      by-test (SameMail s) o.awaited (λ e. record { requests = h.requests; replies = h.replies }) (λ e. h)

  offer_mail : (i index seq : ℕ) → SameMail s (on_offer s i index seq)
  unfolding on_offer offered set_offers set_map
  offer_mail i index seq = go (nth s.offers i)
    where
      go : (o : Option Offer) → SameMail s (offered s i index seq o)
      go none = as_it_was
      go (some o) = told_mail _ (record { requests = refl; replies = refl }) o _

  late_mail : (i : ℕ) → SameMail s (on_offer_timeout s i)
  unfolding on_offer_timeout given_up set_offers
  late_mail i = go (nth s.offers i)
    where
      go : (o : Option Offer) → SameMail s (given_up s i o)
      go none = as_it_was
      go (some o) = let h = told_mail s as_it_was o false in record { requests = h.requests; replies = h.replies }

  outcome_mail : (i : ℕ) → SameMail s (on_outcome s i)
  unfolding on_outcome learnt set_outcomes set_node
  outcome_mail i = go (nth s.outcomes i)
    where
      go : (o : Option Outcome) → SameMail s (learnt s i o)
      go none = as_it_was
      go (some o) = record { requests = refl; replies = refl }

  outcome_late_mail : (i : ℕ) → SameMail s (on_outcome_timeout s i)
  unfolding on_outcome_timeout late set_outcomes
  outcome_late_mail i = go (nth s.outcomes i)
    where
      go : (o : Option Outcome) → SameMail s (late s i o)
      go none = as_it_was
      go (some o) = record { requests = refl; replies = refl }

-- ---- steps that send, hear or lose a message

module _ (s : State) (m : Mail) (b : Beside s m) where
  same : (s' : State) → SameMail s s' → Beside s' m
  same s' h = record {
    requests = λ a c. b.requests a c ∙ ap (λ (f : ℕ → ℕ → List Request). length (f a c)) (sym h.requests);
    replies = b.replies ∙ ap (λ (l : List Reply). length l) (sym h.replies);
  }

  -- a worker's step
  work : (n : ℕ) (k : Key) (epoch peer : ℕ) (a : RequestAnswer)
      → Beside (posted s n k epoch peer a) (posting m n k epoch peer (drop (length (s.requests n peer)) ((posted s n k epoch peer a).requests n peer)))
  unfolding posted set_requests
  work n k epoch peer unsent =
      subst (λ (l : List Request). Beside s (posting m n k epoch peer l)) (sym (none-new (s.requests n peer))) b
  work n k epoch peer (request_refused r) =
      subst (λ (l : List Request). Beside s (posting m n k epoch peer l)) (sym (none-new (s.requests n peer))) b
  work n k epoch peer (written bytes) =
      let l = s.requests n peer in
      let x : Request = record { sent = step.sent_of bytes; key = k; epoch = epoch; bytes = bytes } in
      let f = at s.requests n (at (s.requests n) peer (l ++ (x ∷ []))) in
      let here : f n peer ≡ l ++ (x ∷ []) =
      ap (λ (g : ℕ → List Request). g peer) (at_same s.requests n (at (s.requests n) peer (l ++ (x ∷ [])))) ∙ at_same (s.requests n) peer (l ++ (x ∷ [])) in
      subst (λ (z : List Request). Beside (set_requests s n peer (l ++ (x ∷ []))) (posting m n k epoch peer z))
      (sym (ap (drop (length l)) here ∙ drop-append_seam l (x ∷ [])))
      (record {
        requests =
            link_long m.requests s.requests n peer (m.requests n peer ++ (m.count ∷ [])) (l ++ (x ∷ [])) b.requests
            (snoc_long (m.requests n peer) m.count ∙ ap suc (b.requests n peer) ∙ sym (snoc_long l x));
        replies = b.replies;
      })

  -- a request that arrives, and its answer
  arrival : (from to i j : ℕ) (q : Request) (t : State) (a : BackupAnswer) → t.replies ≡ s.replies
      → ((c d : ℕ) → length ((without_request m from to i).requests c d) ≡ length (t.requests c d))
      → Beside (answered t from to q a)
      (replying (without_request m from to i) (some j) (drop (length s.replies) (answered t from to q a).replies))
  unfolding answered set_replies
  arrival from to i j q t (backup_refused r) e f =
      subst (λ (l : List Reply). Beside t (replying (without_request m from to i) (some j) l))
      (sym (ap (drop (length s.replies)) e ∙ none-new s.replies))
      (record { requests = f; replies = b.replies ∙ ap (λ (l : List Reply). length l) (sym e) })
  arrival from to i j q t (replied r) e f =
      let x : Reply = record { node = from; peer = to; sent = q.sent; key = q.key; epoch = q.epoch; bytes = message.encode_reply r } in
      subst (λ (l : List Reply). Beside (set_replies t (t.replies ++ (x ∷ []))) (replying (without_request m from to i) (some j) l))
      (sym (ap (λ (l : List Reply). drop (length s.replies) (l ++ (x ∷ []))) e ∙ drop-append_seam s.replies (x ∷ [])))
      (record {
        requests = f;
        replies =
            snoc_long m.replies j
            ∙ ap suc (b.replies ∙ ap (λ (l : List Reply). length l) (sym e)) ∙ sym (snoc_long t.replies x);
      })

  -- the numbers of the requests, one of them gone
  without_long : (from to i c d : ℕ)
      → length (at m.requests from (at (m.requests from) to (removed (m.requests from to) i)) c d)
      ≡ length (at s.requests from (at (s.requests from) to (removed (s.requests from to) i)) c d)
  without_long from to i =
      link_long m.requests s.requests from to (removed (m.requests from to) i) (removed (s.requests from to) i) b.requests
      (removed_long (m.requests from to) (s.requests from to) i (b.requests from to))

  heard : (from to i : ℕ) → is_there (nth (s.requests from to) i) ≡ true
      → Beside (on_arrival s from to i)
      (replying (without_request m from to i) (nth (m.requests from to) i) (drop (length s.replies) (on_arrival s from to i).replies))
  unfolding on_arrival arrives set_requests set_node
  heard from to i t = go (nth (s.requests from to) i) refl t
    where
      go : (o : Option Request) → nth (s.requests from to) i ≡ o → is_there o ≡ true
          → Beside (arrives s from to i o)
          (replying (without_request m from to i) (nth (m.requests from to) i) (drop (length s.replies) (arrives s from to i o).replies))
      go none e p = not_both false p refl
      go (some q) e p =
          let j = there (s.requests from to) (m.requests from to) i q e (sym (b.requests from to)) in
          subst (λ (o : Option ℕ). Beside (arrives s from to i (some q))
          (replying (without_request m from to i) o (drop (length s.replies) (arrives s from to i (some q)).replies))) (sym j.1)
          (arrival from to i j.0 q _ _ refl (without_long from to i))

  -- a request that comes once more
  request-again : (from to i : ℕ) → Beside (on_request_repeats s from to i) (request_again m from to (nth (m.requests from to) i))
  unfolding on_request_repeats doubled set_requests
  request-again from to i = go (nth (s.requests from to) i) (nth (m.requests from to) i) refl refl
    where
      go : (o : Option Request) (u : Option ℕ) → nth (s.requests from to) i ≡ o → nth (m.requests from to) i ≡ u
          → Beside (doubled s from to o) (request_again m from to u)
      go none none e f = b
      go none (some k) e f =
          none_some (sym e ∙ (there (m.requests from to) (s.requests from to) i k f (b.requests from to)).1)
      go (some q) none e f =
          none_some (sym f ∙ (there (s.requests from to) (m.requests from to) i q e (sym (b.requests from to))).1)
      go (some q) (some k) e f = record {
        requests =
            link_long m.requests s.requests from to (m.requests from to ++ (k ∷ [])) (s.requests from to ++ (q ∷ [])) b.requests
            (snoc_long (m.requests from to) k ∙ ap suc (b.requests from to) ∙ sym (snoc_long (s.requests from to) q));
        replies = b.replies;
      }

  -- a reply that comes once more
  reply-again : (i : ℕ) → Beside (on_reply_repeats s i) (reply_again m (nth m.replies i))
  unfolding on_reply_repeats reply_doubled set_replies
  reply-again i = go (nth s.replies i) (nth m.replies i) refl refl
    where
      go : (o : Option Reply) (u : Option ℕ) → nth s.replies i ≡ o → nth m.replies i ≡ u → Beside (reply_doubled s o) (reply_again m u)
      go none none e f = b
      go none (some k) e f = none_some (sym e ∙ (there m.replies s.replies i k f b.replies).1)
      go (some q) none e f = none_some (sym f ∙ (there s.replies m.replies i q e (sym b.replies)).1)
      go (some q) (some k) e f = record {
        requests = b.requests;
        replies = snoc_long m.replies k ∙ ap suc b.replies ∙ sym (snoc_long s.replies q);
      }

  -- a reply that arrives
  acks : (i : ℕ) (t : State) → t.requests ≡ s.requests → t.replies ≡ removed s.replies i → (q : Reply) (a : AckAnswer)
      → Beside (acked t q a) (without_reply m i)
  unfolding acked set_offers
  acks i t e f q a = go a
    where
      here : Beside t (without_reply m i)
      here = record {
        requests = λ c d. b.requests c d ∙ ap (λ (g : ℕ → ℕ → List Request). length (g c d)) (sym e);
        replies = removed_long m.replies s.replies i b.replies ∙ ap (λ (l : List Reply). length l) (sym f);
      }

      go : (a : AckAnswer) → Beside (acked t q a) (without_reply m i)
      go noted = here
      go (ack_refused r) = here
      go expand = record { requests = here.requests; replies = here.replies }

  counted : (i : ℕ) → counts m (nth s.replies i) (nth m.replies i) ≡ true → Beside (on_reply s i) (without_reply m i)
  unfolding on_reply replies set_replies set_node
  counted i t = go (nth s.replies i) t
    where
      go : (o : Option Reply) → counts m o (nth m.replies i) ≡ true → Beside (replies s i o) (without_reply m i)
      go none p = not_both false p refl
      go (some q) p = acks i _ refl refl q _

-- ---- every event

pub stays_beside : (q : Seqs) (s : State) (h : History) (e : Event) → paper q s h e ≡ true → Beside s h.mail → Beside (step.step s e) (remember s h e).mail
unfolding paper step.step remember on_command set_map on_shown on_grant on_search set_node on_work on_request_lost set_requests on_reply_lost set_replies on_offer_lost set_offers on_outcome_lost set_outcomes
stays_beside q s h (command bytes) t b = record { requests = b.requests; replies = b.replies }
stays_beside q s h (map_shown n fresh) t b = record { requests = b.requests; replies = b.replies }
stays_beside q s h (lease_granted n i sent lease) t b = record { requests = b.requests; replies = b.replies }
stays_beside q s h (client_writes n now least bytes) t b = same s h.mail b _ (write_mail s n now least bytes)
stays_beside q s h (client_searches n now room bytes) t b = record { requests = b.requests; replies = b.replies }
stays_beside q s h (node_waits i now timeout) t b = same s h.mail b _ (wait_mail s i now timeout)
stays_beside q s h (worker_steps n k epoch peer metric room) t b = work s h.mail b n k epoch peer _
stays_beside q s h (request_arrives from to i) t b =
    heard s h.mail b from to i t
stays_beside q s h (request_lost from to i) t b = record { requests = without_long s h.mail b from to i; replies = b.replies }
stays_beside q s h (request_repeats from to i) t b = request-again s h.mail b from to i
stays_beside q s h (reply_arrives i) t b = counted s h.mail b i t
stays_beside q s h (reply_lost i) t b = record {
  requests = b.requests;
  replies = removed_long h.mail.replies s.replies i b.replies;
}
stays_beside q s h (reply_repeats i) t b = reply-again s h.mail b i
stays_beside q s h (offer_arrives i index seq) t b = same s h.mail b _ (offer_mail s i index seq)
stays_beside q s h (offer_lost i) t b = record { requests = b.requests; replies = b.replies }
stays_beside q s h (offer_times_out i) t b = same s h.mail b _ (late_mail s i)
stays_beside q s h (outcome_arrives i) t b = same s h.mail b _ (outcome_mail s i)
stays_beside q s h (outcome_lost i) t b = record { requests = b.requests; replies = b.replies }
stays_beside q s h (outcome_times_out i) t b = same s h.mail b _ (outcome_late_mail s i)

-- a fresh history's numbers stand beside nothing
pub fresh-beside : (s : State) (f : Fresh s) → Beside s (fresh_history s f.shard).mail
unfolding fresh_history
fresh-beside s f = record {
  requests = λ a b. ap (λ (l : List Request). length l) (sym (f.requests a b));
  replies = ap (λ (l : List Reply). length l) (sym f.replies);
}
