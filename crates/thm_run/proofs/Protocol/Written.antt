-- Request 2.5: an entry's epoch never changes on the way. Every entry of a log, and of a batch under way, is a Write that some node accepted
-- in that epoch, at that offset. The definition, and that every move keeps it. Assumes nothing.
use Prim.Native.Nat.{ℕ, suc, ◌+◌}
use mathlib.Core.Path.{◌≡◌, refl, ap, ◌∙◌}
use mathlib.Core.Bool.{Bool}
use mathlib.Core.List.{List, [], ◌∷◌, ◌++◌}
use mathlib.Core.Option.{Option, none, some}
use native.Mathlib.Omega.{arith}
use lib.Dec.{eqb, leb, ltb}
use lib.ListN.{length}
use Rattle.spec.specs.Lists.{nth}
use Rattle.spec.specs.Log.{Op, Entry, Log, End, ShardReplica, append, push, store, store_all, keep, agrees, cut_to, promote, entries_from}
use Rattle.spec_laws.proofs.Lists.{by-test, nth_lt, nth-append, nth_last}
use Rattle.spec_laws.proofs.Log.Numbered.{from_at}
use Rattle.spec_laws.proofs.Log.Store.{store_cases}
use Rattle.thm_run.proofs.Protocol.Base.{All, all_map, all_snoc, all-nth, nth-all, upd, upd-all, upd2, upd2-all, remove_at}
use Rattle.thm_run.proofs.Protocol.Sets.{member, without}
use Rattle.thm_run.proofs.Protocol.State.{Lead, Role, backup, lead, Node, Request, align, send, Reply, Proposal, Outcome, Accepted, State, set_map, set_node, set_requests, add_reply, set_proposals, set_outcomes, add_accepted, add_acknowledged}
use Rattle.thm_run.proofs.Protocol.State.{Move, promotion, decision, rejection, outcome, silence, showing, writing, alignment, batch, arrival, counting, joining, suspicion, waiting, step, run, fresh}
use Rattle.thm_run.proofs.Protocol.State.{with_role, with_ack, lead_at, leader, show_as, on_show, on_promote, expanded, shrunk, may_take, take_as, on_take, on_forget, on_untell, suspect_as, on_suspect, all_acked, ack_lead, ack_as, on_acknowledge, post, align_as, on_align, send_batch, send_as, on_send, leads_from, replied, adopting, storing, hear_one, hear_as, on_hear, counted_as, count_role, count_as, on_count, may_join, join_lead, join_as, on_join, told_as, tell_as, on_tell, write_as, on_write}
use Rattle.spec.specs.declared.Metric.{Metric}
use Rattle.thm_run.proofs.Protocol.OnPropose.{lead_of}
use Rattle.thm_run.proofs.Protocol.Run.{Inv, on_move}

abbrev pub EntryIn : List Accepted → Entry → Type 0
EntryIn acc x = (j : ℕ) × (n : ℕ) × (nth acc j ≡ some (record { node = n; epoch = x.epoch; offset = x.offset; op = x.op }))

abbrev pub RequestIn : List Accepted → Request → Type 0
RequestIn acc (align e end t) = Unit
RequestIn acc (send e es) = All (EntryIn acc) es

pub record Known (acc : List Accepted) (nodes : ℕ → Node) (requests : ℕ → ℕ → List Request) : Type 0 where
  pub logs : (n : ℕ) → All (EntryIn acc) (nodes n).replica.log
  pub batches : (a p : ℕ) → All (RequestIn acc) (requests a p)

abbrev pub KnownAt : State → Type 0
KnownAt s = Known s.accepted s.nodes s.requests

-- ---- parts of logs

all_keep : (P : Entry → Type 0) (end : ℕ) (t : List End) (l : Log) → All P l → All P (keep end t l)
unfolding keep
all_keep P end t [] h = tt
all_keep P end t (x ∷ xs) h = by-test (All P) (agrees end t x) (λ q. (h.0, all_keep P end t xs h.1)) (λ q. tt)

all-store : (P : Entry → Type 0) (r : ShardReplica) (e : ℕ) (x : Entry) → All P r.log → P x → All P (store r e x).replica.log
unfolding push
all-store P r e x h p = store_cases (λ v. All P v.replica.log) r e x (λ _ _. all_snoc P r.log x h p) (λ _ _. h) (λ _ _. h) (λ _. h)

all_store_all : (P : Entry → Type 0) (r : ShardReplica) (e : ℕ) (es : Log) → All P r.log → All P es → All P (store_all r e es).log
unfolding store_all
all_store_all P r e [] h p = h
all_store_all P r e (x ∷ xs) h p = all_store_all P (store r e x).replica e xs (all-store P r e x h p.0) p.1

all_from : (P : Entry → Type 0) (l : Log) (from size : ℕ) → All P l → All P (entries_from l from size)
all_from P l from size h = nth-all P (entries_from l from size) (λ i x q. all-nth P l _ x h (from_at l from size i x q).1)

-- ---- one part changed

module _ (acc : List Accepted) (nodes : ℕ → Node) (requests : ℕ → ℕ → List Request) (k : Known acc nodes requests) where
  on-node : (n : ℕ) (z : Node) → All (EntryIn acc) z.replica.log → Known acc (upd nodes n z) requests
  on-node n z h = record { logs = upd-all (λ m (y : Node). All (EntryIn acc) y.replica.log) h (λ m ne. k.logs m); batches = k.batches }

  on_role : (n : ℕ) (r : Role) → Known acc (upd nodes n (with_role (nodes n) r)) requests
  unfolding with_role
  on_role n r = on-node n (with_role (nodes n) r) (k.logs n)

  on-request : (a p : ℕ) (r : Request) → RequestIn acc r → Known acc nodes (upd2 requests a p (requests a p ++ (r ∷ [])))
  on-request a p r h = record {
    logs = k.logs;
    batches = upd2-all (λ c d v. All (RequestIn acc) v) (all_snoc (RequestIn acc) (requests a p) r (k.batches a p) h) (λ c d ne. k.batches c d);
  }

  later : (w : Accepted) (x : Entry) → EntryIn acc x → EntryIn (acc ++ (w ∷ [])) x
  later w x h = (h.0, h.1, nth-append acc (w ∷ []) h.0 (nth_lt acc h.0 _ h.2) ∙ h.2)

  request_later : (w : Accepted) (r : Request) → RequestIn acc r → RequestIn (acc ++ (w ∷ [])) r
  request_later w (align e end t) h = tt
  request_later w (send e es) h = all_map (later w) es h

  on-accepted : (w : Accepted) → Known (acc ++ (w ∷ [])) nodes requests
  on-accepted w = record {
    logs = λ n. all_map (later w) (nodes n).replica.log (k.logs n);
    batches = λ a p. all_map (request_later w) (requests a p) (k.batches a p);
  }

-- ---- moves

module _ (s : State) (v : Inv s) (k : KnownAt s) where
  role_only : (n : ℕ) (r : Role) → KnownAt (set_node s n (with_role (s.nodes n) r))
  unfolding set_node
  role_only n r = on_role s.accepted s.nodes s.requests k n r

  take-kept : (i : ℕ) (told : Bool) (o : Option Proposal) → KnownAt (take_as s i told o)
  unfolding take_as expanded shrunk set_map set_proposals set_outcomes
  take-kept i told none = k
  take-kept i told (some p) =
      by-test KnownAt (may_take s.map p) (λ t. by-test KnownAt p.expand (λ u. k) (λ u. k)) (λ t. k)

  tell_kept : (i : ℕ) (o : Option Outcome) → KnownAt (tell_as s i o)
  unfolding tell_as told_as set_outcomes set_node
  tell_kept i none = k
  tell_kept i (some o) = go (lead_at (s.nodes o.node).role o.epoch)
    where
      go : (l : Option Lead) → KnownAt (told_as (set_outcomes s (remove_at s.outcomes i)) o l)
      go none = k
      go (some l) = role_only o.node (lead (with_ack l (without o.peer l.ack)))

  show_kept : (n : ℕ) (o : Option Lead) → KnownAt (show_as s n o)
  unfolding show_as leader set_node promote
  show_kept n (some l) = k
  show_kept n none =
      by-test KnownAt (leb (s.nodes n).replica.epoch s.map.epoch)
      (λ t. on-node s.accepted s.nodes s.requests k n (leader (s.nodes n) s.map) (k.logs n)) (λ t. k)

  write_kept : (n : ℕ) (op : Op) (r : Role) → (s.nodes n).role ≡ r → KnownAt (write_as s n op r)
  unfolding write_as add_accepted set_node append push
  write_kept n op backup q = k
  write_kept n op (lead l) q =
      let w : Accepted = record { node = n; epoch = l.epoch; offset = suc (length (s.nodes n).replica.log); op = op } in
      let acc = s.accepted ++ (w ∷ []) in
      let m = on-accepted s.accepted s.nodes s.requests k w in
      let e : l.epoch ≡ (s.nodes n).replica.epoch = (lead_of v.history s v.clauses n l q).epoch in
      on-node acc s.nodes s.requests m n (record { replica = append (s.nodes n).replica op; role = lead l })
      (all_snoc (EntryIn acc) (s.nodes n).replica.log (record { epoch = (s.nodes n).replica.epoch; offset = length (s.nodes n).replica.log + 1; op = op }) (m.logs n)
      (length s.accepted, n, nth_last s.accepted w ∙ ap some (same e)))
    where
      one : (e o : ℕ) → Accepted
      one e o = record { node = n; epoch = e; offset = o; op = op }

      same : {d e : ℕ} → d ≡ e → one d (suc (length (s.nodes n).replica.log)) ≡ one e (length (s.nodes n).replica.log + 1)
      same q = let o : suc (length (s.nodes n).replica.log) ≡ length (s.nodes n).replica.log + 1 = omega arith in rw (q, o)

  align_kept : (a p : ℕ) (r : Role) → KnownAt (align_as s a p r)
  unfolding align_as post set_requests
  align_kept a p backup = k
  align_kept a p (lead l) =
      let asks = on-request s.accepted s.nodes s.requests k a p (align l.epoch l.end l.table) tt in
      by-test KnownAt (eqb a p) (λ t. asks) (λ t. by-test KnownAt (l.aligned p) (λ u. k) (λ u. asks))

  batch-kept : (a p e : ℕ) (es : Log) → All (EntryIn s.accepted) es → KnownAt (send_batch s a p e es)
  unfolding send_batch post set_requests
  batch-kept a p e [] h = k
  batch-kept a p e (x ∷ xs) h = on-request s.accepted s.nodes s.requests k a p (send e (x ∷ xs)) h

  send_kept : (a p from size : ℕ) (r : Role) → KnownAt (send_as s a p from size r)
  unfolding send_as
  send_kept a p from size backup = k
  send_kept a p from size (lead l) =
      by-test KnownAt (eqb a p) (λ t. k)
      (λ t. by-test KnownAt (l.aligned p)
      (λ u. batch-kept a p l.epoch (entries_from (s.nodes a).replica.log from size)
      (all_from (EntryIn s.accepted) (s.nodes a).replica.log from size (k.logs a))) (λ u. k))

  hear_kept : (a p : ℕ) (r : Request) → RequestIn s.accepted r → KnownAt (hear_one s a p (s.nodes p) r)
  unfolding hear_one replied add_reply set_node adopting cut_to storing
  hear_kept a p (align e end t) h =
      by-test KnownAt (leads_from (s.nodes p).role e) (λ u. k)
      (λ u. by-test KnownAt (ltb e (s.nodes p).replica.epoch) (λ y. k)
      (λ y. by-test KnownAt (eqb e (s.nodes p).replica.epoch) (λ z. role_only p backup)
      (λ z. on-node s.accepted s.nodes s.requests k p (adopting (s.nodes p) e end t)
      (all_keep (EntryIn s.accepted) end t (s.nodes p).replica.log (k.logs p)))))
  hear_kept a p (send e es) h =
      by-test KnownAt (eqb e (s.nodes p).replica.epoch)
      (λ u. on-node s.accepted s.nodes s.requests k p (storing (s.nodes p) e es)
      (all_store_all (EntryIn s.accepted) (s.nodes p).replica e es (k.logs p) h))
      (λ u. k)

  hears-kept : (a p i : ℕ) (o : Option Request) → nth (s.requests a p) i ≡ o → KnownAt (hear_as s a p o)
  unfolding hear_as
  hears-kept a p i none q = k
  hears-kept a p i (some r) q = hear_kept a p r (all-nth (RequestIn s.accepted) (s.requests a p) i r (k.batches a p) q)

  count_kept : (o : Option Reply) → KnownAt (count_as s o)
  unfolding count_as count_role
  count_kept none = k
  count_kept (some r) = go (lead_at (s.nodes r.node).role r.epoch)
    where
      go : (l : Option Lead) → KnownAt (count_role s r l)
      go none = k
      go (some l) = role_only r.node (counted_as l (length (s.nodes r.node).replica.log) r.peer r.answer)

  join_kept : (o : Option Reply) → KnownAt (join_as s o)
  unfolding join_as join_lead set_proposals
  join_kept none = k
  join_kept (some r) = go (lead_at (s.nodes r.node).role r.epoch)
    where
      go : (l : Option Lead) → KnownAt (join_lead s r l)
      go none = k
      go (some l) =
          by-test KnownAt (may_join l (length (s.nodes r.node).replica.log) r)
          (λ t. let m = role_only r.node (lead (with_ack l (r.peer ∷ l.ack))) in record { logs = m.logs; batches = m.batches }) (λ t. k)

  suspect_kept : (a p : ℕ) (r : Role) → KnownAt (suspect_as s a p r)
  unfolding suspect_as set_proposals
  suspect_kept a p backup = k
  suspect_kept a p (lead l) = k

  wait_kept : (o : Option Accepted) → KnownAt (ack_as s o)
  unfolding ack_as ack_lead add_acknowledged
  wait_kept none = k
  wait_kept (some w) = go (lead_at (s.nodes w.node).role w.epoch)
    where
      go : (l : Option Lead) → KnownAt (ack_lead s w l)
      go none = k
      go (some l) = by-test KnownAt (all_acked w.node w.offset l) (λ t. k) (λ t. k)

  pub known_move : (m : Move) → KnownAt (step s m)
  unfolding step on_promote set_map on_take on_forget on_tell on_untell on_show on_write on_align on_send on_hear on_count on_join on_suspect on_acknowledge set_proposals set_outcomes
  known_move (promotion q) = by-test KnownAt (member q s.map.insync) (λ t. k) (λ t. k)
  known_move (decision i told) = take-kept i told (nth s.proposals i)
  known_move (rejection i) = k
  known_move (outcome i) = tell_kept i (nth s.outcomes i)
  known_move (silence i) = k
  known_move (showing n) =
      by-test KnownAt (eqb s.map.primary n) (λ t. show_kept n (lead_at (s.nodes n).role s.map.epoch)) (λ t. role_only n backup)
  known_move (writing n op) = write_kept n op (s.nodes n).role refl
  known_move (alignment a p) = align_kept a p (s.nodes a).role
  known_move (batch a p from size) = send_kept a p from size (s.nodes a).role
  known_move (arrival a p i) = hears-kept a p i (nth (s.requests a p) i) refl
  known_move (counting i) = count_kept (nth s.replies i)
  known_move (joining i) = join_kept (nth s.replies i)
  known_move (suspicion a p) = suspect_kept a p (s.nodes a).role
  known_move (waiting i) = wait_kept (nth s.accepted i)

pub known-run : (s : State) (vs : List Move) → Inv s → KnownAt s → KnownAt (run s vs)
unfolding run
known-run s [] v k = k
known-run s (m ∷ ms) v k = known-run (step s m) ms (on_move s m v) (known_move s v k m)

pub known-first : (metric : Metric) (p : ℕ) (others : List ℕ) → KnownAt (fresh metric p others)
unfolding fresh
known-first metric p others = record { logs = upd-all (λ b (z : Node). All (EntryIn []) z.replica.log) tt (λ b ne. tt); batches = λ a b. tt }
