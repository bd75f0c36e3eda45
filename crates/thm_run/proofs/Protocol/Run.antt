-- The invariant of every run of the protocol, and what follows: each acknowledged write stands in the log of each node in sync, and a
-- node's vectors are its log played. Assumes nothing.
use Prim.Native.Nat.{ℕ, zero, suc, ◌+◌, ◌≤◌, ◌<◌, min, max}
use mathlib.Core.Path.{◌≡◌, refl, sym, ap, ◌∙◌, subst}
use mathlib.Core.Bool.{Bool, true, false, cond}
use mathlib.Core.List.{List, [], ◌∷◌, ◌++◌}
use mathlib.Core.Option.{Option, none, some}
use native.Mathlib.Omega.{arith}
use lib.Dec.{eqb, leb, ltb}
use lib.ListN.{length, length-append}
use borrow.Author.Tests.{eqb-true, eqb-false, eq-eqb, ne_eqb, leb-true, leb-false, le-leb, lt-leb, ltb-true, ltb-false}
use Rattle.spec.specs.Lists.{◌and◌, ◌or◌, nth, every}
use Rattle.spec.specs.Log.{Op, Entry, Log, End, entry_at, epoch_ends, keep, ShardReplica, append, push, cut_to, store_all, promote, entries_from, Vectors, play}
use Rattle.spec_laws.proofs.Lists.{by-test, not_both, and_left, and_right, none_some, some_same, nth-nil, nth-same, nth_lt, lt_nth, nth_last, nth_snoc, Within, within-length, within-append}
use Rattle.spec_laws.proofs.Log.Numbered.{Numbered, numbered_snoc, numbered_within}
use Rattle.spec_laws.proofs.Log.Play.{InStep}
use Rattle.thm_run.proofs.Protocol.Base.{All, all_map, all_both, all_snoc, all-nth, all_remove, nth-all, upd, upd-all, upd_same, upd_other, upd-keeps, same_or, upd2, upd2-all, upd2-same, upd2-other, at_pair, remove_at, count, count_snoc, count_remove, count_none}
use Rattle.thm_run.proofs.Protocol.Sets.{member, without, In, in_cons, in_head, of_cons, not_nil, of_without, in_without, not_without, every_in}
use Rattle.thm_run.proofs.Protocol.State.{Map, Lead, Role, backup, lead, Node, Request, align, send, Answer, adopts, stores, stale_align, stale_send, Reply, Proposal, Outcome, Accepted, Acknowledged, State, set_map, set_node, set_requests, add_reply, set_proposals, set_outcomes, add_accepted, add_acknowledged}
use Rattle.thm_run.proofs.Protocol.Ghost.{History, Agree}
use Rattle.thm_run.proofs.Protocol.Inv.{BookOk, LeadOk, RoleOk, NodeAt, NodeOk, Leading, MapOk, At, RequestOk, AnswerOk, ReplyOk, ProposalOk, OutcomeOk, Stands, AcceptedOk, AcknowledgedOk, WayOk, expands, shrinks, tokens, TokenOk, TokensOk, Took, CoverOk, Clauses}
use Rattle.thm_run.proofs.Protocol.Frame.{is-lead, not_lead, lead-same, at-within, agree_sym, agree_trans, agree_grow, agree_in, Grown, still, request-grown, reply-grown, proposal_grown, way_grown, role_more, cover_same, rerole}
use Rattle.spec.specs.declared.Metric.{Metric}
use Rattle.spec.specs.Log.{empty_replica, play_from}
use Rattle.spec_laws.proofs.Log.Numbered.{entry_lt}
use Rattle.thm_run.proofs.Protocol.State.{Move, promotion, decision, rejection, outcome, silence, showing, writing, alignment, batch, arrival, counting, joining, suspicion, waiting, step, run, fresh, with_role, lead_at, leader, show_as, on_show, promoted, on_promote, expanded, shrunk, may_take, resized, take_as, on_take, on_forget, on_untell, suspect_as, on_suspect, all_acked, ack_lead, ack_as, on_acknowledge}
use Rattle.thm_run.proofs.Protocol.Reached.{ReachedOk, Reached, reached_promote, reached_take, reached_suspect, reached_wait, reached_align, reached_send, reached_join, reached_tell, reached_write, reached_show, reached_hear, reached_count}
use Rattle.thm_run.proofs.Protocol.OnPropose.{on-forget, on_untell_lem, on_suspect_lem}
use Rattle.thm_run.proofs.Protocol.OnSend.{on_align_lem, on_send_lem}
use Rattle.thm_run.proofs.Protocol.OnReply.{on-count, on_join_lem, rerole_only}
use Rattle.thm_run.proofs.Protocol.OnTell.{on_tell_lem}
use Rattle.thm_run.proofs.Protocol.OnWait.{on_wait_lem}
use Rattle.thm_run.proofs.Protocol.OnPromote.{on-promote}
use Rattle.thm_run.proofs.Protocol.OnTake.{on-take}
use Rattle.thm_run.proofs.Protocol.OnWrite.{on-write}
use Rattle.thm_run.proofs.Protocol.OnHear.{on_hear_lem}
use Rattle.thm_run.proofs.Protocol.OnShow as show
use Rattle.thm_run.proofs.Protocol.Entering.{brings}

-- the invariant: some history of which all clauses hold
pub record Inv (s : State) : Type 0 where
  pub history : History
  pub clauses : Clauses history s
  pub reached : Reached s.nodes

with_reached : (h : History) (t : State) → Reached t.nodes → (h' : History) × (h'.start ≡ h.start) × Clauses h' t → Inv t
with_reached h t o f = record { history = f.0; clauses = f.2; reached = o }

on_show_lem : (h : History) (s : State) → Clauses h s → (n : ℕ) → (h' : History) × Clauses h' (on_show s n)
unfolding on_show show_as
on_show_lem h s k n =
    by-test After (eqb s.map.primary n)
    (λ t. named (eqb-true s.map.primary n t) (lead_at (s.nodes n).role s.map.epoch) refl)
    (λ t. (h, rerole_only h s k n backup tt (λ _ q. absurd (eqb-false s.map.primary n t q)) tt))
  where
    After : State → Type 0
    After v = (h' : History) × Clauses h' v

    begins : s.map.primary ≡ n → lead_at (s.nodes n).role s.map.epoch ≡ none → (b : Bool) → h.st s.map.epoch ≡ b → After (set_node s n (leader (s.nodes n) s.map))
    begins is q true z =
        let f = k.map.now z in
        absurd (not_lead (s.nodes n).role s.map.epoch q f.0 (ap (λ (m : ℕ). (s.nodes m).role) (sym is) ∙ f.1) f.2)
    begins is q false z = (show.new h s k n is z, show.started h s k n is z)

    named : s.map.primary ≡ n → (w : Option Lead) → lead_at (s.nodes n).role s.map.epoch ≡ w → After (show_as s n w)
    named is (some l) q = (h, k)
    named is none q =
        by-test After (leb (s.nodes n).replica.epoch s.map.epoch) (λ t. begins is q (h.st s.map.epoch) refl) (λ t. (h, k))

-- every move keeps it
pub on_move : (s : State) (v : Move) → Inv s → Inv (step s v)
unfolding step on_forget on_untell set_proposals set_outcomes
on_move s (promotion q) v = with_reached v.history (on_promote s q) (reached_promote s v.reached q) (on-promote v.history s v.clauses q)
on_move s (decision i told) v = with_reached v.history (on_take s i told) (reached_take s v.reached i told) (on-take v.history s v.clauses i told)
on_move s (rejection i) v = record { history = v.history; clauses = on-forget v.history s v.clauses i; reached = v.reached }
on_move s (outcome i) v = record { history = v.history; clauses = on_tell_lem v.history s v.clauses i; reached = reached_tell s v.reached i }
on_move s (silence i) v = record { history = v.history; clauses = on_untell_lem v.history s v.clauses i; reached = v.reached }
on_move s (showing n) v = let f = on_show_lem v.history s v.clauses n in record { history = f.0; clauses = f.1; reached = reached_show s v.reached n }
on_move s (writing n op) v = with_reached v.history _ (reached_write s v.reached n op) (on-write v.history s v.clauses n op)
on_move s (alignment a p) v = record { history = v.history; clauses = on_align_lem v.history s v.clauses a p; reached = reached_align s v.reached a p }
on_move s (batch a p from size) v = record { history = v.history; clauses = on_send_lem v.history s v.clauses a p from size; reached = reached_send s v.reached a p from size }
on_move s (arrival a p i) v = with_reached v.history _ (reached_hear s v.reached a p i) (on_hear_lem v.history s v.clauses a p i)
on_move s (counting i) v = record { history = v.history; clauses = on-count v.history s v.clauses i; reached = reached_count v.history s v.clauses v.reached i }
on_move s (joining i) v = record { history = v.history; clauses = on_join_lem v.history s v.clauses i; reached = reached_join s v.reached i }
on_move s (suspicion a p) v = record { history = v.history; clauses = on_suspect_lem v.history s v.clauses a p; reached = reached_suspect s v.reached a p }
on_move s (waiting i) v = with_reached v.history (on_acknowledge s i) (reached_wait s v.reached i) (on_wait_lem v.history s v.clauses i)

-- .. and so does every list of moves
pub on-run : (s : State) (vs : List Move) → Inv s → Inv (run s vs)
unfolding run
on-run s [] i = i
on-run s (v ∷ vs) i = on-run (step s v) vs (on_move s v i)

-- the first state has it
module _ (metric : Metric) (p : ℕ) (others : List ℕ) where
  first : History
  first = record { pr = λ e. p; ins = λ e. p ∷ others; st = λ e. leb e 1; book = λ e. []; start = λ e. []; held = λ e m. 0; cmt = λ e. 0 }

  pub at_first : Inv (fresh metric p others)
  unfolding first fresh epoch_ends play play_from tokens count
  at_first = record {
    history = first;
    clauses = record {
      book = record {
        one = omega arith;
        range = λ e q. leb-true e 1 q;
        seat = λ e lo hi. in_head p others;
        blank = refl;
        quiet = λ e q. refl;
        begin = λ e i x q. q;
        own = λ e i x q. nth-nil i x q;
        below = λ e i x q. nth-nil i x q;
        numbered = λ e i x q. nth-nil i x q;
        few = λ e m i. omega arith;
        real = λ e. omega arith;
      };
      nodes = upd-all (NodeOk first)
          (record {
            begun = refl;
            within = λ i x q. q;
            whole = λ q. refl;
            here = refl;
            ahead = λ d lt. refl;
            played = refl;
            role = record {
              epoch = refl;
              high = omega arith;
              mine = refl;
              end = refl;
              table = refl;
              wide = λ m i. i;
              acked = λ m. omega arith;
              done = λ m i. omega arith;
            };
          })
          (λ m ne. record { begun = refl; within = λ i x q. q; whole = λ q. refl; here = refl; ahead = λ d lt. refl; played = refl; role = tt });
      map = record { primary = refl; sync = refl; now = λ b. (_, ap (λ (z : Node). z.role) (upd_same _ p _), refl) };
      way = record { requests = λ a b. tt; replies = tt; proposals = tt; outcomes = tt; accepted = tt; acknowledged = tt };
      tokens = upd-all (λ m (z : Node). TokensOk (λ e. p ∷ others) [] [] z.role)
          (λ m. record { single = omega arith; out = λ q. absurd (omega arith); listed = λ q. absurd (omega arith) }) (λ m ne. tt);
      cover = record {
        low = λ e g m lo lt hi i le. i;
        begins = λ e g o lo lt b t. absurd (omega (arith, leb-true g 1 b));
        holds = λ e m o lo lt i over t. absurd (omega arith);
        led = λ e b.
            let q : ((fresh metric p others).nodes (first.pr e)).replica.epoch ≡ 1 = ap (λ (z : Node). z.replica.epoch) (upd_same _ p _) in
            omega (arith, leb-true e 1 b, q);
      };
    };
    reached = λ a b. upd-all (λ m (z : Node). ReachedOk ((fresh metric p others).nodes b).replica.epoch b z.role) (λ w. not_both false w refl) (λ m ne. tt) a;
  }

-- what the invariant says of an acknowledged write and a node in sync
module _ (s : State) (v : Inv s) where
  abbrev h : History
  h = v.history

  k : Clauses h s
  k = v.clauses

  -- the log of a node in sync agrees with an epoch's up to what is acknowledged of it
  covers : (e o m : ℕ) → 1 ≤ e → e ≤ s.map.epoch → o ≤ h.cmt e → 1 ≤ o → In m (h.ins s.map.epoch) → Agree o (h.book e) (s.nodes m).replica.log
  covers e o m lo hi under pos i = same_or (Agree o (h.book e) (s.nodes m).replica.log) e s.map.epoch
      (λ q.
      let few : o ≤ h.held e m = omega (arith, under, few-at q) in
      let reached : (s.nodes m).replica.epoch ≡ e = at_top e few q in
      let c = k.nodes m in
      let here : h.held e m ≡ length (s.nodes m).replica.log = rw (← reached) c.here in
      let w : Within (s.nodes m).replica.log (h.book e) = subst (λ (d : ℕ). Within (s.nodes m).replica.log (h.book d)) reached c.within in
      agree_in o (h.book e) (s.nodes m).replica.log (h.book e) (λ j x z. z) w (omega (arith, within-length (s.nodes m).replica.log (h.book e) w)) (omega arith))
      (λ ne. brings h s k m e o i lo (omega (arith, ne)) (λ x j over. omega (arith, under, k.book.few e x j)) (λ j. omega (arith, under, k.book.few e m j)))
    where
      few-at : e ≡ s.map.epoch → h.cmt e ≤ h.held e m
      few-at q = k.book.few e m (rw q i)

      at_top : (e : ℕ) → o ≤ h.held e m → e ≡ s.map.epoch → (s.nodes m).replica.epoch ≡ e
      at_top e few q = same_or ((s.nodes m).replica.epoch ≡ e) (s.nodes m).replica.epoch e (λ z. z)
          (λ ne. let le = k.book.range (s.nodes m).replica.epoch (k.nodes m).begun in
          let lt : (s.nodes m).replica.epoch < e = omega (arith, ne, q) in absurd (omega (arith, (k.nodes m).ahead e lt)))

  -- an epoch with an entry has begun, and is the map's or an earlier one
  in_range_lem : (e o : ℕ) (x : Entry) → entry_at (h.book e) o ≡ some x → (1 ≤ e) × (e ≤ s.map.epoch)
  in_range_lem e o x q = (low, go (h.st e) refl)
    where
      none_in : h.book e ≡ [] → ⊥
      none_in z = let f = entry_lt [] o x (rw z at q) in omega (arith, f.0, f.1)

      low : 1 ≤ e
      low = same_or (1 ≤ e) e 0 (λ z. absurd (none_in (ap h.book z ∙ k.book.blank))) (λ ne. omega (arith, ne))

      go : (b : Bool) → h.st e ≡ b → e ≤ s.map.epoch
      go true z = k.book.range e z
      go false z = absurd (none_in (k.book.quiet e z))

  -- logs that agree up to an offset have the same entry at it
  at_agree : (o : ℕ) (x y : Log) (d : Entry) → Agree o x y → entry_at x o ≡ some d → entry_at y o ≡ some d
  unfolding entry_at
  at_agree zero x y d a q = none_some q
  at_agree (suc i) x y d a q = let f = a i (omega arith) in f.2 ∙ ap some (nth-same x i f.0 d f.1 q)

  pub stands_in_sync : (i : ℕ) (w : Acknowledged) → nth s.acknowledged i ≡ some w → (m : ℕ) → In m s.map.insync
      → entry_at (s.nodes m).replica.log w.offset ≡ some (record { epoch = w.epoch; offset = w.offset; op = w.op })
  stands_in_sync i w q m j =
      let c = all-nth (AcknowledgedOk h) s.acknowledged i w k.way.acknowledged q in
      let d : Entry = record { epoch = w.epoch; offset = w.offset; op = w.op } in
      let r = in_range_lem w.epoch w.offset d c.stands in
      let f = entry_lt (h.book w.epoch) w.offset d c.stands in
      at_agree w.offset (h.book w.epoch) (s.nodes m).replica.log d
      (covers w.epoch w.offset m r.0 r.1 c.under f.0 (rw k.map.sync j)) c.stands

  -- an entry of any log is that of its own epoch's at that place
  in_book : (n i : ℕ) (x : Entry) → nth (s.nodes n).replica.log i ≡ some x → nth (h.book x.epoch) i ≡ some x
  in_book n i x q = k.book.own (s.nodes n).replica.epoch i x ((k.nodes n).within i x q)

  pub entries_alike : (n m o : ℕ) (x y : Entry) → entry_at (s.nodes n).replica.log o ≡ some x → entry_at (s.nodes m).replica.log o ≡ some y
      → x.epoch ≡ y.epoch → x ≡ y
  unfolding entry_at
  entries_alike n m zero x y p q same = none_some p
  entries_alike n m (suc i) x y p q same =
      nth-same (h.book y.epoch) i x y (subst (λ (d : ℕ). nth (h.book d) i ≡ some x) same (in_book n i x p)) (in_book m i y q)

  pub vectors-played : (m : ℕ) → (s.nodes m).replica.vectors ≡ play (s.nodes m).replica.log
  vectors-played m = (k.nodes m).played

-- for every list of moves from the first state
pub durable : (metric : Metric) (p : ℕ) (others : List ℕ) (vs : List Move) (i : ℕ) (w : Acknowledged)
    → nth (run (fresh metric p others) vs).acknowledged i ≡ some w → (m : ℕ) → In m (run (fresh metric p others) vs).map.insync
    → (entry_at ((run (fresh metric p others) vs).nodes m).replica.log w.offset ≡ some (record { epoch = w.epoch; offset = w.offset; op = w.op }))
    × (((run (fresh metric p others) vs).nodes m).replica.vectors ≡ play ((run (fresh metric p others) vs).nodes m).replica.log)
durable metric p others vs i w q m j =
    let v = on-run (fresh metric p others) vs (at_first metric p others) in
    (stands_in_sync (run (fresh metric p others) vs) v i w q m j, vectors-played (run (fresh metric p others) vs) v m)
