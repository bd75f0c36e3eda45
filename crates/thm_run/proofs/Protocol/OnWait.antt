-- The invariant after a wait says done: the write is acknowledged. Assumes nothing.
use Prim.Native.Nat.{ℕ, zero, suc, ◌+◌, ◌≤◌, ◌<◌, min, max}
use mathlib.Core.Path.{◌≡◌, refl, sym, ap, ◌∙◌, subst}
use mathlib.Core.Bool.{Bool, true, false, cond}
use mathlib.Core.List.{List, [], ◌∷◌, ◌++◌}
use mathlib.Core.Option.{Option, none, some}
use native.Mathlib.Omega.{arith}
use lib.Dec.{eqb, leb, ltb}
use lib.ListN.{length, length-append}
use borrow.Author.Tests.{eqb-true, eqb-false, eq-eqb, ne_eqb, leb-true, leb-false, le-leb, lt-leb, ltb-true, ltb-false}
use Rattle.spec.specs.Lists.{◌and◌, ◌or◌, nth, every}
use Rattle.spec.specs.Log.{Op, Entry, Log, End, entry_at, epoch_ends, keep, ShardReplica, append, push, cut_to, store_all, promote, entries_from}
use Rattle.spec_laws.proofs.Lists.{by-test, not_both, and_left, and_right, none_some, some_same, nth-nil, nth-same, nth_lt, lt_nth, nth_last, nth_snoc, Within, within-length, within-append}
use Rattle.spec_laws.proofs.Log.Numbered.{Numbered, numbered_snoc, numbered_within}
use Rattle.spec_laws.proofs.Log.Play.{InStep}
use Rattle.thm_run.proofs.Protocol.Base.{All, all_map, all_snoc, all-nth, all_remove, nth-all, upd, upd-all, upd_same, upd_other, upd-keeps, same_or, upd2, upd2-all, upd2-same, upd2-other, at_pair, remove_at, count, count_snoc, count_remove, count_none}
use Rattle.thm_run.proofs.Protocol.Sets.{member, without, In, in_cons, in_head, of_cons, not_nil, of_without, in_without, not_without, every_in}
use Rattle.thm_run.proofs.Protocol.State.{Map, Lead, Role, backup, lead, Node, Request, align, send, Answer, adopts, stores, stale_align, stale_send, Reply, Proposal, Outcome, Accepted, Acknowledged, State, set_map, set_node, set_requests, add_reply, set_proposals, set_outcomes, add_accepted, add_acknowledged}
use Rattle.thm_run.proofs.Protocol.Ghost.{History, Agree}
use Rattle.thm_run.proofs.Protocol.Inv.{BookOk, LeadOk, RoleOk, NodeOk, Leading, MapOk, At, RequestOk, AnswerOk, ReplyOk, ProposalOk, OutcomeOk, Stands, AcceptedOk, AcknowledgedOk, WayOk, expands, shrinks, tokens, TokenOk, TokensOk, Took, CoverOk, Clauses}
use Rattle.thm_run.proofs.Protocol.Frame.{is-lead, not_lead, lead-same, at-within, agree_sym, agree_trans, agree_grow, agree_in, Grown, still, request-grown, reply-grown, proposal_grown, way_grown, role_more, cover_same, rerole}
use Rattle.thm_run.proofs.Protocol.State.{lead_at, all_acked, ack_lead, ack_as, on_acknowledge}
use Rattle.thm_run.proofs.Protocol.OnPropose.{lead_of}
use Rattle.thm_run.proofs.Protocol.OnSend.{log-whole}
use Rattle.spec_laws.proofs.Log.Numbered.{entry_lt}

-- the history with entries up to o of epoch e acknowledged
abbrev pub acked-history : History → ℕ → ℕ → History
acked-history h e o = record { pr = h.pr; ins = h.ins; st = h.st; book = h.book; start = h.start; held = h.held; cmt = upd h.cmt e (max (h.cmt e) o) }

-- who passes the test is the node itself, or has acknowledged
pub passed : (m n o : ℕ) (acked : ℕ → ℕ) → (eqb m n or leb o (acked m)) ≡ true → (m ≡ n → ⊥) → o ≤ acked m
unfolding ◌or◌
passed m n o acked t ne = go (eqb m n) refl t
  where
    go : (b : Bool) → eqb m n ≡ b → (b or leb o (acked m)) ≡ true → o ≤ acked m
    go true q u = absurd (ne (eqb-true m n q))
    go false q u = leb-true o (acked m) u

module _ (h : History) (s : State) (k : Clauses h s) (w : Accepted) (l : Lead) (q : (s.nodes w.node).role ≡ lead l) (same : l.epoch ≡ w.epoch)
    (t : all_acked w.node w.offset l ≡ true) (stands : Stands h w.epoch w.offset w.op) where
  abbrev n : ℕ
  n = w.node

  abbrev e : ℕ
  e = w.epoch

  abbrev o : ℕ
  o = w.offset

  abbrev new : History
  new = acked-history h e o

  c : LeadOk n (h.pr (s.nodes n).replica.epoch) (h.ins (s.nodes n).replica.epoch) (h.start (s.nodes n).replica.epoch) (h.held (s.nodes n).replica.epoch) (h.cmt (s.nodes n).replica.epoch) (s.nodes n).replica.epoch l
  c = lead_of h s k n l q

  own : (s.nodes n).replica.epoch ≡ e
  own = sym c.epoch ∙ same

  short : o ≤ length (h.book e)
  short = (entry_lt (h.book e) o (record { epoch = e; offset = o; op = w.op }) stands).1

  -- every member of the ack set holds the write
  enough : (m : ℕ) → In m l.ack → o ≤ h.held e m
  unfolding all_acked
  enough m i = same_or (o ≤ h.held e m) m n
      (λ p. rw (p, ← own) (omega (arith, (k.nodes n).here, log-whole h s k n l q, (rw (← own) at short))))
      (λ ne. rw (← own) (omega (arith, c.acked m, passed m n o l.acked (every_in (λ m. eqb m n or leb o (l.acked m)) l.ack t m i) ne)))

  more : (d : ℕ) → h.cmt d ≤ new.cmt d
  more = upd-all (λ d v. h.cmt d ≤ v) (omega arith) (λ d ne. omega arith)

  grown : Grown h new
  grown = record { pr = λ d b. refl; st = λ d b. b; start = λ d b. refl; book = λ d i x z. z; held = λ d m. omega arith; cmt = more }

  -- a record of that epoch is this node's
  role : (m : ℕ) (r : Role) → (s.nodes m).role ≡ r
      → RoleOk m (h.pr (s.nodes m).replica.epoch) (h.ins (s.nodes m).replica.epoch) (h.start (s.nodes m).replica.epoch) (h.held (s.nodes m).replica.epoch) (new.cmt (s.nodes m).replica.epoch) (s.nodes m).replica.epoch r
  role m backup z = tt
  role m (lead l') z =
      let c' = lead_of h s k m l' z in
      record {
        epoch = c'.epoch;
        high = c'.high;
        mine = c'.mine;
        end = c'.end;
        table = c'.table;
        wide = c'.wide;
        acked = c'.acked;
        done = λ x i. same_or (new.cmt (s.nodes m).replica.epoch ≤ h.held (s.nodes m).replica.epoch x) (s.nodes m).replica.epoch e
            (λ p. let me : m ≡ n = sym c'.mine ∙ ap h.pr (p ∙ sym own) ∙ c.mine in
            let u : l' ≡ l = lead-same l' l (sym z ∙ ap (λ (y : ℕ). (s.nodes y).role) me ∙ q) in
            rw (p, upd_same h.cmt e (max (h.cmt e) o))
            (omega (arith, enough x (subst (λ (y : Lead). In x y.ack) u i), (rw p at (c'.done x i)))))
            (λ ne. rw (upd_other h.cmt e (max (h.cmt e) o) (s.nodes m).replica.epoch ne) (c'.done x i));
      }

  waited : Clauses new (add_acknowledged s (record { epoch = e; offset = o; op = w.op }))
  unfolding add_acknowledged
  waited = record {
    book = let b = k.book in record {
      one = b.one;
      range = b.range;
      seat = b.seat;
      blank = b.blank;
      quiet = b.quiet;
      begin = b.begin;
      own = b.own;
      below = b.below;
      numbered = b.numbered;
      few = upd-all (λ d v. (m : ℕ) → In m (h.ins d) → v ≤ h.held d m)
          (λ m i. omega (arith, b.few e m i, enough m (c.wide m (rw own i)))) (λ d ne. b.few d);
      real = upd-all (λ d v. v ≤ length (h.book d)) (omega (arith, b.real e, short)) (λ d ne. b.real d);
    };
    nodes = λ m. let x = k.nodes m in record { begun = x.begun; within = x.within; whole = x.whole; here = x.here; ahead = x.ahead; played = x.played; role = role m (s.nodes m).role refl };
    map = k.map;
    way = let v = way_grown h new grown s.nodes s.nodes s.map.epoch s.map.epoch (λ m. omega arith) (omega arith) s.requests s.replies s.proposals s.outcomes s.accepted s.acknowledged k.way in
        record {
          requests = v.requests;
          replies = v.replies;
          proposals = v.proposals;
          outcomes = v.outcomes;
          accepted = v.accepted;
          acknowledged = all_snoc (AcknowledgedOk new) s.acknowledged (record { epoch = e; offset = o; op = w.op }) v.acknowledged
              (record { stands = stands; under = rw (upd_same h.cmt e (max (h.cmt e) o)) (omega arith) });
        };
    tokens = k.tokens;
    cover = k.cover;
  }

pub on_wait_lem : (h : History) (s : State) → Clauses h s → (i : ℕ) → (h' : History) × (h'.start ≡ h.start) × Clauses h' (on_acknowledge s i)
unfolding on_acknowledge ack_as ack_lead
on_wait_lem h s k i = go (nth s.accepted i) refl
  where
    act : (w : Accepted) → nth s.accepted i ≡ some w → (o : Option Lead) → lead_at (s.nodes w.node).role w.epoch ≡ o → (h' : History) × (h'.start ≡ h.start) × Clauses h' (ack_lead s w o)
    act w at none q = (h, refl, k)
    act w at (some l) q =
        let f = is-lead (s.nodes w.node).role w.epoch l q in
        by-test (λ z. (h' : History) × (h'.start ≡ h.start) × Clauses h' z) (all_acked w.node w.offset l)
        (λ t. (acked-history h w.epoch w.offset, refl, waited h s k w l f.0 f.1 t (all-nth (AcceptedOk h) s.accepted i w k.way.accepted at)))
        (λ t. (h, refl, k))

    go : (o : Option Accepted) → nth s.accepted i ≡ o → (h' : History) × (h'.start ≡ h.start) × Clauses h' (ack_as s o)
    go none at = (h, refl, k)
    go (some w) at = act w at (lead_at (s.nodes w.node).role w.epoch) refl
