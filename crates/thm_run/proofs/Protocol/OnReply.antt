-- The invariant after a reply counts, and after a peer that holds all joins the ack set. Assumes nothing.
use Prim.Native.Nat.{ℕ, zero, suc, ◌+◌, ◌≤◌, ◌<◌, min, max}
use mathlib.Core.Path.{◌≡◌, refl, sym, ap, ◌∙◌, subst}
use mathlib.Core.Bool.{Bool, true, false, cond}
use mathlib.Core.List.{List, [], ◌∷◌, ◌++◌}
use mathlib.Core.Option.{Option, none, some}
use native.Mathlib.Omega.{arith}
use lib.Dec.{eqb, leb, ltb}
use lib.ListN.{length, length-append}
use borrow.Author.Tests.{eqb-true, eqb-false, eq-eqb, ne_eqb, leb-true, leb-false, le-leb, lt-leb, ltb-true, ltb-false}
use Rattle.spec.specs.Lists.{◌and◌, ◌or◌, nth, every}
use Rattle.spec.specs.Log.{Op, Entry, Log, End, entry_at, epoch_ends, keep, ShardReplica, append, push, cut_to, store_all, promote, entries_from}
use Rattle.spec_laws.proofs.Lists.{by-test, not_both, and_left, and_right, none_some, some_same, nth-nil, nth-same, nth_lt, lt_nth, nth_last, nth_snoc, Within, within-length, within-append}
use Rattle.spec_laws.proofs.Log.Numbered.{Numbered, numbered_snoc, numbered_within}
use Rattle.spec_laws.proofs.Log.Play.{InStep}
use Rattle.thm_run.proofs.Protocol.Base.{All, all_map, all_snoc, all-nth, all_remove, nth-all, upd, upd-all, upd_same, upd_other, upd-keeps, same_or, upd2, upd2-all, upd2-same, upd2-other, at_pair, remove_at, count, count_snoc, count_remove, count_none}
use Rattle.thm_run.proofs.Protocol.Sets.{member, without, In, in_cons, in_head, of_cons, not_nil, of_without, in_without, not_without, every_in}
use Rattle.thm_run.proofs.Protocol.State.{Map, Lead, Role, backup, lead, Node, Request, align, send, Answer, adopts, stores, stale_align, stale_send, Reply, Proposal, Outcome, Accepted, Acknowledged, State, set_map, set_node, set_requests, add_reply, set_proposals, set_outcomes, add_accepted, add_acknowledged}
use Rattle.thm_run.proofs.Protocol.Ghost.{History, Agree}
use Rattle.thm_run.proofs.Protocol.Inv.{BookOk, LeadOk, RoleOk, NodeOk, Leading, MapOk, At, RequestOk, AnswerOk, ReplyOk, ProposalOk, OutcomeOk, Stands, AcceptedOk, AcknowledgedOk, WayOk, expands, shrinks, tokens, TokenOk, TokensOk, Took, CoverOk, Clauses}
use Rattle.thm_run.proofs.Protocol.Frame.{is-lead, not_lead, lead-same, at-within, agree_sym, agree_trans, agree_grow, agree_in, Grown, still, request-grown, reply-grown, proposal_grown, way_grown, role_more, cover_same, rerole}
use Rattle.thm_run.proofs.Protocol.State.{with_role, with_ack, with_peer, lead_at, counted_as, count_role, count_as, on_count, is_positive, may_join, join_lead, join_as, on_join}
use Rattle.thm_run.proofs.Protocol.OnPropose.{lead_of, proposal_added, expands-own, expands-other}
use Rattle.thm_run.proofs.Protocol.OnSend.{log-whole}

-- the map's primary, if it is this node, has its record at the map's epoch
pub leads-top : (h : History) (s : State) → Clauses h s → (n : ℕ) (l : Lead) → (s.nodes n).role ≡ lead l
    → h.st s.map.epoch ≡ true → s.map.primary ≡ n → l.epoch ≡ s.map.epoch
leads-top h s k n l q b p =
    let f = k.map.now b in
    let u : f.0 ≡ l = lead-same f.0 l (sym f.1 ∙ ap (λ (m : ℕ). (s.nodes m).role) p ∙ q) in
    ap (λ (z : Lead). z.epoch) (sym u) ∙ f.2

-- the role of a node alone is replaced
pub rerole_only : (h : History) (s : State) → Clauses h s → (n : ℕ) (r : Role)
    → RoleOk n (h.pr (s.nodes n).replica.epoch) (h.ins (s.nodes n).replica.epoch) (h.start (s.nodes n).replica.epoch) (h.held (s.nodes n).replica.epoch) (h.cmt (s.nodes n).replica.epoch) (s.nodes n).replica.epoch r
    → (h.st s.map.epoch ≡ true → s.map.primary ≡ n → (l : Lead) × (r ≡ lead l) × (l.epoch ≡ s.map.epoch))
    → TokensOk h.ins s.proposals s.outcomes r → Clauses h (set_node s n (with_role (s.nodes n) r))
unfolding set_node set_proposals set_outcomes
rerole_only h s k n r ok now t = rerole h s k n r s.proposals s.outcomes ok now k.way.proposals k.way.outcomes t (λ m ne. k.tokens m)

module _ (h : History) (s : State) (k : Clauses h s) (a p e : ℕ) (l : Lead) (q : (s.nodes a).role ≡ lead l) (same : l.epoch ≡ e) where
  c : LeadOk a (h.pr (s.nodes a).replica.epoch) (h.ins (s.nodes a).replica.epoch) (h.start (s.nodes a).replica.epoch) (h.held (s.nodes a).replica.epoch) (h.cmt (s.nodes a).replica.epoch) (s.nodes a).replica.epoch l
  c = lead_of h s k a l q

  toks : TokensOk h.ins s.proposals s.outcomes (lead l)
  toks = rw q at (k.tokens a)

  own : (s.nodes a).replica.epoch ≡ e
  own = sym c.epoch ∙ same

  -- how far the peer has acknowledged, and whether it is aligned, replaced
  peer-set : (t : ℕ) (b : Bool) → t ≤ h.held e p → Clauses h (set_node s a (with_role (s.nodes a) (lead (with_peer l p t b))))
  unfolding with_peer
  peer-set t b le =
      rerole_only h s k a (lead (with_peer l p t b))
      (record {
        epoch = c.epoch;
        high = c.high;
        mine = c.mine;
        end = c.end;
        table = c.table;
        wide = c.wide;
        done = c.done;
        acked = upd-all (λ m v. v ≤ h.held (s.nodes a).replica.epoch m) (rw own le) (λ m ne. c.acked m);
      })
      (λ st w. (with_peer l p t b, refl, leads-top h s k a l q st w)) toks

  -- a later epoch: the record is dropped
  stepped : (x : ℕ) → x ≤ s.map.epoch → l.epoch < x → Clauses h (set_node s a (with_role (s.nodes a) backup))
  stepped x le lt = rerole_only h s k a backup tt (λ st w. absurd (omega (arith, leads-top h s k a l q st w))) tt

  unchanged : Clauses h (set_node s a (with_role (s.nodes a) (lead l)))
  unchanged = rerole_only h s k a (lead l) c (λ st w. (l, refl, leads-top h s k a l q st w)) toks

  counted : (v : Answer) → AnswerOk (h.held e p) e (s.nodes p).replica.epoch s.map.epoch v
      → Clauses h (set_node s a (with_role (s.nodes a) (counted_as l (length (s.nodes a).replica.log) p v)))
  unfolding counted_as
  counted (adopts t) ok = peer-set (min t (length (s.nodes a).replica.log)) true (omega (arith, ok.0))
  counted (stores t) ok =
      peer-set (max (l.acked p) t) (l.aligned p) (let le : l.acked p ≤ h.held e p = rw (← own) (c.acked p) in omega (arith, ok.0))
  counted (stale_align x) ok =
      by-test (λ r. Clauses h (set_node s a (with_role (s.nodes a) r))) (ltb l.epoch x) (λ t. stepped x ok (ltb-true l.epoch x t)) (λ t. unchanged)
  counted (stale_send x) ok =
      by-test (λ r. Clauses h (set_node s a (with_role (s.nodes a) r))) (ltb l.epoch x) (λ t. stepped x ok (ltb-true l.epoch x t))
      (λ t. peer-set (l.acked p) false (rw (← own) (c.acked p)))

  -- the peer joins: it holds all that the primary has
  module _ (full : length (s.nodes a).replica.log ≤ l.acked p) (out : member p l.ack ≡ false) (reached : e ≤ (s.nodes p).replica.epoch) where
    abbrev v : Proposal
    v = record { node = a; expand = true; peer = p; epoch = l.epoch }

    holds-all : length (h.book (s.nodes a).replica.epoch) ≤ h.held (s.nodes a).replica.epoch p
    holds-all = omega (arith, log-whole h s k a l q, c.acked p)

    none_yet : tokens p l.epoch s.proposals s.outcomes ≡ 0
    none_yet = same_or (tokens p l.epoch s.proposals s.outcomes ≡ 0) (tokens p l.epoch s.proposals s.outcomes) 0
        (λ z. z) (λ z. not_both (member p l.ack) ((toks p).listed (omega (arith, z))) out)

    mine : (m : ℕ) → TokenOk (h.ins l.epoch) (p ∷ l.ack) m (tokens m l.epoch (s.proposals ++ (v ∷ [])) s.outcomes)
    mine m = same_or (TokenOk (h.ins l.epoch) (p ∷ l.ack) m (tokens m l.epoch (s.proposals ++ (v ∷ [])) s.outcomes)) m p
        (λ w. rw (w, proposal_added s.proposals s.outcomes p l.epoch v, expands-own v refl, none_yet) (record {
          single = omega arith;
          out = λ _ i. not_both (member p l.ack) (c.wide p (rw c.epoch at i)) out;
          listed = λ _. in_head p l.ack;
        }))
        (λ ne. rw (proposal_added s.proposals s.outcomes m l.epoch v, expands-other m l.epoch v (λ w _. ne (sym w))) (record {
          single = omega (arith, (toks m).single);
          out = λ z. (toks m).out (omega arith);
          listed = λ z. in_cons m p l.ack ((toks m).listed (omega arith));
        }))

    others : (n : ℕ) → (n ≡ a → ⊥) → (r : Role) → (s.nodes n).role ≡ r → TokensOk h.ins (s.proposals ++ (v ∷ [])) s.outcomes r
    others n ne backup w = tt
    others n ne (lead l') w = λ m.
        let c' = lead_of h s k n l' w in
        let t' : TokensOk h.ins s.proposals s.outcomes (lead l') = rw w at (k.tokens n) in
        rw (
          proposal_added s.proposals s.outcomes m l'.epoch v,
          expands-other m l'.epoch v (λ _ z. ne (sym c'.mine ∙ ap h.pr (sym c'.epoch ∙ sym z ∙ c.epoch) ∙ c.mine)),
        )
        (record { single = omega (arith, (t' m).single); out = λ z. (t' m).out (omega arith); listed = λ z. (t' m).listed (omega arith) })

    joined : Clauses h (set_proposals (set_node s a (with_role (s.nodes a) (lead (with_ack l (p ∷ l.ack))))) (s.proposals ++ (v ∷ [])))
    unfolding set_node set_proposals set_outcomes with_ack
    joined =
        rerole h s k a (lead (with_ack l (p ∷ l.ack))) (s.proposals ++ (v ∷ [])) s.outcomes
        (record {
          epoch = c.epoch;
          high = c.high;
          mine = c.mine;
          end = c.end;
          table = c.table;
          acked = c.acked;
          wide = λ m i. in_cons m p l.ack (c.wide m i);
          done = λ m. of_cons m p l.ack (λ w. rw w (omega (arith, holds-all, k.book.real (s.nodes a).replica.epoch))) (λ i. c.done m i);
        })
        (λ st w. (with_ack l (p ∷ l.ack), refl, leads-top h s k a l q st w))
        (all_snoc (ProposalOk h s.nodes) s.proposals v k.way.proposals (record {
          begun = ap h.st c.epoch ∙ (k.nodes a).begun;
          caught = λ _. rw c.epoch (omega (arith, holds-all, within-length (h.start (s.nodes a).replica.epoch) (h.book (s.nodes a).replica.epoch) (k.book.begin (s.nodes a).replica.epoch)));
          reached = λ _. rw same reached;
        }))
        k.way.outcomes mine (λ n ne. others n ne (s.nodes n).role refl)

pub on-count : (h : History) (s : State) → Clauses h s → (i : ℕ) → Clauses h (on_count s i)
unfolding on_count count_as count_role
on-count h s k i = go (nth s.replies i) refl
  where
    act : (r : Reply) → nth s.replies i ≡ some r → (o : Option Lead) → lead_at (s.nodes r.node).role r.epoch ≡ o → Clauses h (count_role s r o)
    act r w none q = k
    act r w (some l) q =
        let f = is-lead (s.nodes r.node).role r.epoch l q in
        counted h s k r.node r.peer r.epoch l f.0 f.1 r.answer (all-nth (ReplyOk h s.nodes s.map.epoch) s.replies i r k.way.replies w)

    go : (o : Option Reply) → nth s.replies i ≡ o → Clauses h (count_as s o)
    go none w = k
    go (some r) w = act r w (lead_at (s.nodes r.node).role r.epoch) refl

-- what the test for joining tells
pub may_join_lem : (l : Lead) (last : ℕ) (r : Reply) → may_join l last r ≡ true
    → (is_positive r.answer ≡ true) × (last ≤ l.acked r.peer) × (member r.peer l.ack ≡ false)
unfolding may_join
may_join_lem l last r t =
    let u = and_right (is_positive r.answer) (leb last (l.acked r.peer) and cond (member r.peer l.ack) false true) t in (
      and_left (is_positive r.answer) (leb last (l.acked r.peer) and cond (member r.peer l.ack) false true) t,
      leb-true last (l.acked r.peer) (and_left (leb last (l.acked r.peer)) (cond (member r.peer l.ack) false true) u),
      out (member r.peer l.ack) (and_right (leb last (l.acked r.peer)) (cond (member r.peer l.ack) false true) u),
    )
  where
    out : (b : Bool) → cond b false true ≡ true → b ≡ false
    out true q = sym q
    out false q = refl

-- a positive answer comes from a node that has reached the epoch
pub positive_reached : (held e own top : ℕ) (v : Answer) → is_positive v ≡ true → AnswerOk held e own top v → e ≤ own
unfolding is_positive
positive_reached held e own top (adopts t) q ok = ok.1
positive_reached held e own top (stores t) q ok = ok.1
positive_reached held e own top (stale_align x) q ok = not_both false q refl
positive_reached held e own top (stale_send x) q ok = not_both false q refl

pub on_join_lem : (h : History) (s : State) → Clauses h s → (i : ℕ) → Clauses h (on_join s i)
unfolding on_join join_as join_lead
on_join_lem h s k i = go (nth s.replies i) refl
  where
    act : (r : Reply) → nth s.replies i ≡ some r → (o : Option Lead) → lead_at (s.nodes r.node).role r.epoch ≡ o → Clauses h (join_lead s r o)
    act r w none q = k
    act r w (some l) q =
        let f = is-lead (s.nodes r.node).role r.epoch l q in
        by-test (Clauses h) (may_join l (length (s.nodes r.node).replica.log) r)
        (λ t. let g = may_join_lem l (length (s.nodes r.node).replica.log) r t in
        joined h s k r.node r.peer r.epoch l f.0 f.1 g.1 g.2
        (positive_reached (h.held r.epoch r.peer) r.epoch (s.nodes r.peer).replica.epoch s.map.epoch r.answer g.0
        (all-nth (ReplyOk h s.nodes s.map.epoch) s.replies i r k.way.replies w)))
        (λ t. k)

    go : (o : Option Reply) → nth s.replies i ≡ o → Clauses h (join_as s o)
    go none w = k
    go (some r) w = act r w (lead_at (s.nodes r.node).role r.epoch) refl
