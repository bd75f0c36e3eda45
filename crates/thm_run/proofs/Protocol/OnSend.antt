-- The invariant after a request goes under way or leaves its link, and after a reply goes under way. Assumes nothing.
use Prim.Native.Nat.{ℕ, zero, suc, ◌+◌, ◌≤◌, ◌<◌, min, max}
use mathlib.Core.Path.{◌≡◌, refl, sym, ap, ◌∙◌, subst}
use mathlib.Core.Bool.{Bool, true, false, cond}
use mathlib.Core.List.{List, [], ◌∷◌, ◌++◌}
use mathlib.Core.Option.{Option, none, some}
use native.Mathlib.Omega.{arith}
use lib.Dec.{eqb, leb, ltb}
use lib.ListN.{length, length-append}
use borrow.Author.Tests.{eqb-true, eqb-false, eq-eqb, ne_eqb, leb-true, leb-false, le-leb, lt-leb, ltb-true, ltb-false}
use Rattle.spec.specs.Lists.{◌and◌, ◌or◌, nth, every}
use Rattle.spec.specs.Log.{Op, Entry, Log, End, entry_at, epoch_ends, keep, ShardReplica, append, push, cut_to, store_all, promote, entries_from}
use Rattle.spec_laws.proofs.Lists.{by-test, not_both, and_left, and_right, none_some, some_same, nth-nil, nth-same, nth_lt, lt_nth, nth_last, nth_snoc, Within, within-length, within-append}
use Rattle.spec_laws.proofs.Log.Numbered.{Numbered, numbered_snoc, numbered_within}
use Rattle.spec_laws.proofs.Log.Play.{InStep}
use Rattle.thm_run.proofs.Protocol.Base.{All, all_map, all_snoc, all-nth, all_remove, nth-all, upd, upd-all, upd_same, upd_other, upd-keeps, same_or, upd2, upd2-all, upd2-same, upd2-other, at_pair, remove_at, count, count_snoc, count_remove, count_none}
use Rattle.thm_run.proofs.Protocol.Sets.{member, without, In, in_cons, in_head, of_cons, not_nil, of_without, in_without, not_without, every_in}
use Rattle.thm_run.proofs.Protocol.State.{Map, Lead, Role, backup, lead, Node, Request, align, send, Answer, adopts, stores, stale_align, stale_send, Reply, Proposal, Outcome, Accepted, Acknowledged, State, set_map, set_node, set_requests, add_reply, set_proposals, set_outcomes, add_accepted, add_acknowledged}
use Rattle.thm_run.proofs.Protocol.Ghost.{History, Agree}
use Rattle.thm_run.proofs.Protocol.Inv.{BookOk, LeadOk, RoleOk, NodeOk, Leading, MapOk, At, RequestOk, AnswerOk, ReplyOk, ProposalOk, OutcomeOk, Stands, AcceptedOk, AcknowledgedOk, WayOk, expands, shrinks, tokens, TokenOk, TokensOk, Took, CoverOk, Clauses}
use Rattle.thm_run.proofs.Protocol.Frame.{is-lead, not_lead, lead-same, at-within, agree_sym, agree_trans, agree_grow, agree_in, Grown, still, request-grown, reply-grown, proposal_grown, way_grown, role_more, cover_same, rerole}
use Rattle.spec_laws.proofs.Log.Numbered.{from-own}
use Rattle.thm_run.proofs.Protocol.State.{post, align_as, on_align, send_batch, send_as, on_send}
use Rattle.thm_run.proofs.Protocol.OnPropose.{lead_of}

pub relink : (h : History) (s : State) → Clauses h s → (a p : ℕ) (l : List Request)
    → All (RequestOk h.pr h.st h.book h.start a p) l → Clauses h (set_requests s a p l)
unfolding set_requests
relink h s k a p l ok = record {
  book = k.book;
  nodes = k.nodes;
  map = k.map;
  cover = k.cover;
  tokens = k.tokens;
  way = let w = k.way in record {
    requests = upd2-all (λ c d v. All (RequestOk h.pr h.st h.book h.start c d) v) ok (λ c d ne. w.requests c d);
    replies = w.replies;
    proposals = w.proposals;
    outcomes = w.outcomes;
    accepted = w.accepted;
    acknowledged = w.acknowledged;
  };
}

posted : (h : History) (s : State) → Clauses h s → (a p : ℕ) (r : Request) → RequestOk h.pr h.st h.book h.start a p r → Clauses h (post s a p r)
unfolding post
posted h s k a p r ok =
    relink h s k a p (s.requests a p ++ (r ∷ [])) (all_snoc (RequestOk h.pr h.st h.book h.start a p) (s.requests a p) r (k.way.requests a p) ok)

pub on_align_lem : (h : History) (s : State) → Clauses h s → (a p : ℕ) → Clauses h (on_align s a p)
unfolding on_align align_as
on_align_lem h s k a p = go (s.nodes a).role refl
  where
    go : (r : Role) → (s.nodes a).role ≡ r → Clauses h (align_as s a p r)
    go backup q = k
    go (lead l) q =
        let c = lead_of h s k a l q in
        let asks = posted h s k a p (align l.epoch l.end l.table) (record {
          begun = ap h.st c.epoch ∙ (k.nodes a).begun;
          owner = ap h.pr c.epoch ∙ c.mine;
          upto = c.end ∙ ap (λ (d : ℕ). length (h.start d)) (sym c.epoch);
          table = c.table ∙ ap (λ (d : ℕ). epoch_ends (h.start d)) (sym c.epoch);
        }) in
        by-test (Clauses h) (eqb a p) (λ t. asks) (λ t. by-test (Clauses h) (l.aligned p) (λ u. k) (λ u. asks))

-- the log of a node with a record is its epoch's
pub log-whole : (h : History) (s : State) → Clauses h s → (n : ℕ) (l : Lead) → (s.nodes n).role ≡ lead l
    → length (s.nodes n).replica.log ≡ length (h.book (s.nodes n).replica.epoch)
log-whole h s k n l q = (k.nodes n).whole (lead_of h s k n l q).mine

-- a batch of its entries
sent : (h : History) (s : State) → Clauses h s → (a p : ℕ) (l : Lead) → (s.nodes a).role ≡ lead l → (a ≡ p → ⊥) → (es : Log)
    → All (At (h.book l.epoch)) es → Clauses h (send_batch s a p l.epoch es)
unfolding send_batch
sent h s k a p l q ne [] ok = k
sent h s k a p l q ne (x ∷ xs) ok =
    let c = lead_of h s k a l q in
    posted h s k a p (send l.epoch (x ∷ xs)) (record {
      begun = ap h.st c.epoch ∙ (k.nodes a).begun;
      owner = ap h.pr c.epoch ∙ c.mine;
      other = ne;
      filled = omega arith;
      entries = ok;
    })

pub on_send_lem : (h : History) (s : State) → Clauses h s → (a p from size : ℕ) → Clauses h (on_send s a p from size)
unfolding on_send send_as
on_send_lem h s k a p from size = go (s.nodes a).role refl
  where
    go : (r : Role) → (s.nodes a).role ≡ r → Clauses h (send_as s a p from size r)
    go backup q = k
    go (lead l) q =
        by-test (Clauses h) (eqb a p) (λ t. k)
        (λ t. by-test (Clauses h) (l.aligned p)
        (λ u. sent h s k a p l q (eqb-false a p t) (entries_from (s.nodes a).replica.log from size)
        (nth-all (At (h.book l.epoch)) (entries_from (s.nodes a).replica.log from size)
        (λ i x w. rw (lead_of h s k a l q).epoch
        (at-within (s.nodes a).replica.log (h.book (s.nodes a).replica.epoch) x.offset x (k.nodes a).within
        (from-own (s.nodes a).replica.log from size i x
        (numbered_within (s.nodes a).replica.log (h.book (s.nodes a).replica.epoch) (k.nodes a).within (k.book.numbered (s.nodes a).replica.epoch)) w)))))
        (λ u. k))

pub add_reply_lem : (h : History) (s : State) → Clauses h s → (r : Reply) → ReplyOk h s.nodes s.map.epoch r → Clauses h (add_reply s r)
unfolding add_reply
add_reply_lem h s k r ok = record {
  book = k.book;
  nodes = k.nodes;
  map = k.map;
  cover = k.cover;
  tokens = k.tokens;
  way = let w = k.way in record {
    requests = w.requests;
    replies = all_snoc (ReplyOk h s.nodes s.map.epoch) s.replies r w.replies ok;
    proposals = w.proposals;
    outcomes = w.outcomes;
    accepted = w.accepted;
    acknowledged = w.acknowledged;
  };
}
