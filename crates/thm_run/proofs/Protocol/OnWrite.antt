-- The invariant after a write: the primary's log and its epoch's log grow by one entry. Assumes nothing.
use Prim.Native.Nat.{ℕ, zero, suc, ◌+◌, ◌≤◌, ◌<◌, min, max}
use mathlib.Core.Path.{◌≡◌, refl, sym, ap, ◌∙◌, subst}
use mathlib.Core.Bool.{Bool, true, false, cond}
use mathlib.Core.List.{List, [], ◌∷◌, ◌++◌}
use mathlib.Core.Option.{Option, none, some}
use native.Mathlib.Omega.{arith}
use lib.Dec.{eqb, leb, ltb}
use lib.ListN.{length, length-append}
use borrow.Author.Tests.{eqb-true, eqb-false, eq-eqb, ne_eqb, leb-true, leb-false, le-leb, lt-leb, ltb-true, ltb-false}
use Rattle.spec.specs.Lists.{◌and◌, ◌or◌, nth, every}
use Rattle.spec.specs.Log.{Op, Entry, Log, End, entry_at, epoch_ends, keep, ShardReplica, append, push, cut_to, store_all, promote, entries_from, Vectors, play}
use Rattle.spec_laws.proofs.Lists.{by-test, not_both, and_left, and_right, none_some, some_same, nth-nil, nth-same, nth_lt, lt_nth, nth_last, nth_snoc, Within, within-length, within-append}
use Rattle.spec_laws.proofs.Log.Numbered.{Numbered, numbered_snoc, numbered_within}
use Rattle.spec_laws.proofs.Log.Play.{InStep}
use Rattle.thm_run.proofs.Protocol.Base.{All, all_map, all_snoc, all-nth, all_remove, nth-all, upd, upd-all, upd_same, upd_other, upd-keeps, same_or, upd2, upd2-all, upd2-same, upd2-other, at_pair, remove_at, count, count_snoc, count_remove, count_none}
use Rattle.thm_run.proofs.Protocol.Sets.{member, without, In, in_cons, in_head, of_cons, not_nil, of_without, in_without, not_without, every_in}
use Rattle.thm_run.proofs.Protocol.State.{Map, Lead, Role, backup, lead, Node, Request, align, send, Answer, adopts, stores, stale_align, stale_send, Reply, Proposal, Outcome, Accepted, Acknowledged, State, set_map, set_node, set_requests, add_reply, set_proposals, set_outcomes, add_accepted, add_acknowledged}
use Rattle.thm_run.proofs.Protocol.Ghost.{History, Agree}
use Rattle.thm_run.proofs.Protocol.Inv.{BookOk, LeadOk, RoleOk, NodeAt, NodeOk, Leading, MapOk, At, RequestOk, AnswerOk, ReplyOk, ProposalOk, OutcomeOk, Stands, AcceptedOk, AcknowledgedOk, WayOk, expands, shrinks, tokens, TokenOk, TokensOk, Took, CoverOk, Clauses}
use Rattle.thm_run.proofs.Protocol.Frame.{is-lead, not_lead, lead-same, at-within, agree_sym, agree_trans, agree_grow, agree_in, Grown, still, request-grown, reply-grown, proposal_grown, way_grown, role_more, cover_same, rerole}
use Rattle.spec_laws.proofs.Lists.{within_same}
use Rattle.spec_laws.proofs.Log.Play.{in_step_append}
use Rattle.thm_run.proofs.Protocol.State.{write_as, on_write}
use Rattle.thm_run.proofs.Protocol.OnPropose.{lead_of}
use Rattle.thm_run.proofs.Protocol.OnSend.{log-whole}
use Rattle.thm_run.proofs.Protocol.Grow.{new, grows}

-- a write is accepted that stands in its epoch's log
pub accept : (h : History) (s : State) → Clauses h s → (w : Accepted) → AcceptedOk h w → Clauses h (add_accepted s w)
unfolding add_accepted
accept h s k w ok = record {
  book = k.book;
  nodes = k.nodes;
  map = k.map;
  cover = k.cover;
  tokens = k.tokens;
  way = let v = k.way in record {
    requests = v.requests;
    replies = v.replies;
    proposals = v.proposals;
    outcomes = v.outcomes;
    accepted = all_snoc (AcceptedOk h) s.accepted w v.accepted ok;
    acknowledged = v.acknowledged;
  };
}

module _ (h : History) (s : State) (k : Clauses h s) (n : ℕ) (op : Op) (l : Lead) (q : (s.nodes n).role ≡ lead l) where
  abbrev r : ShardReplica
  r = (s.nodes n).replica

  abbrev e : ℕ
  e = r.epoch

  abbrev y : Entry
  y = record { epoch = e; offset = length r.log + 1; op = op }

  abbrev b : Log
  b = r.log ++ (y ∷ [])

  c : LeadOk n (h.pr e) (h.ins e) (h.start e) (h.held e) (h.cmt e) e l
  c = lead_of h s k n l q

  log_is : r.log ≡ h.book e
  log_is = within_same r.log (h.book e) (k.nodes n).within (omega (arith, log-whole h s k n l q))

  up_here : Within (h.book e) b
  up_here = rw (← log_is) (within-append r.log (y ∷ []))

  up : (d : ℕ) → Within (h.book d) (upd h.book e b d)
  up = upd-all (λ d v. Within (h.book d) v) up_here (λ d ne i x p. p)

  numbered-log : Numbered r.log
  numbered-log = numbered_within r.log (h.book e) (k.nodes n).within (k.book.numbered e)

  abbrev after : History
  after = new h s k n (lead l) (append r op) b

  written : Clauses after (set_node s n (record { replica = append r op; role = lead l }))
  unfolding append push
  written =
      grows h s k n (lead l) (append r op) b q refl (within-append r.log (y ∷ [])) (in_step_append r op (k.nodes n).played)
      up_here (λ i x p. p) (λ _. refl) (λ ne. absurd (ne c.mine)) (λ z. absurd (omega (arith, c.high, z)))
      (numbered_snoc r.log y numbered-log (omega arith))
      (nth_snoc (λ i x. x.epoch ≤ e) r.log y (λ i x p. k.book.below e i x ((k.nodes n).within i x p)) (omega arith))
      (nth_snoc (λ i x. nth (upd h.book e b x.epoch) i ≡ some x) r.log y
      (λ i x p. up x.epoch i x (k.book.own e i x ((k.nodes n).within i x p)))
      (rw (upd_same h.book e b) (nth_last r.log y)))

  stands : Stands after l.epoch (suc (length r.log)) op
  unfolding entry_at
  stands =
      let plus : length r.log + 1 ≡ suc (length r.log) = omega arith in
      rw (c.epoch, upd_same h.book e b)
      (nth_last r.log y ∙ ap (λ (o : ℕ). some (record { epoch = e; offset = o; op = op })) plus)

pub on-write : (h : History) (s : State) → Clauses h s → (n : ℕ) (op : Op) → (h' : History) × (h'.start ≡ h.start) × Clauses h' (on_write s n op)
unfolding on_write write_as set_node
on-write h s k n op = go (s.nodes n).role refl
  where
    go : (r : Role) → (s.nodes n).role ≡ r → (h' : History) × (h'.start ≡ h.start) × Clauses h' (write_as s n op r)
    go backup q = (h, refl, k)
    go (lead l) q = (
      after h s k n op l q,
      refl,
      accept (after h s k n op l q) (set_node s n (record { replica = append (s.nodes n).replica op; role = lead l })) (written h s k n op l q)
          (record { node = n; epoch = l.epoch; offset = suc (length (s.nodes n).replica.log); op = op }) (stands h s k n op l q),
    )
