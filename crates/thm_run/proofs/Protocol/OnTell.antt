-- The invariant after a node is told that its Shrink was applied: the member leaves the ack set. Assumes nothing.
use Prim.Native.Nat.{ℕ, zero, suc, ◌+◌, ◌≤◌, ◌<◌, min, max}
use mathlib.Core.Path.{◌≡◌, refl, sym, ap, ◌∙◌, subst}
use mathlib.Core.Bool.{Bool, true, false, cond}
use mathlib.Core.List.{List, [], ◌∷◌, ◌++◌}
use mathlib.Core.Option.{Option, none, some}
use native.Mathlib.Omega.{arith}
use lib.Dec.{eqb, leb, ltb}
use lib.ListN.{length, length-append}
use borrow.Author.Tests.{eqb-true, eqb-false, eq-eqb, ne_eqb, leb-true, leb-false, le-leb, lt-leb, ltb-true, ltb-false}
use Rattle.spec.specs.Lists.{◌and◌, ◌or◌, nth, every}
use Rattle.spec.specs.Log.{Op, Entry, Log, End, entry_at, epoch_ends, keep, ShardReplica, append, push, cut_to, store_all, promote, entries_from}
use Rattle.spec_laws.proofs.Lists.{by-test, not_both, and_left, and_right, none_some, some_same, nth-nil, nth-same, nth_lt, lt_nth, nth_last, nth_snoc, Within, within-length, within-append}
use Rattle.spec_laws.proofs.Log.Numbered.{Numbered, numbered_snoc, numbered_within}
use Rattle.spec_laws.proofs.Log.Play.{InStep}
use Rattle.thm_run.proofs.Protocol.Base.{All, all_map, all_snoc, all-nth, all_remove, nth-all, upd, upd-all, upd_same, upd_other, upd-keeps, same_or, upd2, upd2-all, upd2-same, upd2-other, at_pair, remove_at, count, count_snoc, count_remove, count_none}
use Rattle.thm_run.proofs.Protocol.Sets.{member, without, In, in_cons, in_head, of_cons, not_nil, of_without, in_without, not_without, every_in}
use Rattle.thm_run.proofs.Protocol.State.{Map, Lead, Role, backup, lead, Node, Request, align, send, Answer, adopts, stores, stale_align, stale_send, Reply, Proposal, Outcome, Accepted, Acknowledged, State, set_map, set_node, set_requests, add_reply, set_proposals, set_outcomes, add_accepted, add_acknowledged}
use Rattle.thm_run.proofs.Protocol.Ghost.{History, Agree}
use Rattle.thm_run.proofs.Protocol.Inv.{BookOk, LeadOk, RoleOk, NodeOk, Leading, MapOk, At, RequestOk, AnswerOk, ReplyOk, ProposalOk, OutcomeOk, Stands, AcceptedOk, AcknowledgedOk, WayOk, expands, shrinks, tokens, TokenOk, TokensOk, Took, CoverOk, Clauses}
use Rattle.thm_run.proofs.Protocol.Frame.{is-lead, not_lead, lead-same, at-within, agree_sym, agree_trans, agree_grow, agree_in, Grown, still, request-grown, reply-grown, proposal_grown, way_grown, role_more, cover_same, rerole}
use Rattle.thm_run.proofs.Protocol.State.{with_role, with_ack, lead_at, told_as, tell_as, on_tell}
use Rattle.thm_run.proofs.Protocol.OnPropose.{lead_of, repropose, tokens_fewer, fewer_outcomes, outcome-taken, shrinks-own}
use Rattle.thm_run.proofs.Protocol.OnReply.{leads-top}

module _ (h : History) (s : State) (k : Clauses h s) (i : ℕ) (v : Outcome) (at : nth s.outcomes i ≡ some v) where
  left : All (OutcomeOk h) (remove_at s.outcomes i)
  left = all_remove (OutcomeOk h) s.outcomes i k.way.outcomes

  fewer : (p e : ℕ) → tokens p e s.proposals (remove_at s.outcomes i) ≤ tokens p e s.proposals s.outcomes
  fewer p e = fewer_outcomes s.proposals s.outcomes i p e

  pub untold : Clauses h (set_outcomes s (remove_at s.outcomes i))
  unfolding set_proposals set_outcomes
  untold = repropose h s k s.proposals (remove_at s.outcomes i) k.way.proposals left fewer

  module _ (l : Lead) (q : (s.nodes v.node).role ≡ lead l) (same : l.epoch ≡ v.epoch) where
    abbrev a : ℕ
    a = v.node

    abbrev p : ℕ
    p = v.peer

    c : LeadOk a (h.pr (s.nodes a).replica.epoch) (h.ins (s.nodes a).replica.epoch) (h.start (s.nodes a).replica.epoch) (h.held (s.nodes a).replica.epoch) (h.cmt (s.nodes a).replica.epoch) (s.nodes a).replica.epoch l
    c = lead_of h s k a l q

    toks : TokensOk h.ins s.proposals s.outcomes (lead l)
    toks = rw q at (k.tokens a)

    -- this outcome is the only token of its peer
    taken : tokens p l.epoch s.proposals s.outcomes ≡ 1 + tokens p l.epoch s.proposals (remove_at s.outcomes i)
    taken =
        let w = outcome-taken s.proposals s.outcomes p v.epoch i v at in
        let o = shrinks-own v in rw same (w ∙ ap (λ (b : Bool). cond b 1 0 + tokens p v.epoch s.proposals (remove_at s.outcomes i)) o)

    not_in_lem : In p (h.ins l.epoch) → ⊥
    not_in_lem = (toks p).out (omega (arith, taken))

    mine : (m : ℕ) → TokenOk (h.ins l.epoch) (without p l.ack) m (tokens m l.epoch s.proposals (remove_at s.outcomes i))
    mine m = same_or (TokenOk (h.ins l.epoch) (without p l.ack) m (tokens m l.epoch s.proposals (remove_at s.outcomes i))) m p
        (λ w. let none_left : tokens m l.epoch s.proposals (remove_at s.outcomes i) ≡ 0 = rw w (omega (arith, taken, (toks p).single)) in
        record { single = omega arith; out = λ z. absurd (omega arith); listed = λ z. absurd (omega arith) })
        (λ ne. record {
          single = omega (arith, fewer m l.epoch, (toks m).single);
          out = λ z. (toks m).out (omega (arith, fewer m l.epoch));
          listed = λ z. in_without m p l.ack ne ((toks m).listed (omega (arith, fewer m l.epoch)));
        })

    pub told : Clauses h (set_outcomes (set_node s a (with_role (s.nodes a) (lead (with_ack l (without p l.ack))))) (remove_at s.outcomes i))
    unfolding set_node set_proposals set_outcomes with_ack
    told =
        rerole h s k a (lead (with_ack l (without p l.ack))) s.proposals (remove_at s.outcomes i)
        (record {
          epoch = c.epoch;
          high = c.high;
          mine = c.mine;
          end = c.end;
          table = c.table;
          acked = c.acked;
          wide = λ m j. in_without m p l.ack (λ w. not_in_lem (rw (← w, c.epoch) j)) (c.wide m j);
          done = λ m j. c.done m (of_without m p l.ack j);
        })
        (λ st w. (with_ack l (without p l.ack), refl, leads-top h s k a l q st w))
        k.way.proposals left mine
        (λ n ne. tokens_fewer h.ins s.proposals s.proposals s.outcomes (remove_at s.outcomes i) fewer (s.nodes n).role (k.tokens n))

pub on_tell_lem : (h : History) (s : State) → Clauses h s → (i : ℕ) → Clauses h (on_tell s i)
unfolding on_tell tell_as told_as set_node set_outcomes
on_tell_lem h s k i = go (nth s.outcomes i) refl
  where
    act : (v : Outcome) → nth s.outcomes i ≡ some v → (o : Option Lead) → lead_at (s.nodes v.node).role v.epoch ≡ o
        → Clauses h (told_as (set_outcomes s (remove_at s.outcomes i)) v o)
    act v w none q = untold h s k i v w
    act v w (some l) q = let f = is-lead (s.nodes v.node).role v.epoch l q in told h s k i v w l f.0 f.1

    go : (o : Option Outcome) → nth s.outcomes i ≡ o → Clauses h (tell_as s i o)
    go none w = k
    go (some v) w = act v w (lead_at (s.nodes v.node).role v.epoch) refl
