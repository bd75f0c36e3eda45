-- What a node brings along when it enters a later epoch: if it is in sync, all that the members who left an earlier epoch took along.
-- Assumes nothing.
use Prim.Native.Nat.{ℕ, zero, suc, ◌+◌, ◌≤◌, ◌<◌, min, max}
use mathlib.Core.Path.{◌≡◌, refl, sym, ap, ◌∙◌, subst}
use mathlib.Core.Bool.{Bool, true, false, cond}
use mathlib.Core.List.{List, [], ◌∷◌, ◌++◌}
use mathlib.Core.Option.{Option, none, some}
use native.Mathlib.Omega.{arith}
use lib.Dec.{eqb, leb, ltb}
use lib.ListN.{length, take, length-append}
use borrow.Author.Tests.{eqb-true, eqb-false, eq-eqb, ne_eqb, leb-true, leb-false, le-leb, lt-leb, ltb-true, ltb-false}
use Rattle.spec.specs.Lists.{◌and◌, ◌or◌, nth, every}
use Rattle.spec.specs.Log.{Op, Entry, Log, End, entry_at, epoch_ends, keep, ShardReplica, append, push, cut_to, store_all, promote, entries_from, Vectors, play}
use Rattle.spec_laws.proofs.Lists.{by-test, not_both, and_left, and_right, none_some, some_same, nth-nil, nth-same, nth_lt, lt_nth, nth_last, nth_snoc, Within, within-length, within-append}
use Rattle.spec_laws.proofs.Log.Numbered.{Numbered, numbered_snoc, numbered_within}
use Rattle.spec_laws.proofs.Log.Play.{InStep}
use Rattle.thm_run.proofs.Protocol.Base.{All, all_map, all_snoc, all-nth, all_remove, nth-all, upd, upd-all, upd_same, upd_other, upd-keeps, same_or, upd2, upd2-all, upd2-same, upd2-other, at_pair, remove_at, count, count_snoc, count_remove, count_none}
use Rattle.thm_run.proofs.Protocol.Sets.{member, without, In, in_cons, in_head, of_cons, not_nil, of_without, in_without, not_without, every_in}
use Rattle.thm_run.proofs.Protocol.State.{Map, Lead, Role, backup, lead, Node, Request, align, send, Answer, adopts, stores, stale_align, stale_send, Reply, Proposal, Outcome, Accepted, Acknowledged, State, set_map, set_node, set_requests, add_reply, set_proposals, set_outcomes, add_accepted, add_acknowledged}
use Rattle.thm_run.proofs.Protocol.Ghost.{History, Agree}
use Rattle.thm_run.proofs.Protocol.Inv.{BookOk, LeadOk, RoleOk, NodeAt, NodeOk, Leading, MapOk, At, RequestOk, AnswerOk, ReplyOk, ProposalOk, OutcomeOk, Stands, AcceptedOk, AcknowledgedOk, WayOk, expands, shrinks, tokens, TokenOk, TokensOk, Took, CoverOk, Clauses}
use Rattle.thm_run.proofs.Protocol.Frame.{is-lead, not_lead, lead-same, at-within, agree_sym, agree_trans, agree_grow, agree_in, Grown, still, request-grown, reply-grown, proposal_grown, way_grown, role_more, cover_same, rerole}

-- logs that agree up to an offset have the same part up to it
pub agree_take : (o : ℕ) (x y : Log) → Agree o x y → take o x ≡ take o y
unfolding nth
agree_take zero x y a = refl
agree_take (suc o) [] y a = let f = a 0 (omega arith) in nth-nil 0 f.0 f.1
agree_take (suc o) (u ∷ us) [] a = let f = a 0 (omega arith) in nth-nil 0 f.0 f.2
agree_take (suc o) (u ∷ us) (v ∷ vs) a =
    let f = a 0 (omega arith) in
    let p : u ≡ f.0 = nth-same (u ∷ us) 0 u f.0 refl f.1 in
    let q : v ≡ f.0 = nth-same (v ∷ vs) 0 v f.0 refl f.2 in
    rw (p, q, agree_take o us vs (λ i lt. a (suc i) (omega arith)))

-- the log of a node in sync agrees with an earlier epoch's as far as all members took it along, this node included
pub brings : (h : History) (s : State) → Clauses h s → (n e o : ℕ) → In n (h.ins s.map.epoch) → 1 ≤ e → e < s.map.epoch
    → Took h s.nodes e o → (In n (h.ins e) → o ≤ h.held e n) → Agree o (h.book e) (s.nodes n).replica.log
brings h s k n e o i lo lt t own = go (ltb e (s.nodes n).replica.epoch) refl
  where
    here : (s.nodes n).replica.epoch ≡ e → o ≤ h.held e n → Agree o (h.book e) (s.nodes n).replica.log
    here q le =
        let c = k.nodes n in
        let hl : h.held e n ≡ length (s.nodes n).replica.log = ap (λ (d : ℕ). h.held d n) (sym q) ∙ c.here in
        let w : Within (s.nodes n).replica.log (h.book e) = subst (λ (d : ℕ). Within (s.nodes n).replica.log (h.book d)) q c.within in
        let ll = within-length (s.nodes n).replica.log (h.book e) w in
        agree_in o (h.book e) (s.nodes n).replica.log (h.book e) (λ j x z. z) w (omega arith) (omega arith)

    at_or_past : (s.nodes n).replica.epoch ≤ e → o ≤ h.held e n → Agree o (h.book e) (s.nodes n).replica.log
    at_or_past le mine =
        same_or (Agree o (h.book e) (s.nodes n).replica.log) (s.nodes n).replica.epoch e (λ q. here q mine)
        (λ ne j lj. absurd (omega (arith, (k.nodes n).ahead e (omega (arith, ne)))))

    go : (b : Bool) → ltb e (s.nodes n).replica.epoch ≡ b → Agree o (h.book e) (s.nodes n).replica.log
    go true q = k.cover.holds e n o lo lt i (ltb-true e (s.nodes n).replica.epoch q) t
    go false q =
        let le = ltb-false e (s.nodes n).replica.epoch q in
        at_or_past le (own (k.cover.low e s.map.epoch n lo lt (omega arith) i le))
