-- The invariant after a proposal is made to shrink, and after a proposal or an outcome is lost: fewer tokens. Assumes nothing.
use Prim.Native.Nat.{ℕ, zero, suc, ◌+◌, ◌≤◌, ◌<◌, min, max}
use mathlib.Core.Path.{◌≡◌, refl, sym, ap, ◌∙◌, subst}
use mathlib.Core.Bool.{Bool, true, false, cond}
use mathlib.Core.List.{List, [], ◌∷◌, ◌++◌}
use mathlib.Core.Option.{Option, none, some}
use native.Mathlib.Omega.{arith}
use lib.Dec.{eqb, leb, ltb}
use lib.ListN.{length, length-append}
use borrow.Author.Tests.{eqb-true, eqb-false, eq-eqb, ne_eqb, leb-true, leb-false, le-leb, lt-leb, ltb-true, ltb-false}
use Rattle.spec.specs.Lists.{◌and◌, ◌or◌, nth, every}
use Rattle.spec.specs.Log.{Op, Entry, Log, End, entry_at, epoch_ends, keep, ShardReplica, append, push, cut_to, store_all, promote, entries_from}
use Rattle.spec_laws.proofs.Lists.{by-test, not_both, and_left, and_right, none_some, some_same, nth-nil, nth-same, nth_lt, lt_nth, nth_last, nth_snoc, Within, within-length, within-append}
use Rattle.spec_laws.proofs.Log.Numbered.{Numbered, numbered_snoc, numbered_within}
use Rattle.spec_laws.proofs.Log.Play.{InStep}
use Rattle.thm_run.proofs.Protocol.Base.{All, all_map, all_snoc, all-nth, all_remove, nth-all, upd, upd-all, upd_same, upd_other, upd-keeps, same_or, upd2, upd2-all, upd2-same, upd2-other, at_pair, remove_at, count, count_snoc, count_remove, count_none}
use Rattle.thm_run.proofs.Protocol.Sets.{member, without, In, in_cons, in_head, of_cons, not_nil, of_without, in_without, not_without, every_in}
use Rattle.thm_run.proofs.Protocol.State.{Map, Lead, Role, backup, lead, Node, Request, align, send, Answer, adopts, stores, stale_align, stale_send, Reply, Proposal, Outcome, Accepted, Acknowledged, State, set_map, set_node, set_requests, add_reply, set_proposals, set_outcomes, add_accepted, add_acknowledged}
use Rattle.thm_run.proofs.Protocol.Ghost.{History, Agree}
use Rattle.thm_run.proofs.Protocol.Inv.{BookOk, LeadOk, RoleOk, NodeOk, Leading, MapOk, At, RequestOk, AnswerOk, ReplyOk, ProposalOk, OutcomeOk, Stands, AcceptedOk, AcknowledgedOk, WayOk, expands, shrinks, tokens, TokenOk, TokensOk, Took, CoverOk, Clauses}
use Rattle.thm_run.proofs.Protocol.Frame.{is-lead, not_lead, lead-same, at-within, agree_sym, agree_trans, agree_grow, agree_in, Grown, still, request-grown, reply-grown, proposal_grown, way_grown, role_more, cover_same, rerole}
use Rattle.thm_run.proofs.Protocol.State.{suspect_as, on_suspect, on_forget, on_untell}

pub tokens_fewer : (ins : ℕ → List ℕ) (P P' : List Proposal) (O O' : List Outcome) → ((p e : ℕ) → tokens p e P' O' ≤ tokens p e P O)
    → (r : Role) → TokensOk ins P O r → TokensOk ins P' O' r
tokens_fewer ins P P' O O' le backup c = tt
tokens_fewer ins P P' O O' le (lead l) c = λ p. record {
  single = omega (arith, (c p).single, le p l.epoch);
  out = λ q. (c p).out (omega (arith, le p l.epoch));
  listed = λ q. (c p).listed (omega (arith, le p l.epoch));
}

pub repropose : (h : History) (s : State) → Clauses h s → (P : List Proposal) (O : List Outcome) → All (ProposalOk h s.nodes) P → All (OutcomeOk h) O
    → ((p e : ℕ) → tokens p e P O ≤ tokens p e s.proposals s.outcomes) → Clauses h (set_outcomes (set_proposals s P) O)
unfolding set_outcomes set_proposals
repropose h s k P O ps os le = record {
  book = k.book;
  nodes = k.nodes;
  map = k.map;
  cover = k.cover;
  way = let w = k.way in record { requests = w.requests; replies = w.replies; proposals = ps; outcomes = os; accepted = w.accepted; acknowledged = w.acknowledged };
  tokens = λ n. tokens_fewer h.ins s.proposals P s.outcomes O le (s.nodes n).role (k.tokens n);
}

-- what leaves takes at most its own token along
pub fewer_proposals : (P : List Proposal) (i p e : ℕ) (O : List Outcome) → tokens p e (remove_at P i) O ≤ tokens p e P O
unfolding tokens remove_at count
fewer_proposals [] i p e O = omega arith
fewer_proposals (v ∷ vs) zero p e O = omega arith
fewer_proposals (v ∷ vs) (suc i) p e O = let r = fewer_proposals vs i p e O in omega arith

pub fewer_outcomes : (P : List Proposal) (O : List Outcome) (i p e : ℕ) → tokens p e P (remove_at O i) ≤ tokens p e P O
unfolding tokens remove_at count
fewer_outcomes P [] i p e = omega arith
fewer_outcomes P (v ∷ vs) zero p e = omega arith
fewer_outcomes P (v ∷ vs) (suc i) p e = let r = fewer_outcomes P vs i p e in omega arith

pub on-forget : (h : History) (s : State) → Clauses h s → (i : ℕ) → Clauses h (on_forget s i)
unfolding on_forget set_proposals set_outcomes
on-forget h s k i =
    repropose h s k (remove_at s.proposals i) s.outcomes
    (all_remove (ProposalOk h s.nodes) s.proposals i k.way.proposals) k.way.outcomes
    (λ p e. fewer_proposals s.proposals i p e s.outcomes)

pub on_untell_lem : (h : History) (s : State) → Clauses h s → (i : ℕ) → Clauses h (on_untell s i)
unfolding on_untell set_proposals set_outcomes
on_untell_lem h s k i =
    repropose h s k s.proposals (remove_at s.outcomes i)
    k.way.proposals (all_remove (OutcomeOk h) s.outcomes i k.way.outcomes)
    (λ p e. fewer_outcomes s.proposals s.outcomes i p e)

-- what is added or taken, counted
module _ (P : List Proposal) (O : List Outcome) (p e : ℕ) where
  pub proposal_added : (v : Proposal) → tokens p e (P ++ (v ∷ [])) O ≡ cond (expands p e v) 1 0 + tokens p e P O
  unfolding tokens
  proposal_added v = let q = count_snoc (expands p e) P v in omega arith

  pub outcome_added : (v : Outcome) → tokens p e P (O ++ (v ∷ [])) ≡ cond (shrinks p e v) 1 0 + tokens p e P O
  unfolding tokens
  outcome_added v = let q = count_snoc (shrinks p e) O v in omega arith

  pub proposal_taken : (i : ℕ) (v : Proposal) → nth P i ≡ some v → tokens p e P O ≡ cond (expands p e v) 1 0 + tokens p e (remove_at P i) O
  unfolding tokens
  proposal_taken i v w = let q = count_remove (expands p e) P i v w in omega arith

  pub outcome-taken : (i : ℕ) (v : Outcome) → nth O i ≡ some v → tokens p e P O ≡ cond (shrinks p e v) 1 0 + tokens p e P (remove_at O i)
  unfolding tokens
  outcome-taken i v w = let q = count_remove (shrinks p e) O i v w in omega arith

-- whose token it is
pub expands-own : (v : Proposal) → v.expand ≡ true → expands v.peer v.epoch v ≡ true
unfolding expands ◌and◌
expands-own v q = rw (q, eq-eqb v.peer v.peer refl, eq-eqb v.epoch v.epoch refl)

pub expands-none : (p e : ℕ) (v : Proposal) → v.expand ≡ false → expands p e v ≡ false
unfolding expands ◌and◌
expands-none p e v q = rw q

pub expands-other : (p e : ℕ) (v : Proposal) → (v.peer ≡ p → v.epoch ≡ e → ⊥) → expands p e v ≡ false
unfolding expands ◌and◌
expands-other p e v ne = go v.expand (eqb v.peer p) (eqb v.epoch e) refl refl
  where
    go : (x y z : Bool) → eqb v.peer p ≡ y → eqb v.epoch e ≡ z → x and y and z ≡ false
    go false y z a b = refl
    go true false z a b = refl
    go true true false a b = refl
    go true true true a b = absurd (ne (eqb-true v.peer p a) (eqb-true v.epoch e b))

pub shrinks-own : (v : Outcome) → shrinks v.peer v.epoch v ≡ true
unfolding shrinks ◌and◌
shrinks-own v = rw (eq-eqb v.peer v.peer refl, eq-eqb v.epoch v.epoch refl)

pub shrinks-other : (p e : ℕ) (v : Outcome) → (v.peer ≡ p → v.epoch ≡ e → ⊥) → shrinks p e v ≡ false
unfolding shrinks ◌and◌
shrinks-other p e v ne = go (eqb v.peer p) (eqb v.epoch e) refl refl
  where
    go : (y z : Bool) → eqb v.peer p ≡ y → eqb v.epoch e ≡ z → y and z ≡ false
    go false z a b = refl
    go true false a b = refl
    go true true a b = absurd (ne (eqb-true v.peer p a) (eqb-true v.epoch e b))

-- a node with a record has begun the record's epoch, which is its own
pub lead_of : (h : History) (s : State) → Clauses h s → (n : ℕ) (l : Lead) → (s.nodes n).role ≡ lead l
    → LeadOk n (h.pr (s.nodes n).replica.epoch) (h.ins (s.nodes n).replica.epoch) (h.start (s.nodes n).replica.epoch) (h.held (s.nodes n).replica.epoch) (h.cmt (s.nodes n).replica.epoch) (s.nodes n).replica.epoch l
lead_of h s k n l q = rw q at (k.nodes n).role

pub on_suspect_lem : (h : History) (s : State) → Clauses h s → (a p : ℕ) → Clauses h (on_suspect s a p)
unfolding on_suspect suspect_as set_proposals set_outcomes
on_suspect_lem h s k a p = go (s.nodes a).role refl
  where
    go : (r : Role) → (s.nodes a).role ≡ r → Clauses h (suspect_as s a p r)
    go backup q = k
    go (lead l) q =
        let v : Proposal = record { node = a; expand = false; peer = p; epoch = l.epoch } in
        let begun : h.st l.epoch ≡ true = ap h.st (lead_of h s k a l q).epoch ∙ (k.nodes a).begun in
        repropose h s k (s.proposals ++ (v ∷ [])) s.outcomes
        (all_snoc (ProposalOk h s.nodes) s.proposals v k.way.proposals
        (record { begun = begun; caught = λ w. not_both false w refl; reached = λ w. not_both false w refl }))
        k.way.outcomes
        (λ m e. rw (proposal_added s.proposals s.outcomes m e v, expands-none m e v refl) (omega arith))
