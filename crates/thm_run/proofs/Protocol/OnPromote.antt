-- The invariant after a promotion: the map's epoch rises, and its primary is one that was in sync. Assumes nothing.
use Prim.Native.Nat.{ℕ, zero, suc, ◌+◌, ◌≤◌, ◌<◌, min, max}
use mathlib.Core.Path.{◌≡◌, refl, sym, ap, ◌∙◌, subst}
use mathlib.Core.Bool.{Bool, true, false, cond}
use mathlib.Core.List.{List, [], ◌∷◌, ◌++◌}
use mathlib.Core.Option.{Option, none, some}
use native.Mathlib.Omega.{arith}
use lib.Dec.{eqb, leb, ltb}
use lib.ListN.{length, length-append}
use borrow.Author.Tests.{eqb-true, eqb-false, eq-eqb, ne_eqb, leb-true, leb-false, le-leb, lt-leb, ltb-true, ltb-false}
use Rattle.spec.specs.Lists.{◌and◌, ◌or◌, nth, every}
use Rattle.spec.specs.Log.{Op, Entry, Log, End, entry_at, epoch_ends, keep, ShardReplica, append, push, cut_to, store_all, promote, entries_from}
use Rattle.spec_laws.proofs.Lists.{by-test, not_both, and_left, and_right, none_some, some_same, nth-nil, nth-same, nth_lt, lt_nth, nth_last, nth_snoc, Within, within-length, within-append}
use Rattle.spec_laws.proofs.Log.Numbered.{Numbered, numbered_snoc, numbered_within}
use Rattle.spec_laws.proofs.Log.Play.{InStep}
use Rattle.thm_run.proofs.Protocol.Base.{All, all_map, all_snoc, all-nth, all_remove, nth-all, upd, upd-all, upd_same, upd_other, upd-keeps, same_or, upd2, upd2-all, upd2-same, upd2-other, at_pair, remove_at, count, count_snoc, count_remove, count_none}
use Rattle.thm_run.proofs.Protocol.Sets.{member, without, In, in_cons, in_head, of_cons, not_nil, of_without, in_without, not_without, every_in}
use Rattle.thm_run.proofs.Protocol.State.{Map, Lead, Role, backup, lead, Node, Request, align, send, Answer, adopts, stores, stale_align, stale_send, Reply, Proposal, Outcome, Accepted, Acknowledged, State, set_map, set_node, set_requests, add_reply, set_proposals, set_outcomes, add_accepted, add_acknowledged}
use Rattle.thm_run.proofs.Protocol.Ghost.{History, Agree}
use Rattle.thm_run.proofs.Protocol.Inv.{BookOk, LeadOk, RoleOk, NodeOk, Leading, MapOk, At, RequestOk, AnswerOk, ReplyOk, ProposalOk, OutcomeOk, Stands, AcceptedOk, AcknowledgedOk, WayOk, expands, shrinks, tokens, TokenOk, TokensOk, Took, CoverOk, Clauses}
use Rattle.thm_run.proofs.Protocol.Frame.{is-lead, not_lead, lead-same, at-within, agree_sym, agree_trans, agree_grow, agree_in, Grown, still, request-grown, reply-grown, proposal_grown, way_grown, role_more, cover_same, rerole}
use Rattle.thm_run.proofs.Protocol.State.{promoted, on_promote}
use Rattle.thm_run.proofs.Protocol.OnPropose.{lead_of}

module _ (h : History) (s : State) (k : Clauses h s) (q : ℕ) (in_sync_lem : In q s.map.insync) where
  abbrev top : ℕ
  top = s.map.epoch

  abbrev set : List ℕ
  set = (promoted s.map q).insync

  abbrev new : History
  new = record {
    pr = upd h.pr (suc top) q;
    ins = upd h.ins (suc top) set;
    st = h.st;
    book = h.book;
    start = h.start;
    held = h.held;
    cmt = h.cmt;
  }

  -- the new set is part of the old one, and has the new primary
  smaller : (m : ℕ) → In m set → In m (h.ins top)
  unfolding promoted
  smaller m = by-test (λ v. In m v → In m (h.ins top)) (eqb q s.map.primary)
      (λ t i. rw k.map.sync i) (λ t i. rw k.map.sync (of_without m s.map.primary s.map.insync i))

  has_new : In q set
  unfolding promoted
  has_new = by-test (In q) (eqb q s.map.primary) (λ t. in_sync_lem) (λ t. in_without q s.map.primary s.map.insync (eqb-false q s.map.primary t) in_sync_lem)

  begun_le : (n : ℕ) → (s.nodes n).replica.epoch ≤ top
  begun_le n = k.book.range (s.nodes n).replica.epoch (k.nodes n).begun

  pr_at : (e : ℕ) → e ≤ top → new.pr e ≡ h.pr e
  pr_at e le = upd_other h.pr (suc top) q e (λ z. omega arith)

  ins_at : (e : ℕ) → e ≤ top → new.ins e ≡ h.ins e
  ins_at e le = upd_other h.ins (suc top) set e (λ z. omega arith)

  no_book : h.book (suc top) ≡ []
  no_book = go (h.st (suc top)) refl
    where
      go : (b : Bool) → h.st (suc top) ≡ b → h.book (suc top) ≡ []
      go true z = absurd (omega (arith, k.book.range (suc top) z))
      go false z = k.book.quiet (suc top) z

  grown : Grown h new
  grown = record {
    pr = λ e b. pr_at e (k.book.range e b);
    st = λ e b. b;
    start = λ e b. refl;
    book = λ e i x z. z;
    held = λ e m. omega arith;
    cmt = λ e. omega arith;
  }

  took : (e o : ℕ) → e ≤ top → Took new s.nodes e o → Took h s.nodes e o
  took e o le t x i = t x (rw (ins_at e le) i)

  tokens-at : (r : Role) (n : ℕ) → (s.nodes n).role ≡ r → TokensOk h.ins s.proposals s.outcomes r → TokensOk new.ins s.proposals s.outcomes r
  tokens-at backup n z t = tt
  tokens-at (lead l) n z t = λ p. rw (ins_at l.epoch (omega (arith, begun_le n, (lead_of h s k n l z).epoch))) (t p)

  low-new : (e m : ℕ) → 1 ≤ e → e ≤ top → In m set → (s.nodes m).replica.epoch ≤ e → In m (h.ins e)
  low-new e m lo et i le = same_or (In m (h.ins e)) e top (λ z. rw z (smaller m i)) (λ ne. before (omega (arith, ne)))
    where
      before : e < top → In m (h.ins e)
      before lt = k.cover.low e top m lo lt (omega arith) (smaller m i) le

  promotes : Clauses new (set_map s (promoted s.map q))
  unfolding set_map promoted
  promotes = record {
    book = let b = k.book in record {
      one = omega arith;
      range = λ e z. let r = b.range e z in omega arith;
      seat = λ e lo. upd-all (λ d v. 1 ≤ d → d ≤ suc top → In (new.pr d) v)
          (λ _ _. rw (upd_same h.pr (suc top) q) has_new)
          (λ d ne lo hi. let le : d ≤ top = omega (arith, ne) in rw (pr_at d le) (b.seat d lo le)) e lo;
      blank = b.blank;
      quiet = b.quiet;
      begin = b.begin;
      own = b.own;
      below = b.below;
      numbered = b.numbered;
      real = b.real;
      few = upd-all (λ d v. (m : ℕ) → In m v → h.cmt d ≤ h.held d m)
          (λ m i. let r = b.real (suc top) in let z : length (h.book (suc top)) ≡ 0 = rw no_book refl in omega arith)
          (λ d ne. b.few d);
    };
    nodes = λ n. rw (pr_at (s.nodes n).replica.epoch (begun_le n), ins_at (s.nodes n).replica.epoch (begun_le n)) (k.nodes n);
    map = record {
      primary = upd_same h.pr (suc top) q;
      sync = upd_same h.ins (suc top) set;
      now = λ b. absurd (omega (arith, k.book.range (suc top) b));
    };
    way = way_grown h new grown s.nodes s.nodes top (suc top) (λ m. omega arith) (omega arith) s.requests s.replies s.proposals s.outcomes s.accepted s.acknowledged k.way;
    tokens = λ n. tokens-at (s.nodes n).role n refl (k.tokens n);
    cover = record {
      low = λ e g m lo lt. upd-all (λ d v. e < d → d ≤ suc top → In m v → (s.nodes m).replica.epoch ≤ e → In m (new.ins e))
          (λ lt _ i le. let et : e ≤ top = omega arith in rw (ins_at e et) (low-new e m lo et i le))
          (λ d ne lt hi i le. let dt : d ≤ top = omega (arith, ne) in let et : e ≤ top = omega arith in
          rw (ins_at e et) (k.cover.low e d m lo lt dt i le)) g lt;
      begins = λ e g o lo lt b t. let r = k.book.range g b in k.cover.begins e g o lo lt b (took e o (omega arith) t);
      holds = λ e m o lo lt i over t.
          let mt = begun_le m in
          let et : e < top = omega arith in
          k.cover.holds e m o lo et (smaller m (rw (upd_same h.ins (suc top) set) at i)) over (took e o (omega arith) t);
      led = λ e b. rw (pr_at e (k.book.range e b)) (k.cover.led e b);
    };
  }

pub on-promote : (h : History) (s : State) → Clauses h s → (q : ℕ) → (h' : History) × (h'.start ≡ h.start) × Clauses h' (on_promote s q)
unfolding on_promote
on-promote h s k q =
    by-test (λ z. (h' : History) × (h'.start ≡ h.start) × Clauses h' z) (member q s.map.insync)
    (λ t. (new h s k q t, refl, promotes h s k q t)) (λ t. (h, refl, k))
