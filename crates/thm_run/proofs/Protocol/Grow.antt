-- The invariant after one node's log grows in its epoch: a backup stores entries of the primary's log, or a primary writes and its
-- epoch's log grows with it. Assumes nothing.
use Prim.Native.Nat.{ℕ, zero, suc, ◌+◌, ◌≤◌, ◌<◌, min, max}
use mathlib.Core.Path.{◌≡◌, refl, sym, ap, ◌∙◌, subst}
use mathlib.Core.Bool.{Bool, true, false, cond}
use mathlib.Core.List.{List, [], ◌∷◌, ◌++◌}
use mathlib.Core.Option.{Option, none, some}
use native.Mathlib.Omega.{arith}
use lib.Dec.{eqb, leb, ltb}
use lib.ListN.{length, length-append}
use borrow.Author.Tests.{eqb-true, eqb-false, eq-eqb, ne_eqb, leb-true, leb-false, le-leb, lt-leb, ltb-true, ltb-false}
use Rattle.spec.specs.Lists.{◌and◌, ◌or◌, nth, every}
use Rattle.spec.specs.Log.{Op, Entry, Log, End, entry_at, epoch_ends, keep, ShardReplica, append, push, cut_to, store_all, promote, entries_from, Vectors, play}
use Rattle.spec_laws.proofs.Lists.{by-test, not_both, and_left, and_right, none_some, some_same, nth-nil, nth-same, nth_lt, lt_nth, nth_last, nth_snoc, Within, within-length, within-append}
use Rattle.spec_laws.proofs.Log.Numbered.{Numbered, numbered_snoc, numbered_within}
use Rattle.spec_laws.proofs.Log.Play.{InStep}
use Rattle.thm_run.proofs.Protocol.Base.{All, all_map, all_snoc, all-nth, all_remove, nth-all, upd, upd-all, upd_same, upd_other, upd-keeps, same_or, upd2, upd2-all, upd2-same, upd2-other, at_pair, remove_at, count, count_snoc, count_remove, count_none}
use Rattle.thm_run.proofs.Protocol.Sets.{member, without, In, in_cons, in_head, of_cons, not_nil, of_without, in_without, not_without, every_in}
use Rattle.thm_run.proofs.Protocol.State.{Map, Lead, Role, backup, lead, Node, Request, align, send, Answer, adopts, stores, stale_align, stale_send, Reply, Proposal, Outcome, Accepted, Acknowledged, State, set_map, set_node, set_requests, add_reply, set_proposals, set_outcomes, add_accepted, add_acknowledged}
use Rattle.thm_run.proofs.Protocol.Ghost.{History, Agree}
use Rattle.thm_run.proofs.Protocol.Inv.{BookOk, LeadOk, RoleOk, NodeAt, NodeOk, Leading, MapOk, At, RequestOk, AnswerOk, ReplyOk, ProposalOk, OutcomeOk, Stands, AcceptedOk, AcknowledgedOk, WayOk, expands, shrinks, tokens, TokenOk, TokensOk, Took, CoverOk, Clauses}
use Rattle.thm_run.proofs.Protocol.Frame.{is-lead, not_lead, lead-same, at-within, agree_sym, agree_trans, agree_grow, agree_in, Grown, still, request-grown, reply-grown, proposal_grown, way_grown, role_more, cover_same, rerole}
use Rattle.thm_run.proofs.Protocol.OnPropose.{lead_of}

-- node n, with role r, gets the replica x; its epoch's log becomes b
module _ (h : History) (s : State) (k : Clauses h s) (n : ℕ) (r : Role) (x : ShardReplica) (b : Log) where
  abbrev e : ℕ
  e = (s.nodes n).replica.epoch

  abbrev pub new : History
  new = record {
    pr = h.pr;
    ins = h.ins;
    st = h.st;
    book = upd h.book e b;
    start = h.start;
    held = upd2 h.held e n (length x.log);
    cmt = h.cmt;
  }

  abbrev nodes : ℕ → Node
  nodes = upd s.nodes n (record { replica = x; role = r })

  module _ (is : (s.nodes n).role ≡ r) (same-epoch : x.epoch ≡ e) (longer : Within (s.nodes n).replica.log x.log) (played : InStep x)
      (up_here : Within (h.book e) b) (within : Within x.log b) (whole : h.pr e ≡ n → length x.log ≡ length b)
      (same-book : (h.pr e ≡ n → ⊥) → b ≡ h.book e) (blank : e ≡ 0 → b ≡ []) (numbered : Numbered b)
      (below : (i : ℕ) (y : Entry) → nth b i ≡ some y → y.epoch ≤ e)
      (own : (i : ℕ) (y : Entry) → nth b i ≡ some y → nth (upd h.book e b y.epoch) i ≡ some y) where
    up : (d : ℕ) → Within (h.book d) (new.book d)
    up = upd-all (λ d v. Within (h.book d) v) up_here (λ d ne i y q. q)

    more : (d m : ℕ) → h.held d m ≤ new.held d m
    more = upd2-all (λ d m v. h.held d m ≤ v)
        (omega (arith, (k.nodes n).here, within-length (s.nodes n).replica.log x.log longer)) (λ d m ne. omega arith)

    held_at : (d m : ℕ) → (d ≡ e → m ≡ n → ⊥) → new.held d m ≡ h.held d m
    held_at d m ne = upd2-other h.held e n (length x.log) d m ne

    grown : Grown h new
    grown = record { pr = λ d z. refl; st = λ d z. z; start = λ d z. refl; book = up; held = more; cmt = λ d. omega arith }

    ep_at : (m : ℕ) → (nodes m).replica.epoch ≡ (s.nodes m).replica.epoch
    ep_at = upd-keeps (λ (z : Node). z.replica.epoch) s.nodes n (record { replica = x; role = r }) same-epoch

    log-at : (m : ℕ) → Within (s.nodes m).replica.log (nodes m).replica.log
    log-at = upd-all (λ m (z : Node). Within (s.nodes m).replica.log z.replica.log) longer (λ m ne i y q. q)

    role_at_lem : (m : ℕ) → (nodes m).role ≡ (s.nodes m).role
    role_at_lem = upd-keeps (λ (z : Node). z.role) s.nodes n (record { replica = x; role = r }) (sym is)

    mine : NodeAt new n e x.log x.vectors r
    mine = let c = k.nodes n in record {
      begun = c.begun;
      within = rw (upd_same h.book e b) within;
      whole = λ q. rw (upd_same h.book e b) (whole q);
      here = upd2-same h.held e n (length x.log);
      ahead = λ d lt. held_at d n (λ z _. omega arith) ∙ c.ahead d lt;
      played = played;
      role = role_more n (h.pr e) (h.ins e) (h.start e) (h.held e) (new.held e) (h.cmt e) e r (more e) (rw is at c.role);
    }

    other : (m : ℕ) → (m ≡ n → ⊥) → NodeOk new m (s.nodes m)
    other m ne = let c = k.nodes m in let d = (s.nodes m).replica.epoch in record {
      begun = c.begun;
      within = λ i y q. up d i y (c.within i y q);
      whole = λ q. upd-all (λ d v. d ≡ (s.nodes m).replica.epoch → length (s.nodes m).replica.log ≡ length v)
          {f = h.book} {n = e} {x = b}
          (λ z. c.whole q ∙ ap (λ (y : ℕ). length (h.book y)) (sym z) ∙ ap length (sym (same-book (λ w. ne (sym q ∙ ap h.pr (sym z) ∙ w)))))
          (λ d ne z. c.whole q ∙ ap (λ (y : ℕ). length (h.book y)) (sym z)) (s.nodes m).replica.epoch refl;
      here = held_at d m (λ _ z. ne z) ∙ c.here;
      ahead = λ d lt. held_at d m (λ _ z. ne z) ∙ c.ahead d lt;
      played = c.played;
      role = role_more m (h.pr d) (h.ins d) (h.start d) (h.held d) (new.held d) (h.cmt d) d (s.nodes m).role (more d) c.role;
    }

    took : (d o : ℕ) → Took new nodes d o → Took h s.nodes d o
    took d o t m i lt = rw (held_at d m (λ z w. omega (arith, z, (ap (λ (y : ℕ). (s.nodes y).replica.epoch) w), lt))) at (t m i (rw (ep_at m) lt))

    pub grows : Clauses new (set_node s n (record { replica = x; role = r }))
    unfolding set_node
    grows = record {
      book = let c = k.book in record {
        one = c.one;
        range = c.range;
        seat = c.seat;
        blank = upd-all (λ d v. d ≡ 0 → v ≡ []) (λ z. blank z) (λ d ne z. ap h.book z ∙ c.blank) 0 refl;
        quiet = upd-all (λ d v. h.st d ≡ false → v ≡ []) (λ z. not_both (h.st e) (k.nodes n).begun z) (λ d ne. c.quiet d);
        begin = λ d i y q. up d i y (c.begin d i y q);
        own = upd-all (λ d v. (i : ℕ) (y : Entry) → nth v i ≡ some y → nth (new.book y.epoch) i ≡ some y)
            own (λ d ne i y q. up y.epoch i y (c.own d i y q));
        below = upd-all (λ d v. (i : ℕ) (y : Entry) → nth v i ≡ some y → y.epoch ≤ d) below (λ d ne. c.below d);
        numbered = upd-all (λ d v. Numbered v) numbered (λ d ne. c.numbered d);
        few = λ d m i. omega (arith, c.few d m i, more d m);
        real = λ d. omega (arith, c.real d, within-length (h.book d) (new.book d) (up d));
      };
      nodes = upd-all (NodeOk new) (subst (λ (d : ℕ). NodeAt new n d x.log x.vectors r) (sym same-epoch) mine) other;
      map = record {
        primary = k.map.primary;
        sync = k.map.sync;
        now = λ z. let f = k.map.now z in (f.0, role_at_lem s.map.primary ∙ f.1, f.2);
      };
      way = way_grown h new grown s.nodes nodes s.map.epoch s.map.epoch (λ m. omega (arith, ep_at m)) (omega arith) s.requests s.replies s.proposals s.outcomes s.accepted s.acknowledged k.way;
      tokens = λ m. rw (role_at_lem m) (k.tokens m);
      cover = record {
        low = λ d g m lo lt hi i le. k.cover.low d g m lo lt hi i (rw (ep_at m) at le);
        begins = λ d g o lo lt z t. agree_grow o (h.book d) (h.start g) (new.book d) (h.start g) (up d) (λ i y q. q) (k.cover.begins d g o lo lt z (took d o t));
        holds = λ d m o lo lt i over t. agree_grow o (h.book d) (s.nodes m).replica.log (new.book d) (nodes m).replica.log (up d) (log-at m)
            (k.cover.holds d m o lo lt i (rw (ep_at m) at over) (took d o t));
        led = λ d z. omega (arith, k.cover.led d z, ep_at (h.pr d));
      };
    }
