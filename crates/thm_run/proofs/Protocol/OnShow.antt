-- The invariant after a map is shown: another node's primary drops its record, and the map's primary begins its epoch. Assumes nothing.
use Prim.Native.Nat.{ℕ, zero, suc, ◌+◌, ◌≤◌, ◌<◌, min, max}
use mathlib.Core.Path.{◌≡◌, refl, sym, ap, ◌∙◌, subst}
use mathlib.Core.Bool.{Bool, true, false, cond}
use mathlib.Core.List.{List, [], ◌∷◌, ◌++◌}
use mathlib.Core.Option.{Option, none, some}
use native.Mathlib.Omega.{arith}
use lib.Dec.{eqb, leb, ltb}
use lib.ListN.{length, length-append}
use borrow.Author.Tests.{eqb-true, eqb-false, eq-eqb, ne_eqb, leb-true, leb-false, le-leb, lt-leb, ltb-true, ltb-false}
use Rattle.spec.specs.Lists.{◌and◌, ◌or◌, nth, every}
use Rattle.spec.specs.Log.{Op, Entry, Log, End, entry_at, epoch_ends, keep, ShardReplica, append, push, cut_to, store_all, promote, entries_from, Vectors, play}
use Rattle.spec_laws.proofs.Lists.{by-test, not_both, and_left, and_right, none_some, some_same, nth-nil, nth-same, nth_lt, lt_nth, nth_last, nth_snoc, Within, within-length, within-append}
use Rattle.spec_laws.proofs.Log.Numbered.{Numbered, numbered_snoc, numbered_within}
use Rattle.spec_laws.proofs.Log.Play.{InStep}
use Rattle.thm_run.proofs.Protocol.Base.{All, all_map, all_snoc, all-nth, all_remove, nth-all, upd, upd-all, upd_same, upd_other, upd-keeps, same_or, upd2, upd2-all, upd2-same, upd2-other, at_pair, remove_at, count, count_snoc, count_remove, count_none}
use Rattle.thm_run.proofs.Protocol.Sets.{member, without, In, in_cons, in_head, of_cons, not_nil, of_without, in_without, not_without, every_in}
use Rattle.thm_run.proofs.Protocol.State.{Map, Lead, Role, backup, lead, Node, Request, align, send, Answer, adopts, stores, stale_align, stale_send, Reply, Proposal, Outcome, Accepted, Acknowledged, State, set_map, set_node, set_requests, add_reply, set_proposals, set_outcomes, add_accepted, add_acknowledged}
use Rattle.thm_run.proofs.Protocol.Ghost.{History, Agree}
use Rattle.thm_run.proofs.Protocol.Inv.{BookOk, LeadOk, RoleOk, NodeAt, NodeOk, Leading, MapOk, At, RequestOk, AnswerOk, ReplyOk, ProposalOk, OutcomeOk, Stands, AcceptedOk, AcknowledgedOk, WayOk, expands, shrinks, tokens, TokenOk, TokensOk, Took, CoverOk, Clauses}
use Rattle.thm_run.proofs.Protocol.Frame.{is-lead, not_lead, lead-same, at-within, agree_sym, agree_trans, agree_grow, agree_in, Grown, still, request-grown, reply-grown, proposal_grown, way_grown, role_more, cover_same, rerole}
use Rattle.spec_laws.proofs.Log.Play.{in_step_promote}
use Rattle.thm_run.proofs.Protocol.State.{with_role, lead_at, leader, show_as, on_show}
use Rattle.thm_run.proofs.Protocol.OnPropose.{lead_of, expands-other, shrinks-other}
use Rattle.thm_run.proofs.Protocol.OnReply.{rerole_only}
use Rattle.thm_run.proofs.Protocol.Entering.{brings}

-- the map's primary n begins the map's epoch
module _ (h : History) (s : State) (k : Clauses h s) (n : ℕ) (is : s.map.primary ≡ n) (unbegun : h.st s.map.epoch ≡ false) where
  abbrev F : ℕ
  F = s.map.epoch

  abbrev log : Log
  log = (s.nodes n).replica.log

  abbrev E : ℕ
  E = (s.nodes n).replica.epoch

  abbrev pub new : History
  new = record {
    pr = h.pr;
    ins = h.ins;
    st = upd h.st F true;
    book = upd h.book F log;
    start = upd h.start F log;
    held = upd2 h.held F n (length log);
    cmt = h.cmt;
  }

  abbrev l : Lead
  l = record { epoch = F; end = length log; table = epoch_ends log; ack = s.map.insync; acked = λ p. 0; aligned = λ p. false }

  abbrev pub nodes : ℕ → Node
  nodes = upd s.nodes n (leader (s.nodes n) s.map)

  -- what has begun is not the map's epoch; so no node is at it
  not_top : (e : ℕ) → h.st e ≡ true → e ≡ F → ⊥
  not_top e b q = not_both (h.st F) (rw (← q) b) unbegun

  pub before : (m : ℕ) → (s.nodes m).replica.epoch < F
  before m = let b = (k.nodes m).begun in let le = k.book.range (s.nodes m).replica.epoch b in let ne = not_top (s.nodes m).replica.epoch b in omega (arith, ne)

  no_book : h.book F ≡ []
  no_book = k.book.quiet F unbegun

  up : (e : ℕ) → Within (h.book e) (new.book e)
  up = upd-all (λ e v. Within (h.book e) v) (λ i x q. nth-nil i x (rw no_book at q)) (λ e ne i x q. q)

  held_zero : (m : ℕ) → h.held F m ≡ 0
  held_zero m = (k.nodes m).ahead F (before m)

  cmt_zero : h.cmt F ≡ 0
  cmt_zero = let r = k.book.real F in let z : length (h.book F) ≡ 0 = rw no_book refl in omega arith

  more : (e m : ℕ) → h.held e m ≤ new.held e m
  more = upd2-all (λ e m v. h.held e m ≤ v) (omega (arith, held_zero n)) (λ e m ne. omega arith)

  book_at : (e : ℕ) → (e ≡ F → ⊥) → new.book e ≡ h.book e
  book_at e ne = upd_other h.book F log e ne

  start-at : (e : ℕ) → (e ≡ F → ⊥) → new.start e ≡ h.start e
  start-at e ne = upd_other h.start F log e ne

  st-at : (e : ℕ) → (e ≡ F → ⊥) → new.st e ≡ h.st e
  st-at e ne = upd_other h.st F true e ne

  held_at : (e : ℕ) → (e ≡ F → ⊥) → new.held e ≡ h.held e
  unfolding upd2
  held_at e ne = upd_other h.held F (upd (h.held F) n (length log)) e ne

  grown : Grown h new
  grown = record {
    pr = λ e b. refl;
    st = λ e b. st-at e (not_top e b) ∙ b;
    start = λ e b. start-at e (not_top e b);
    book = up;
    held = more;
    cmt = λ e. omega arith;
  }

  mine : NodeAt new n F log (s.nodes n).replica.vectors (lead l)
  mine = record {
    begun = upd_same h.st F true;
    within = rw (upd_same h.book F log) (λ i x q. q);
    whole = λ _. ap length (sym (upd_same h.book F log));
    here = upd2-same h.held F n (length log);
    ahead = λ e lt. ap (λ (f : ℕ → ℕ). f n) (held_at e (λ q. omega arith)) ∙ (k.nodes n).ahead e (omega (arith, before n));
    played = (k.nodes n).played;
    role = record {
      epoch = refl;
      high = k.book.one;
      mine = k.map.primary ∙ is;
      end = ap length (sym (upd_same h.start F log));
      table = ap epoch_ends (sym (upd_same h.start F log));
      wide = λ m i. rw (← k.map.sync) i;
      acked = λ m. omega arith;
      done = λ m i. omega (arith, cmt_zero);
    };
  }

  other : (m : ℕ) → (m ≡ n → ⊥) → NodeOk new m (s.nodes m)
  other m no' =
      let d = (s.nodes m).replica.epoch in
      let ne : d ≡ F → ⊥ = λ q. omega (arith, before m) in
      let c = k.nodes m in
      record {
        begun = st-at d ne ∙ c.begun;
        within = λ i x q. up d i x (c.within i x q);
        whole = λ q. c.whole q ∙ ap length (sym (book_at d ne));
        here = ap (λ (f : ℕ → ℕ). f m) (held_at d ne) ∙ c.here;
        ahead = λ e lt. upd2-other h.held F n (length log) e m (λ _ q. no' q) ∙ c.ahead e lt;
        played = c.played;
        role = rw (start-at d ne, held_at d ne) c.role;
      }

  -- nothing that is under way is of an epoch that has not begun
  no_tokens : (p : ℕ) → tokens p F s.proposals s.outcomes ≡ 0
  unfolding tokens
  no_tokens p =
      let a = count_none (expands p F) s.proposals
      (all_map {P = ProposalOk h s.nodes} {Q = λ v. expands p F v ≡ false} (λ v c. expands-other p F v (λ _ q. not_top v.epoch c.begun q)) s.proposals k.way.proposals) in
      let b = count_none (shrinks p F) s.outcomes
      (all_map {P = OutcomeOk h} {Q = λ v. shrinks p F v ≡ false} (λ v c. shrinks-other p F v (λ _ q. not_top v.epoch c q)) s.outcomes k.way.outcomes) in
      omega arith

  pub epoch_mine : (nodes n).replica.epoch ≡ F
  unfolding leader promote
  epoch_mine = ap (λ (z : Node). z.replica.epoch) (upd_same s.nodes n (leader (s.nodes n) s.map)) ∙ top_max E F (before n)
    where
      top_max : (a b : ℕ) → a < b → max a b ≡ b
      top_max a b lt = omega arith

  log-at : (m : ℕ) → (nodes m).replica.log ≡ (s.nodes m).replica.log
  unfolding leader promote
  log-at = upd-keeps (λ (z : Node). z.replica.log) s.nodes n (leader (s.nodes n) s.map) refl

  pub ep : (m : ℕ) → (s.nodes m).replica.epoch ≤ (nodes m).replica.epoch
  unfolding leader promote
  ep = upd-all (λ m (z : Node). (s.nodes m).replica.epoch ≤ z.replica.epoch) (omega arith) (λ m ne. omega arith)

  took : (e o : ℕ) → e < F → Took new nodes e o → Took h s.nodes e o
  took e o lt t m i over = rw (held_at e (λ q. omega arith)) at (t m i (omega (arith, over, ep m)))

  -- what the new primary brings along
  along : (e o : ℕ) → 1 ≤ e → e < F → Took new nodes e o → Agree o (h.book e) log
  along e o lo lt t =
      brings h s k n e o (rw (← is, ← k.map.primary) (k.book.seat F k.book.one (omega arith))) lo lt (took e o lt t)
      (λ i. rw (held_at e (λ q. omega arith)) at (t n i (omega (arith, epoch_mine, lt))))

  begins : (e g o : ℕ) → 1 ≤ e → e < g → new.st g ≡ true → Took new nodes e o → Agree o (new.book e) (new.start g)
  begins e g o lo lt b t =
      same_or (Agree o (new.book e) (new.start g)) g F
      (λ q. let lt2 : e < F = omega (arith, q) in rw (q, book_at e (λ z. omega arith), upd_same h.start F log) (along e o lo lt2 t))
      (λ ne. let b2 : h.st g ≡ true = sym (st-at g ne) ∙ b in
      let le = k.book.range g b2 in
      let lt2 : e < F = omega arith in
      rw (book_at e (λ z. omega arith), start-at g ne) (k.cover.begins e g o lo lt b2 (took e o lt2 t)))

  holds : (e m o : ℕ) → 1 ≤ e → e < F → In m (h.ins F) → e < (nodes m).replica.epoch → Took new nodes e o → Agree o (new.book e) (nodes m).replica.log
  holds e m o lo lt i over t =
      rw (book_at e (λ z. omega arith), log-at m)
      (same_or (Agree o (h.book e) (s.nodes m).replica.log) m n
      (λ q. rw q (along e o lo lt t))
      (λ ne. k.cover.holds e m o lo lt i (subst (λ (z : Node). e < z.replica.epoch) (upd_other s.nodes n (leader (s.nodes n) s.map) m ne) over) (took e o lt t)))

  here : NodeOk new n (leader (s.nodes n) s.map)
  unfolding leader promote
  here = subst (λ (d : ℕ). NodeAt new n d log (s.nodes n).replica.vectors (lead l)) (top_max E F (before n)) mine
    where
      top_max : (a b : ℕ) → a < b → b ≡ max a b
      top_max a b lt = omega arith

  here_led : (nodes (h.pr F)).replica.epoch ≡ F
  unfolding leader promote
  here_led =
      ap (λ (m : ℕ). (nodes m).replica.epoch) (k.map.primary ∙ is)
      ∙ ap (λ (z : Node). z.replica.epoch) (upd_same s.nodes n (leader (s.nodes n) s.map))
      ∙ omega (arith, before n)

  lead_here : (nodes s.map.primary).role ≡ lead l
  unfolding leader
  lead_here = rw (is, upd_same s.nodes n (leader (s.nodes n) s.map)) refl

  tokens_here : TokensOk h.ins s.proposals s.outcomes (leader (s.nodes n) s.map).role
  unfolding leader
  tokens_here = λ p. record {
    single = omega (arith, no_tokens p);
    out = λ q. absurd (omega (arith, no_tokens p));
    listed = λ q. absurd (omega (arith, no_tokens p));
  }

  pub started : Clauses new (set_node s n (leader (s.nodes n) s.map))
  unfolding set_node
  started = record {
    book = let b = k.book in record {
      one = b.one;
      seat = b.seat;
      range = upd-all (λ e v. v ≡ true → e ≤ F) (λ _. omega arith) (λ e ne. b.range e);
      blank = book_at 0 (λ q. omega (arith, b.one)) ∙ b.blank;
      quiet = λ e q. same_or (new.book e ≡ []) e F
          (λ z. not_both (new.st F) (upd_same h.st F true) (rw z at q))
          (λ ne. book_at e ne ∙ b.quiet e (sym (st-at e ne) ∙ q));
      begin = λ e. same_or (Within (new.start e) (new.book e)) e F
          (λ z. rw (z, upd_same h.start F log, upd_same h.book F log) (λ i x q. q))
          (λ ne. rw (start-at e ne, book_at e ne) (b.begin e));
      own = upd-all (λ e v. (i : ℕ) (x : Entry) → nth v i ≡ some x → nth (new.book x.epoch) i ≡ some x)
          (λ i x q. up x.epoch i x (b.own E i x ((k.nodes n).within i x q)))
          (λ e ne i x q. up x.epoch i x (b.own e i x q));
      below = upd-all (λ e v. (i : ℕ) (x : Entry) → nth v i ≡ some x → x.epoch ≤ e)
          (λ i x q. omega (arith, b.below E i x ((k.nodes n).within i x q), before n)) (λ e ne. b.below e);
      numbered = upd-all (λ e v. Numbered v) (numbered_within log (h.book E) (k.nodes n).within (b.numbered E)) (λ e ne. b.numbered e);
      few = λ e m i. omega (arith, b.few e m i, more e m);
      real = λ e. omega (arith, b.real e, within-length (h.book e) (new.book e) (up e));
    };
    nodes = upd-all (NodeOk new) here other;
    map = record {
      primary = k.map.primary;
      sync = k.map.sync;
      now = λ _. (l, lead_here, refl);
    };
    way = way_grown h new grown s.nodes nodes F F ep (omega arith) s.requests s.replies s.proposals s.outcomes s.accepted s.acknowledged k.way;
    tokens = upd-all (λ m (z : Node). TokensOk h.ins s.proposals s.outcomes z.role) tokens_here (λ m ne. k.tokens m);
    cover = record {
      low = λ e g m lo lt hi i le. k.cover.low e g m lo lt hi i (omega (arith, le, ep m));
      begins = begins;
      holds = holds;
      led = upd-all (λ e v. v ≡ true → e ≤ (nodes (h.pr e)).replica.epoch) (λ _. omega (arith, here_led)) (λ e ne b. omega (arith, k.cover.led e b, ep (h.pr e)));
    };
  }
