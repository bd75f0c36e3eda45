-- The invariant after a node adopts a later epoch: its log is cut to what it has in common with the primary's. Assumes nothing.
use Prim.Native.Nat.{ℕ, zero, suc, ◌+◌, ◌≤◌, ◌<◌, min, max}
use mathlib.Core.Path.{◌≡◌, refl, sym, ap, ◌∙◌, subst}
use mathlib.Core.Bool.{Bool, true, false, cond}
use mathlib.Core.List.{List, [], ◌∷◌, ◌++◌}
use mathlib.Core.Option.{Option, none, some}
use native.Mathlib.Omega.{arith}
use lib.Dec.{eqb, leb, ltb}
use lib.ListN.{length, length-append}
use borrow.Author.Tests.{eqb-true, eqb-false, eq-eqb, ne_eqb, leb-true, leb-false, le-leb, lt-leb, ltb-true, ltb-false}
use Rattle.spec.specs.Lists.{◌and◌, ◌or◌, nth, every}
use Rattle.spec.specs.Log.{Op, Entry, Log, End, entry_at, epoch_ends, keep, ShardReplica, append, push, cut_to, store_all, promote, entries_from, Vectors, play}
use Rattle.spec_laws.proofs.Lists.{by-test, not_both, and_left, and_right, none_some, some_same, nth-nil, nth-same, nth_lt, lt_nth, nth_last, nth_snoc, Within, within-length, within-append}
use Rattle.spec_laws.proofs.Log.Numbered.{Numbered, numbered_snoc, numbered_within}
use Rattle.spec_laws.proofs.Log.Play.{InStep}
use Rattle.thm_run.proofs.Protocol.Base.{All, all_map, all_snoc, all-nth, all_remove, nth-all, upd, upd-all, upd_same, upd_other, upd-keeps, same_or, upd2, upd2-all, upd2-same, upd2-other, at_pair, remove_at, count, count_snoc, count_remove, count_none}
use Rattle.thm_run.proofs.Protocol.Sets.{member, without, In, in_cons, in_head, of_cons, not_nil, of_without, in_without, not_without, every_in}
use Rattle.thm_run.proofs.Protocol.State.{Map, Lead, Role, backup, lead, Node, Request, align, send, Answer, adopts, stores, stale_align, stale_send, Reply, Proposal, Outcome, Accepted, Acknowledged, State, set_map, set_node, set_requests, add_reply, set_proposals, set_outcomes, add_accepted, add_acknowledged}
use Rattle.thm_run.proofs.Protocol.Ghost.{History, Agree}
use Rattle.thm_run.proofs.Protocol.Inv.{BookOk, LeadOk, RoleOk, NodeAt, NodeOk, Leading, MapOk, At, RequestOk, AnswerOk, ReplyOk, ProposalOk, OutcomeOk, Stands, AcceptedOk, AcknowledgedOk, WayOk, expands, shrinks, tokens, TokenOk, TokensOk, Took, CoverOk, Clauses}
use Rattle.thm_run.proofs.Protocol.Frame.{is-lead, not_lead, lead-same, at-within, agree_sym, agree_trans, agree_grow, agree_in, Grown, still, request-grown, reply-grown, proposal_grown, way_grown, role_more, cover_same, rerole}
use Rattle.spec_laws.proofs.Log.Keep.{SameByEpoch, kept-within, kept_common, keep-within}
use Rattle.spec_laws.proofs.Log.Play.{in_step_cut}
use Rattle.thm_run.proofs.Protocol.State.{adopting}
use Rattle.thm_run.proofs.Protocol.OnPropose.{lead_of}
use Rattle.thm_run.proofs.Protocol.OnTake.{agree_length}
use Rattle.thm_run.proofs.Protocol.Entering.{agree_take, brings}

module _ (h : History) (s : State) (k : Clauses h s) (a p e end : ℕ) (t : List End)
    (ok : RequestOk h.pr h.st h.book h.start a p (align e end t)) (later : (s.nodes p).replica.epoch < e) where
  abbrev log : Log
  log = (s.nodes p).replica.log

  abbrev E : ℕ
  E = (s.nodes p).replica.epoch

  abbrev top : ℕ
  top = s.map.epoch

  abbrev cut : Log
  cut = keep end t log

  abbrev pub new : History
  new = record {
    pr = h.pr;
    ins = h.ins;
    st = h.st;
    book = h.book;
    start = h.start;
    held = upd2 h.held e p (length cut);
    cmt = h.cmt;
  }

  abbrev pub nodes : ℕ → Node
  nodes = upd s.nodes p (adopting (s.nodes p) e end t)

  numbered-log : Numbered log
  numbered-log = numbered_within log (h.book E) (k.nodes p).within (k.book.numbered E)

  numbered-start : Numbered (h.start e)
  numbered-start = numbered_within (h.start e) (h.book e) (k.book.begin e) (k.book.numbered e)

  -- equal epochs at one place: both are that epoch's entry there
  same : SameByEpoch log (h.start e)
  same i x y u v q =
      nth-same (h.book y.epoch) i x y
      (subst (λ (d : ℕ). nth (h.book d) i ≡ some x) q (k.book.own E i x ((k.nodes p).within i x u)))
      (k.book.own e i y (k.book.begin e i y v))

  pub cut_in_start : Within cut (h.start e)
  cut_in_start = rw (ok.upto, ok.table) (kept-within log (h.start e) numbered-log numbered-start same)

  cut_in : Within cut (h.book e)
  cut_in i x q = k.book.begin e i x (cut_in_start i x q)

  le_top : e ≤ top
  le_top = k.book.range e ok.begun

  more : (d m : ℕ) → h.held d m ≤ new.held d m
  more = upd2-all (λ d m v. h.held d m ≤ v) (omega (arith, (k.nodes p).ahead e later)) (λ d m ne. omega arith)

  held_at : (d m : ℕ) → (d ≡ e → m ≡ p → ⊥) → new.held d m ≡ h.held d m
  held_at d m ne = upd2-other h.held e p (length cut) d m ne

  grown : Grown h new
  grown = record { pr = λ d b. refl; st = λ d b. b; start = λ d b. refl; book = λ d i x q. q; held = more; cmt = λ d. omega arith }

  mine : NodeOk new p (adopting (s.nodes p) e end t)
  unfolding adopting cut_to
  mine = record {
    begun = ok.begun;
    within = cut_in;
    whole = λ q. absurd (omega (arith, later, k.cover.led e ok.begun, (ap (λ (y : ℕ). (s.nodes y).replica.epoch) q)));
    here = upd2-same h.held e p (length cut);
    ahead = λ d lt. held_at d p (λ q _. omega arith) ∙ (k.nodes p).ahead d (omega arith);
    played = in_step_cut (s.nodes p).replica e end t (k.nodes p).played;
    role = tt;
  }

  other : (m : ℕ) → (m ≡ p → ⊥) → NodeOk new m (s.nodes m)
  other m ne = let c = k.nodes m in let d = (s.nodes m).replica.epoch in record {
    begun = c.begun;
    within = c.within;
    whole = c.whole;
    played = c.played;
    here = held_at d m (λ _ q. ne q) ∙ c.here;
    ahead = λ d lt. held_at d m (λ _ q. ne q) ∙ c.ahead d lt;
    role = role_more m (h.pr d) (h.ins d) (h.start d) (h.held d) (new.held d) (h.cmt d) d (s.nodes m).role (more d) c.role;
  }

  pub ep : (m : ℕ) → (s.nodes m).replica.epoch ≤ (nodes m).replica.epoch
  unfolding adopting cut_to
  ep = upd-all (λ m (z : Node). (s.nodes m).replica.epoch ≤ z.replica.epoch) (omega arith) (λ m ne. omega arith)

  epoch_mine : (nodes p).replica.epoch ≡ e
  unfolding adopting cut_to
  epoch_mine = ap (λ (z : Node). z.replica.epoch) (upd_same s.nodes p (adopting (s.nodes p) e end t))

  took : (d o : ℕ) → Took new nodes d o → Took h s.nodes d o
  took d o u m i over =
      rw (held_at d m (λ q z. omega (arith, later, q, (ap (λ (y : ℕ). (s.nodes y).replica.epoch) z), over))) at (u m i (omega (arith, over, ep m)))

  -- what is cut off had not been taken along by all
  kept : (d o : ℕ) → 1 ≤ d → d < top → In p (h.ins top) → d < e → Took new nodes d o → Agree o (h.book d) cut
  kept d o lo lt i lt2 u =
      let b : Agree o (h.book d) log = brings h s k p d o i lo lt (took d o u)
      (λ j. rw (held_at d p (λ q _. omega arith)) at (u p j (omega (arith, epoch_mine, lt2)))) in
      let g : Agree o (h.book d) (h.start e) = k.cover.begins d e o lo lt2 ok.begun (took d o u) in
      let w : Agree o log (h.start e) = agree_trans o log (h.book d) (h.start e) (agree_sym o (h.book d) log b) g in
      let n = agree_length o log (h.start e) w in
      let le : o ≤ length cut = rw (ok.upto, ok.table) (kept_common log (h.start e) numbered-log numbered-start o n.0 n.1 (agree_take o log (h.start e) w)) in
      agree_trans o (h.book d) log cut b (agree_in o log cut log (λ j x q. q) (keep-within end t log) n.0 le)

  holds : (d m o : ℕ) → 1 ≤ d → d < top → In m (h.ins top) → d < (nodes m).replica.epoch → Took new nodes d o → Agree o (h.book d) (nodes m).replica.log
  unfolding adopting cut_to
  holds d m o lo lt i over u =
      upd-all (λ y (z : Node). y ≡ m → d < z.replica.epoch → Agree o (h.book d) z.replica.log)
      (λ q over. kept d o lo lt (rw q i) over u)
      (λ y ne q over. k.cover.holds d y o lo lt (rw q i) over (took d o u)) m refl over

  -- the map's primary, once it leads, is at the map's epoch: this node is behind it
  now : h.st top ≡ true → Leading nodes s.map.primary top
  now b =
      let f = k.map.now b in
      let c = lead_of h s k s.map.primary f.0 f.1 in
      rw (upd_other s.nodes p (adopting (s.nodes p) e end t) s.map.primary
      (λ q. omega (arith, c.epoch, f.2, le_top, later, (ap (λ (y : ℕ). (s.nodes y).replica.epoch) q)))) f

  no_record : TokensOk h.ins s.proposals s.outcomes (adopting (s.nodes p) e end t).role
  unfolding adopting
  no_record = tt

  pub adopts_ok : Clauses new (set_node s p (adopting (s.nodes p) e end t))
  unfolding set_node
  adopts_ok = record {
    book = let b = k.book in record {
      one = b.one;
      range = b.range;
      seat = b.seat;
      blank = b.blank;
      quiet = b.quiet;
      begin = b.begin;
      own = b.own;
      below = b.below;
      numbered = b.numbered;
      real = b.real;
      few = λ d m i. omega (arith, b.few d m i, more d m);
    };
    nodes = upd-all (NodeOk new) mine other;
    map = record { primary = k.map.primary; sync = k.map.sync; now = now };
    way = way_grown h new grown s.nodes nodes top top ep (omega arith) s.requests s.replies s.proposals s.outcomes s.accepted s.acknowledged k.way;
    tokens = upd-all (λ m (z : Node). TokensOk h.ins s.proposals s.outcomes z.role) no_record (λ m ne. k.tokens m);
    cover = record {
      low = λ d g m lo lt hi i le. k.cover.low d g m lo lt hi i (omega (arith, le, ep m));
      begins = λ d g o lo lt b u. k.cover.begins d g o lo lt b (took d o u);
      holds = holds;
      led = λ d b. omega (arith, k.cover.led d b, ep (h.pr d));
    };
  }
