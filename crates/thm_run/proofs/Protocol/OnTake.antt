-- The invariant after the map takes a proposal: Expand takes a node in that holds all its primary began with, Shrink takes one out.
-- Assumes nothing.
use Prim.Native.Nat.{ℕ, zero, suc, ◌+◌, ◌≤◌, ◌<◌, min, max}
use mathlib.Core.Path.{◌≡◌, refl, sym, ap, ◌∙◌, subst}
use mathlib.Core.Bool.{Bool, true, false, cond}
use mathlib.Core.List.{List, [], ◌∷◌, ◌++◌}
use mathlib.Core.Option.{Option, none, some}
use native.Mathlib.Omega.{arith}
use lib.Dec.{eqb, leb, ltb}
use lib.ListN.{length, length-append}
use borrow.Author.Tests.{eqb-true, eqb-false, eq-eqb, ne_eqb, leb-true, leb-false, le-leb, lt-leb, ltb-true, ltb-false}
use Rattle.spec.specs.Lists.{◌and◌, ◌or◌, nth, every}
use Rattle.spec.specs.Log.{Op, Entry, Log, End, entry_at, epoch_ends, keep, ShardReplica, append, push, cut_to, store_all, promote, entries_from}
use Rattle.spec_laws.proofs.Lists.{by-test, not_both, and_left, and_right, none_some, some_same, nth-nil, nth-same, nth_lt, lt_nth, nth_last, nth_snoc, Within, within-length, within-append}
use Rattle.spec_laws.proofs.Log.Numbered.{Numbered, numbered_snoc, numbered_within}
use Rattle.spec_laws.proofs.Log.Play.{InStep}
use Rattle.thm_run.proofs.Protocol.Base.{All, all_map, all_snoc, all-nth, all_remove, nth-all, upd, upd-all, upd_same, upd_other, upd-keeps, same_or, upd2, upd2-all, upd2-same, upd2-other, at_pair, remove_at, count, count_snoc, count_remove, count_none}
use Rattle.thm_run.proofs.Protocol.Sets.{member, without, In, in_cons, in_head, of_cons, not_nil, of_without, in_without, not_without, every_in}
use Rattle.thm_run.proofs.Protocol.State.{Map, Lead, Role, backup, lead, Node, Request, align, send, Answer, adopts, stores, stale_align, stale_send, Reply, Proposal, Outcome, Accepted, Acknowledged, State, set_map, set_node, set_requests, add_reply, set_proposals, set_outcomes, add_accepted, add_acknowledged}
use Rattle.thm_run.proofs.Protocol.Ghost.{History, Agree}
use Rattle.thm_run.proofs.Protocol.Inv.{BookOk, LeadOk, RoleOk, NodeOk, Leading, MapOk, At, RequestOk, AnswerOk, ReplyOk, ProposalOk, OutcomeOk, Stands, AcceptedOk, AcknowledgedOk, WayOk, expands, shrinks, tokens, TokenOk, TokensOk, Took, CoverOk, Clauses}
use Rattle.thm_run.proofs.Protocol.Frame.{is-lead, not_lead, lead-same, at-within, agree_sym, agree_trans, agree_grow, agree_in, Grown, still, request-grown, reply-grown, proposal_grown, way_grown, role_more, cover_same, rerole}
use Rattle.thm_run.proofs.Protocol.State.{may_take, resized, expanded, shrunk, take_as, on_take}
use Rattle.thm_run.proofs.Protocol.OnPropose.{lead_of, proposal_taken, outcome_added, fewer_proposals, expands-own, expands-none, expands-other, shrinks-own, shrinks-other}

-- as far as logs agree, both go
pub agree_length : (o : ℕ) (x y : Log) → Agree o x y → (o ≤ length x) × (o ≤ length y)
agree_length zero x y a = (omega arith, omega arith)
agree_length (suc o) x y a =
    let f = a o (omega arith) in
    let u = nth_lt x o f.0 f.1 in
    let v = nth_lt y o f.0 f.2 in (omega arith, omega arith)

-- the in_sync_lem set of the map's epoch is replaced
module _ (h : History) (s : State) (k : Clauses h s) (S : List ℕ) (P : List Proposal) (O : List Outcome) where
  abbrev top : ℕ
  top = s.map.epoch

  abbrev new : History
  new = record { pr = h.pr; ins = upd h.ins top S; st = h.st; book = h.book; start = h.start; held = h.held; cmt = h.cmt }

  grown : Grown h new
  grown = record { pr = λ e b. refl; st = λ e b. b; start = λ e b. refl; book = λ e i x z. z; held = λ e m. omega arith; cmt = λ e. omega arith }

  ins_at : (e : ℕ) → (e ≡ top → ⊥) → new.ins e ≡ h.ins e
  ins_at e ne = upd_other h.ins top S e ne

  took : (e o : ℕ) → e < top → Took new s.nodes e o → Took h s.nodes e o
  took e o lt t x i = t x (rw (ins_at e (λ z. omega arith)) i)

  module _ (seat : In (h.pr top) S) (few : (m : ℕ) → In m S → h.cmt top ≤ h.held top m)
      (wide : (n : ℕ) (l : Lead) → (s.nodes n).role ≡ lead l → l.epoch ≡ top → (m : ℕ) → In m S → In m l.ack)
      (low : (e m : ℕ) → 1 ≤ e → e < top → In m S → (s.nodes m).replica.epoch ≤ e → In m (h.ins e))
      (holds : (e m o : ℕ) → 1 ≤ e → e < top → In m S → e < (s.nodes m).replica.epoch → Took h s.nodes e o → Agree o (h.book e) (s.nodes m).replica.log)
      (ps : All (ProposalOk h s.nodes) P) (os : All (OutcomeOk h) O)
      (toks : (n : ℕ) (l : Lead) → (s.nodes n).role ≡ lead l → (p : ℕ) → TokenOk (new.ins l.epoch) l.ack p (tokens p l.epoch P O)) where
    role : (n : ℕ) (r : Role) → (s.nodes n).role ≡ r
        → RoleOk n (h.pr (s.nodes n).replica.epoch) (new.ins (s.nodes n).replica.epoch) (h.start (s.nodes n).replica.epoch) (h.held (s.nodes n).replica.epoch) (h.cmt (s.nodes n).replica.epoch) (s.nodes n).replica.epoch r
    role n backup z = tt
    role n (lead l) z =
        let c = lead_of h s k n l z in
        record {
          epoch = c.epoch;
          high = c.high;
          mine = c.mine;
          end = c.end;
          table = c.table;
          acked = c.acked;
          done = c.done;
          wide = λ m. upd-all (λ d v. d ≡ (s.nodes n).replica.epoch → In m v → In m l.ack)
              (λ q i. wide n l z (c.epoch ∙ sym q) m i) (λ d ne q i. c.wide m (rw (← q) i)) (s.nodes n).replica.epoch refl;
        }

    tokens_of : (n : ℕ) (r : Role) → (s.nodes n).role ≡ r → TokensOk new.ins P O r
    tokens_of n backup z = tt
    tokens_of n (lead l) z = toks n l z

    pub resync : Clauses new (set_outcomes (set_proposals (set_map s (resized s.map S)) P) O)
    unfolding set_outcomes set_proposals set_map resized
    resync = record {
      book = let b = k.book in record {
        one = b.one;
        range = b.range;
        blank = b.blank;
        quiet = b.quiet;
        begin = b.begin;
        own = b.own;
        below = b.below;
        numbered = b.numbered;
        real = b.real;
        seat = upd-all (λ d v. 1 ≤ d → d ≤ top → In (h.pr d) v) (λ _ _. seat) (λ d ne. b.seat d);
        few = upd-all (λ d v. (m : ℕ) → In m v → h.cmt d ≤ h.held d m) few (λ d ne. b.few d);
      };
      nodes = λ n. let c = k.nodes n in record { begun = c.begun; within = c.within; whole = c.whole; here = c.here; ahead = c.ahead; played = c.played; role = role n (s.nodes n).role refl };
      map = record { primary = k.map.primary; sync = upd_same h.ins top S; now = k.map.now };
      way = let w = way_grown h new grown s.nodes s.nodes top top (λ m. omega arith) (omega arith) s.requests s.replies s.proposals s.outcomes s.accepted s.acknowledged k.way in
          record { requests = w.requests; replies = w.replies; proposals = ps; outcomes = os; accepted = w.accepted; acknowledged = w.acknowledged };
      tokens = λ n. tokens_of n (s.nodes n).role refl;
      cover = record {
        low = λ e g m lo lt. upd-all (λ d v. e < d → d ≤ top → In m v → (s.nodes m).replica.epoch ≤ e → In m (new.ins e))
            (λ lt _ i le. rw (ins_at e (λ z. omega arith)) (low e m lo lt i le))
            (λ d ne lt hi i le. rw (ins_at e (λ z. omega arith)) (k.cover.low e d m lo lt hi i le)) g lt;
        begins = λ e g o lo lt b t. let r = k.book.range g b in k.cover.begins e g o lo lt b (took e o (omega arith) t);
        holds = λ e m o lo lt i over t. holds e m o lo lt (rw (upd_same h.ins top S) at i) over (took e o lt t);
        led = k.cover.led;
      };
    }

module _ (h : History) (s : State) (k : Clauses h s) (i : ℕ) (v : Proposal) (at : nth s.proposals i ≡ some v) (same : v.epoch ≡ s.map.epoch) where
  abbrev F : ℕ
  F = s.map.epoch

  abbrev p : ℕ
  p = v.peer

  abbrev P' : List Proposal
  P' = remove_at s.proposals i

  ok : ProposalOk h s.nodes v
  ok = all-nth (ProposalOk h s.nodes) s.proposals i v k.way.proposals at

  begun : h.st F ≡ true
  begun = rw (← same) ok.begun

  left : All (ProposalOk h s.nodes) P'
  left = all_remove (ProposalOk h s.nodes) s.proposals i k.way.proposals

  toks : (n : ℕ) (l : Lead) → (s.nodes n).role ≡ lead l → TokensOk h.ins s.proposals s.outcomes (lead l)
  toks n l z = rw z at (k.tokens n)

  fewer : (m e : ℕ) → tokens m e P' s.outcomes ≤ tokens m e s.proposals s.outcomes
  fewer m e = fewer_proposals s.proposals i m e s.outcomes

  seat : In (h.pr F) s.map.insync
  seat = rw (← k.map.sync) (k.book.seat F k.book.one (omega arith))

  -- Expand: the token that is used up says that the peer is asked for acks, and holds what the epoch began with
  module _ (grow : v.expand ≡ true) where
    taken : tokens p F s.proposals s.outcomes ≡ 1 + tokens p F P' s.outcomes
    taken = rw (← same) (proposal_taken s.proposals s.outcomes p v.epoch i v at ∙ ap (λ (b : Bool). cond b 1 0 + tokens p v.epoch P' s.outcomes) (expands-own v grow))

    asked : (n : ℕ) (l : Lead) → (s.nodes n).role ≡ lead l → l.epoch ≡ F → In p l.ack
    asked n l z q = (toks n l z p).listed (rw q (omega (arith, taken)))

    enough : h.cmt F ≤ h.held F p
    enough =
        let f = k.map.now begun in
        let n = s.map.primary in
        let c = lead_of h s k n f.0 f.1 in
        rw (sym f.2 ∙ c.epoch) (c.done p (asked n f.0 f.1 f.2))

    reached : (s.nodes p).replica.epoch ≡ F
    reached = omega (arith, k.book.range (s.nodes p).replica.epoch (k.nodes p).begun, ok.reached grow)

    covers : (e o : ℕ) → 1 ≤ e → e < F → Took h s.nodes e o → Agree o (h.book e) (s.nodes p).replica.log
    covers e o lo lt t =
        let a = k.cover.begins e F o lo lt begun t in
        let le = agree_length o (h.book e) (h.start F) a in
        let here : h.held F p ≡ length (s.nodes p).replica.log = rw (← reached) (k.nodes p).here in
        let st : length (h.start F) ≤ h.held F p = rw (← same) (ok.caught grow) in
        agree_trans o (h.book e) (h.start F) (s.nodes p).replica.log a
        (agree_in o (h.start F) (s.nodes p).replica.log (h.book F) (k.book.begin F) (rw (← reached) (k.nodes p).within) le.1 (omega (arith, le.1)))

    tokens-at : (n : ℕ) (l : Lead) → (s.nodes n).role ≡ lead l → (m : ℕ)
        → TokenOk (upd h.ins F (p ∷ s.map.insync) l.epoch) l.ack m (tokens m l.epoch P' s.outcomes)
    tokens-at n l z m =
        let t = toks n l z m in
        upd-all (λ d w. d ≡ l.epoch → TokenOk w l.ack m (tokens m l.epoch P' s.outcomes))
        (λ q. record {
          single = omega (arith, t.single, fewer m l.epoch);
          out = λ z1 j. of_cons {P = ⊥} m p s.map.insync
              (λ w. let a : tokens m l.epoch s.proposals s.outcomes ≡ 1 + tokens m l.epoch P' s.outcomes = rw (w, ← q) taken in
              omega (arith, t.single))
              (λ j2. t.out (omega (arith, fewer m l.epoch)) (rw (← q, k.map.sync) j2)) j;
          listed = λ z1. t.listed (omega (arith, fewer m l.epoch));
        })
        (λ d ne q. record {
          single = omega (arith, t.single, fewer m l.epoch);
          out = λ z1 j. t.out (omega (arith, fewer m l.epoch)) (rw (← q) j);
          listed = λ z1. t.listed (omega (arith, fewer m l.epoch));
        }) l.epoch refl

    expands-ok : Clauses (new h s k (p ∷ s.map.insync) P' s.outcomes) (expanded s i v)
    unfolding expanded set_map set_proposals set_outcomes
    expands-ok =
        resync h s k (p ∷ s.map.insync) P' s.outcomes
        (in_cons (h.pr F) p s.map.insync seat)
        (λ m. of_cons m p s.map.insync (λ w. rw w enough) (λ j. k.book.few F m (rw k.map.sync j)))
        (λ n l z q m. of_cons m p s.map.insync (λ w. rw w (asked n l z q))
        (λ j. let c = lead_of h s k n l z in c.wide m (rw (← c.epoch, q, k.map.sync) j)))
        (λ e m lo lt. of_cons m p s.map.insync (λ w le. absurd (omega (arith, reached, (rw w at le))))
        (λ j le. k.cover.low e F m lo lt (omega arith) (rw k.map.sync j) le))
        (λ e m o lo lt. of_cons m p s.map.insync (λ w over t. rw w (covers e o lo lt t))
        (λ j over t. k.cover.holds e m o lo lt (rw k.map.sync j) over t))
        left k.way.outcomes tokens-at

  -- Shrink: a member that is not the primary leaves the set, and stays in the ack set until the outcome is told
  module _ (no-grow : v.expand ≡ false) (other : p ≡ s.map.primary → ⊥) (in_sync_lem : In p s.map.insync) (told : Bool) where
    abbrev outcome : Outcome
    outcome = record { node = v.node; peer = p; epoch = v.epoch }

    abbrev O' : List Outcome
    O' = cond told (s.outcomes ++ (outcome ∷ [])) s.outcomes

    -- at most one outcome more, and that of this peer in this epoch
    more : (m e : ℕ) → tokens m e P' O' ≤ 1 + tokens m e s.proposals s.outcomes
    more m e = by-test (λ w. tokens m e P' w ≤ 1 + tokens m e s.proposals s.outcomes) told
        (λ _. rw (outcome_added P' s.outcomes m e outcome)
        (by-test (λ w. w + tokens m e P' s.outcomes ≤ 1 + tokens m e s.proposals s.outcomes) (shrinks m e outcome) {x = 1} {y = 0}
        (λ _. omega (arith, fewer m e)) (λ _. omega (arith, fewer m e))))
        (λ _. omega (arith, fewer m e))

    same-tokens : (m e : ℕ) → (p ≡ m → F ≡ e → ⊥) → tokens m e P' O' ≤ tokens m e s.proposals s.outcomes
    same-tokens m e ne = by-test (λ w. tokens m e P' w ≤ tokens m e s.proposals s.outcomes) told
        (λ _. rw (outcome_added P' s.outcomes m e outcome, shrinks-other m e outcome (λ a b. ne a (sym same ∙ b))) (omega (arith, fewer m e)))
        (λ _. omega (arith, fewer m e))

    no_token : (n : ℕ) (l : Lead) → (s.nodes n).role ≡ lead l → l.epoch ≡ F → tokens p F s.proposals s.outcomes ≡ 0
    no_token n l z q = same_or (tokens p F s.proposals s.outcomes ≡ 0) (tokens p F s.proposals s.outcomes) 0 (λ w. w)
        (λ w. let t = toks n l z p in absurd (t.out (rw q (omega (arith, w))) (rw (q, k.map.sync) in_sync_lem)))

    wide_of : (n : ℕ) (l : Lead) → (s.nodes n).role ≡ lead l → l.epoch ≡ F → (m : ℕ) → In m s.map.insync → In m l.ack
    wide_of n l z q m j = let c = lead_of h s k n l z in c.wide m (rw (← c.epoch, q, k.map.sync) j)

    shrink_tokens : (n : ℕ) (l : Lead) → (s.nodes n).role ≡ lead l → (m : ℕ)
        → TokenOk (upd h.ins F (without p s.map.insync) l.epoch) l.ack m (tokens m l.epoch P' O')
    shrink_tokens n l z m =
        let t = toks n l z m in
        upd-all (λ d w. d ≡ l.epoch → TokenOk w l.ack m (tokens m l.epoch P' O'))
        (λ q. same_or (TokenOk (without p s.map.insync) l.ack m (tokens m l.epoch P' O')) p m
        (λ w. let a : tokens m l.epoch s.proposals s.outcomes ≡ 0 = rw (← w, ← q) (no_token n l z (sym q)) in
        record {
          single = omega (arith, more m l.epoch);
          out = λ _ j. not_without p s.map.insync (subst (λ (y : ℕ). In y (without p s.map.insync)) (sym w) j);
          listed = λ _. rw (← w) (wide_of n l z (sym q) p in_sync_lem);
        })
        (λ ne. let b = same-tokens m l.epoch (λ a _. ne a) in record {
          single = omega (arith, t.single);
          out = λ z1 j. t.out (omega arith) (rw (← q, k.map.sync) (of_without m p s.map.insync j));
          listed = λ z1. t.listed (omega arith);
        }))
        (λ d ne q. let b = same-tokens m l.epoch (λ _ a. ne (q ∙ sym a)) in record {
          single = omega (arith, t.single);
          out = λ z1 j. t.out (omega arith) (rw (← q) j);
          listed = λ z1. t.listed (omega arith);
        }) l.epoch refl

    shrinks-ok : Clauses (new h s k (without p s.map.insync) P' O') (shrunk s i v told)
    unfolding shrunk set_map set_proposals set_outcomes
    shrinks-ok =
        resync h s k (without p s.map.insync) P' O'
        (in_without (h.pr F) p s.map.insync (λ w. other (sym w ∙ k.map.primary)) seat)
        (λ m j. k.book.few F m (rw k.map.sync (of_without m p s.map.insync j)))
        (λ n l z q m j. wide_of n l z q m (of_without m p s.map.insync j))
        (λ e m lo lt j le. k.cover.low e F m lo lt (omega arith) (rw k.map.sync (of_without m p s.map.insync j)) le)
        (λ e m o lo lt j over t. k.cover.holds e m o lo lt (rw k.map.sync (of_without m p s.map.insync j)) over t)
        left
        (by-test (All (OutcomeOk h)) told
        (λ _. all_snoc (OutcomeOk h) s.outcomes outcome k.way.outcomes ok.begun) (λ _. k.way.outcomes))
        shrink_tokens

-- what the test for taking tells
pub may_shrink : (m : Map) (v : Proposal) → v.expand ≡ false → may_take m v ≡ true
    → (v.epoch ≡ m.epoch) × (v.peer ≡ m.primary → ⊥) × In v.peer m.insync
unfolding may_take
may_shrink m v q t =
    let e = and_left (eqb v.epoch m.epoch) (cond v.expand true (cond (eqb v.peer m.primary) false (member v.peer m.insync))) t in
    let u : cond (eqb v.peer m.primary) false (member v.peer m.insync) ≡ true =
    rw q at (and_right (eqb v.epoch m.epoch) (cond v.expand true (cond (eqb v.peer m.primary) false (member v.peer m.insync))) t) in
    let g = go (eqb v.peer m.primary) refl u in
    (eqb-true v.epoch m.epoch e, g.0, g.1)
  where
    go : (b : Bool) → eqb v.peer m.primary ≡ b → cond b false (member v.peer m.insync) ≡ true
        → (v.peer ≡ m.primary → ⊥) × In v.peer m.insync
    go true z w = not_both false w refl
    go false z w = (eqb-false v.peer m.primary z, w)

pub may-take : (m : Map) (v : Proposal) → may_take m v ≡ true → v.epoch ≡ m.epoch
unfolding may_take
may-take m v t =
    eqb-true v.epoch m.epoch
    (and_left (eqb v.epoch m.epoch) (cond v.expand true (cond (eqb v.peer m.primary) false (member v.peer m.insync))) t)

pub on-take : (h : History) (s : State) → Clauses h s → (i : ℕ) (told : Bool) → (h' : History) × (h'.start ≡ h.start) × Clauses h' (on_take s i told)
unfolding on_take take_as
on-take h s k i told = go (nth s.proposals i) refl
  where
    go : (o : Option Proposal) → nth s.proposals i ≡ o → (h' : History) × (h'.start ≡ h.start) × Clauses h' (take_as s i told o)
    go none w = (h, refl, k)
    go (some v) w =
        by-test (λ z. (h' : History) × (h'.start ≡ h.start) × Clauses h' z) (may_take s.map v)
        (λ t. by-test (λ z. (h' : History) × (h'.start ≡ h.start) × Clauses h' z) v.expand
        (λ g. (new h s k (v.peer ∷ s.map.insync) (remove_at s.proposals i) s.outcomes, refl, expands-ok h s k i v w (may-take s.map v t) g))
        (λ g. let f = may_shrink s.map v g t in (
          new h s k (without v.peer s.map.insync) (remove_at s.proposals i) (O' h s k i v w f.0 g f.1 f.2 told),
          refl,
          shrinks-ok h s k i v w f.0 g f.1 f.2 told,
        )))
        (λ t. (h, refl, k))
