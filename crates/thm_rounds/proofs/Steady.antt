-- Request 2.13, in the protocol: what no gentle move changes while one node leads at the highest epoch that any holder has. Its log, its
-- record's epoch, that no holder is above that epoch; and of one peer, that it answers no request of that node with StaleEpoch. The lists
-- of requests and replies are those of the round. Assumes nothing.
use Prim.Native.Nat.{ℕ, ◌≤◌, ◌<◌, min, max}
use mathlib.Core.Path.{◌≡◌, refl, sym, ap, ◌∙◌, subst}
use mathlib.Core.Bool.{Bool, true, false, cond}
use mathlib.Core.List.{List, [], ◌∷◌, ◌++◌}
use mathlib.Core.Option.{Option, none, some}
use native.Mathlib.Omega.{arith}
use lib.Dec.{eqb, leb, ltb}
use lib.ListN.{length}
use borrow.Author.Tests.{eqb-true, eqb-false, leb-true, leb-false, le-leb, ltb-true, ltb-false}
use Rattle.spec.specs.Lists.{nth}
use Rattle.spec.specs.Log.{Log, End, cut_to, store_all, entries_from}
use Rattle.spec.specs.Map.Change.{holds}
use Rattle.spec_laws.proofs.Lists.{by-test, not_both}
use Rattle.spec_laws.proofs.Log.Store.{store_all_epoch}
use Rattle.thm_run.proofs.Protocol.Base.{All, all_map, all_snoc, all-nth, upd, upd-all, upd_same, upd_other, same_or, upd2, upd2-all, remove_at}
use Rattle.thm_run.proofs.Protocol.Sets.{without}
use Rattle.thm_run.proofs.Protocol.State.{Lead, Role, backup, lead, Node, Request, align, send, Answer, adopts, stores, stale_align, stale_send, Reply, Proposal, Outcome, Accepted, State, set_map, set_node, set_requests, add_reply, set_proposals, set_outcomes, add_acknowledged}
use Rattle.thm_run.proofs.Protocol.State.{Move, promotion, decision, rejection, outcome, silence, showing, writing, alignment, batch, arrival, counting, joining, suspicion, waiting, step, run}
use Rattle.thm_run.proofs.Protocol.State.{with_role, with_ack, with_peer, lead_at, expanded, shrunk, may_take, take_as, on_take, on_forget, on_untell, suspect_as, on_suspect, all_acked, ack_lead, ack_as, on_acknowledge, post, align_as, on_align, send_batch, send_as, on_send, leads_from, replied, adopting, storing, hear_one, hear_as, on_hear, counted_as, count_role, count_as, on_count, may_join, join_lead, join_as, on_join, told_as, tell_as, on_tell}
use Rattle.thm_run.proofs.Protocol.Ghost.{History}
use Rattle.thm_run.proofs.Protocol.Inv.{LeadOk, RequestOk, Clauses}
use Rattle.thm_run.proofs.Protocol.Frame.{is-lead, lead-same}
use Rattle.thm_run.proofs.Protocol.OnPropose.{lead_of}
use Rattle.thm_run.proofs.Protocol.Reached.{ReachedOk, Reached}
use Rattle.thm_run.proofs.Protocol.Run as protocol
use Rattle.thm_run.proofs.Protocol.Run.{Inv}
use Rattle.thm_run.proofs.Simulation.Relation.{World}
use Rattle.thm_run.proofs.Simulation.Frame.{Gentle}

-- `a` leads at `E` with `log`; `p` is the peer that is followed; `Aligning` says whether it may still be asked to align
pub record Scene : Type 1 where
  pub world : World
  pub a : ℕ
  pub E : ℕ
  pub p : ℕ
  pub log : Log
  pub Aligning : Type 0
  pub mine : holds a world.holders ≡ true
  pub other : a ≡ p → ⊥

abbrev epoch_of : Request → ℕ
epoch_of (align e end t) = e
epoch_of (send e es) = e

module _ (c : Scene) where
  abbrev a : ℕ
  a = c.a

  abbrev p : ℕ
  p = c.p

  abbrev E : ℕ
  E = c.E

  abbrev Holder : ℕ → Type 0
  Holder m = holds m c.world.holders ≡ true

  -- a request of the round to q
  abbrev Asked : ℕ → Request → Type 0
  Asked q r = (epoch_of r ≤ E) × Holder q

  -- one of a to p, whose epoch is `own`
  abbrev AskedOf : ℕ → Request → Type 0
  AskedOf own (align e end t) = (e ≡ E) × c.Aligning
  AskedOf own (send e es) = (e ≡ E) × (E ≤ own)

  abbrev Told : Answer → Type 0
  Told (adopts t) = Unit
  Told (stores t) = Unit
  Told (stale_align x) = x ≤ E
  Told (stale_send x) = x ≤ E

  -- what p answers a
  abbrev ToldOf : Answer → Type 0
  ToldOf (adopts t) = c.Aligning
  ToldOf (stores t) = Unit
  ToldOf (stale_align x) = ⊥
  ToldOf (stale_send x) = ⊥

  abbrev ReplyFine : Reply → Type 0
  ReplyFine r = Told r.answer × (r.node ≡ a → r.peer ≡ p → ToldOf r.answer)

  pub record Steady (K : Lead → Type 0) (nodes : ℕ → Node) (requests : ℕ → ℕ → List Request) (replies : List Reply) : Type 0 where
    pub log : (nodes a).replica.log ≡ c.log
    pub epochs : (m : ℕ) → Holder m → (nodes m).replica.epoch ≤ E
    pub leads : (l : Lead) × ((nodes a).role ≡ lead l) × (l.epoch ≡ E) × K l
    pub asked : (b q : ℕ) → All (Asked q) (requests b q)
    pub own : All (AskedOf (nodes p).replica.epoch) (requests a p)
    pub told : All ReplyFine replies

  abbrev pub SteadyAt : (Lead → Type 0) → State → Type 0
  SteadyAt K s = Steady K s.nodes s.requests s.replies

  -- what a fact of the record must bear
  pub record Closed (K : Lead → Type 0) : Type 0 where
    pub ack : (l : Lead) (v : List ℕ) → K l → K (with_ack l v)
    pub other : (l : Lead) (q t : ℕ) (b : Bool) → (p ≡ q → ⊥) → K l → K (with_peer l q t b)
    pub adopt : (l : Lead) (t : ℕ) → c.Aligning → K l → K (with_peer l p t true)
    pub store : (l : Lead) (t : ℕ) → K l → K (with_peer l p (max (l.acked p) t) (l.aligned p))
    pub loose : (l : Lead) → K l → l.aligned p ≡ false → c.Aligning

  -- ---- one part replaced

  module _ (K : Lead → Type 0) (nodes : ℕ → Node) (requests : ℕ → ℕ → List Request) (replies : List Reply) (k : Steady K nodes requests replies) where
    raise : (own own' : ℕ) → own ≤ own' → (r : Request) → AskedOf own r → AskedOf own' r
    raise own own' le (align e end t) h = h
    raise own own' le (send e es) h = (h.0, omega (arith, le, h.1))

    other-node : (n : ℕ) (x : Node) → (a ≡ n → ⊥) → (Holder n → x.replica.epoch ≤ E) → (nodes n).replica.epoch ≤ x.replica.epoch
        → Steady K (upd nodes n x) requests replies
    other-node n x ne low up = record {
      log = rw (upd_other nodes n x a ne) k.log;
      epochs = upd-all (λ m (y : Node). Holder m → y.replica.epoch ≤ E) low (λ m _. k.epochs m);
      leads = rw (upd_other nodes n x a ne) k.leads;
      asked = k.asked;
      own = all_map (raise (nodes p).replica.epoch (upd nodes n x p).replica.epoch
          (upd-all (λ m (y : Node). (nodes m).replica.epoch ≤ y.replica.epoch) up (λ m _. omega arith) p)) (requests a p) k.own;
      told = k.told;
    }

    at_a : (K' : Lead → Type 0) (l : Lead) → l.epoch ≡ E → K' l → Steady K' (upd nodes a (with_role (nodes a) (lead l))) requests replies
    unfolding with_role
    at_a K' l e h = record {
      log = rw (upd_same nodes a (with_role (nodes a) (lead l))) k.log;
      epochs = upd-all (λ m (y : Node). Holder m → y.replica.epoch ≤ E) (k.epochs a) (λ m _. k.epochs m);
      leads = (l, ap (λ (y : Node). y.role) (upd_same nodes a (with_role (nodes a) (lead l))), e, h);
      asked = k.asked;
      own = all_map (raise (nodes p).replica.epoch (upd nodes a (with_role (nodes a) (lead l)) p).replica.epoch
          (upd-all (λ m (y : Node). (nodes m).replica.epoch ≤ y.replica.epoch) (omega arith) (λ m _. omega arith) p)) (requests a p) k.own;
      told = k.told;
    }

    -- another role, at a or elsewhere
    role_at_lem : (n : ℕ) (r : Role) → (a ≡ n → (l : Lead) × (r ≡ lead l) × (l.epoch ≡ E) × K l) → Steady K (upd nodes n (with_role (nodes n) r)) requests replies
    role_at_lem n r f = same_or (Steady K (upd nodes n (with_role (nodes n) r)) requests replies) a n
        (λ e. let z = f e in
        subst (λ (v : Role). Steady K (upd nodes n (with_role (nodes n) v)) requests replies) (sym z.1)
        (subst (λ (m : ℕ). Steady K (upd nodes m (with_role (nodes m) (lead z.0))) requests replies) e (at_a K z.0 z.2 z.3)))
        (λ ne. other-node n (with_role (nodes n) r) ne (unfold with_role in k.epochs n) (unfold with_role in omega arith))

    add_reply_lem : (r : Reply) → ReplyFine r → Steady K nodes requests (replies ++ (r ∷ []))
    add_reply_lem r h = record {
      log = k.log;
      epochs = k.epochs;
      leads = k.leads;
      asked = k.asked;
      own = k.own;
      told = all_snoc ReplyFine replies r k.told h;
    }

    add_request : (b q : ℕ) (r : Request) → Asked q r → (b ≡ a → q ≡ p → AskedOf (nodes p).replica.epoch r)
        → Steady K nodes (upd2 requests b q (requests b q ++ (r ∷ []))) replies
    add_request b q r h f = record {
      log = k.log;
      epochs = k.epochs;
      leads = k.leads;
      asked = upd2-all (λ d m (v : List Request). All (Asked m) v) (all_snoc (Asked q) (requests b q) r (k.asked b q) h) (λ d m _. k.asked d m);
      own = upd2-all (λ d m (v : List Request). d ≡ a → m ≡ p → All (AskedOf (nodes p).replica.epoch) v)
          (λ e g. all_snoc (AskedOf (nodes p).replica.epoch) (requests b q) r
          (subst (λ (m : ℕ). All (AskedOf (nodes p).replica.epoch) (requests b m)) (sym g)
          (subst (λ (d : ℕ). All (AskedOf (nodes p).replica.epoch) (requests d p)) (sym e) k.own)) (f e g))
          (λ d m _ e g. subst (λ (j : ℕ). All (AskedOf (nodes p).replica.epoch) (requests d j)) (sym g)
          (subst (λ (j : ℕ). All (AskedOf (nodes p).replica.epoch) (requests j p)) (sym e) k.own)) a p refl refl;
      told = k.told;
    }

  -- ---- the moves

  module _ (K : Lead → Type 0) (cl : Closed K) (s : State) (v : Inv s) (k : SteadyAt K s) where
    abbrev h : History
    h = v.history

    clauses : Clauses h s
    clauses = v.clauses

    abbrev Kept : State → Type 0
    Kept t = SteadyAt K t

    pub own-a : (s.nodes a).replica.epoch ≡ E
    own-a = let x = k.leads in sym (lead_of h s clauses a x.0 x.1).epoch ∙ x.2

    pr_a : h.pr E ≡ a
    pr_a = let x = k.leads in subst (λ (d : ℕ). h.pr d ≡ a) own-a (lead_of h s clauses a x.0 x.1).mine

    -- a record of a is the one that leads
    the_one : (n : ℕ) → a ≡ n → (l : Lead) → (s.nodes n).role ≡ lead l → (l.epoch ≡ E) × K l
    the_one n e l is =
        let x = k.leads in
        let z : lead x.0 ≡ lead l = sym x.1 ∙ ap (λ (m : ℕ). (s.nodes m).role) e ∙ is in
        let y : x.0 ≡ l = lead-same x.0 l z in
        (ap (λ (u : Lead). u.epoch) (sym y) ∙ x.2, subst K y x.3)

    -- no other node leads at E
    pub one-leads : (q : ℕ) (l : Lead) → (s.nodes q).role ≡ lead l → l.epoch ≡ E → a ≡ q
    one-leads q l is same =
        let d = lead_of h s clauses q l is in
        sym pr_a ∙ subst (λ (d : ℕ). h.pr d ≡ q) (sym d.epoch ∙ same) d.mine

    steady_take : (i : ℕ) (told : Bool) → Kept (on_take s i told)
    unfolding on_take take_as expanded shrunk set_map set_proposals set_outcomes
    steady_take i told = go (nth s.proposals i)
      where
        go : (o : Option Proposal) → Kept (take_as s i told o)
        go none = k
        go (some o) =
            by-test Kept (may_take s.map o) (λ t. by-test Kept o.expand (λ u. k) (λ u. k)) (λ t. k)

    steady_suspect : (n q : ℕ) → Kept (on_suspect s n q)
    unfolding on_suspect suspect_as set_proposals
    steady_suspect n q = go (s.nodes n).role
      where
        go : (r : Role) → Kept (suspect_as s n q r)
        go backup = k
        go (lead l) = k

    steady_wait : (i : ℕ) → Kept (on_acknowledge s i)
    unfolding on_acknowledge ack_as ack_lead add_acknowledged
    steady_wait i = go (nth s.accepted i)
      where
        act : (x : Accepted) → (o : Option Lead) → Kept (ack_lead s x o)
        act x none = k
        act x (some l) = by-test Kept (all_acked x.node x.offset l) (λ t. k) (λ t. k)

        go : (o : Option Accepted) → Kept (ack_as s o)
        go none = k
        go (some x) = act x (lead_at (s.nodes x.node).role x.epoch)

    -- another ack set
    other_ack : (n : ℕ) (l : Lead) (x : List ℕ) → (s.nodes n).role ≡ lead l
        → Steady K (upd s.nodes n (with_role (s.nodes n) (lead (with_ack l x)))) s.requests s.replies
    other_ack n l x is =
        role_at_lem K s.nodes s.requests s.replies k n (lead (with_ack l x))
        (λ e. let z = the_one n e l is in (with_ack l x, refl, (unfold with_ack in z.0), cl.ack l x z.1))

    steady_tell : (i : ℕ) → Kept (on_tell s i)
    unfolding on_tell tell_as told_as set_outcomes set_node
    steady_tell i = go (nth s.outcomes i)
      where
        act : (o : Outcome) → (x : Option Lead) → lead_at (s.nodes o.node).role o.epoch ≡ x → Kept (told_as (set_outcomes s (remove_at s.outcomes i)) o x)
        act o none q = k
        act o (some l) q = other_ack o.node l (without o.peer l.ack) (is-lead (s.nodes o.node).role o.epoch l q).0

        go : (o : Option Outcome) → Kept (tell_as s i o)
        go none = k
        go (some o) = act o (lead_at (s.nodes o.node).role o.epoch) refl

    steady_join : (i : ℕ) → Kept (on_join s i)
    unfolding on_join join_as join_lead set_proposals set_node
    steady_join i = go (nth s.replies i)
      where
        act : (r : Reply) → (x : Option Lead) → lead_at (s.nodes r.node).role r.epoch ≡ x → Kept (join_lead s r x)
        act r none q = k
        act r (some l) q =
            by-test Kept (may_join l (length (s.nodes r.node).replica.log) r)
            (λ t. other_ack r.node l (r.peer ∷ l.ack) (is-lead (s.nodes r.node).role r.epoch l q).0) (λ t. k)

        go : (o : Option Reply) → Kept (join_as s o)
        go none = k
        go (some r) = act r (lead_at (s.nodes r.node).role r.epoch) refl

    -- ---- a worker's step

    low : (n : ℕ) → Holder n → (l : Lead) → (s.nodes n).role ≡ lead l → l.epoch ≤ E
    low n y l is = let d = lead_of h s clauses n l is in omega (arith, d.epoch, k.epochs n y)

    steady_align : (n q : ℕ) → Holder n → Holder q → Kept (on_align s n q)
    unfolding on_align align_as post set_requests
    steady_align n q y z = go (s.nodes n).role refl
      where
        go : (r : Role) → (s.nodes n).role ≡ r → Kept (align_as s n q r)
        go backup is = k
        go (lead l) is =
            let asks = add_request K s.nodes s.requests s.replies k n q (align l.epoch l.end l.table) (low n y l is, z) in
            by-test Kept (eqb n q) (λ t. asks (λ e g. absurd (c.other (sym e ∙ eqb-true n q t ∙ g))))
            (λ t. by-test Kept (l.aligned q) (λ u. k)
            (λ u. asks (λ e g. let x = the_one n (sym e) l is in (x.0, cl.loose l x.1 (ap l.aligned (sym g) ∙ u)))))

    steady_send : (n q from size : ℕ) → Holder n → Holder q → Kept (on_send s n q from size)
    unfolding on_send send_as send_batch post set_requests
    steady_send n q from size y z = go (s.nodes n).role refl
      where
        part : (l : Lead) → (s.nodes n).role ≡ lead l → l.aligned q ≡ true → (es : Log) → Kept (send_batch s n q l.epoch es)
        part l is u [] = k
        part l is u (x ∷ xs) =
            add_request K s.nodes s.requests s.replies k n q (send l.epoch (x ∷ xs)) (low n y l is, z)
            (λ e g. let x = the_one n (sym e) l is in
            let r : ReachedOk (s.nodes q).replica.epoch q (lead l) = rw is at (v.reached n q) in
            let up : l.epoch ≤ (s.nodes p).replica.epoch = subst (λ (m : ℕ). l.epoch ≤ (s.nodes m).replica.epoch) g (r u) in
            (x.0, omega (arith, x.0, up)))

        go : (r : Role) → (s.nodes n).role ≡ r → Kept (send_as s n q from size r)
        go backup is = k
        go (lead l) is =
            by-test Kept (eqb n q) (λ t. k)
            (λ t. by-test Kept (l.aligned q) (λ u. part l is u (entries_from (s.nodes n).replica.log from size)) (λ u. k))

    -- ---- a request is heard

    -- a itself answers every alignment with StaleEpoch
    leads-a : (q e : ℕ) → a ≡ q → e ≤ E → leads_from (s.nodes q).role e ≡ false → ⊥
    unfolding leads_from
    leads-a q e eq le u =
        let x = k.leads in
        let r : (s.nodes q).role ≡ lead x.0 = ap (λ (m : ℕ). (s.nodes m).role) (sym eq) ∙ x.1 in
        let t : leads_from (lead x.0) e ≡ true = le-leb e x.0.epoch (omega (arith, x.2, le)) in
        not_both (leads_from (s.nodes q).role e) (ap (λ (y : Role). leads_from y e) r ∙ t) u

    -- p leads nothing at E
    pub p-follows : Holder p → (e : ℕ) → e ≡ E → leads_from (s.nodes p).role e ≡ true → ⊥
    unfolding leads_from
    p-follows y e same = go (s.nodes p).role refl
      where
        go : (r : Role) → (s.nodes p).role ≡ r → leads_from r e ≡ true → ⊥
        go backup is t = not_both false t refl
        go (lead l) is t =
            let d = lead_of h s clauses p l is in
            c.other (one-leads p l is (omega (arith, leb-true e l.epoch t, d.epoch, k.epochs p y, same)))

    fine : (b q e : ℕ) (x : Answer) → Told x → (b ≡ a → q ≡ p → ToldOf x) → ReplyFine (record { node = b; peer = q; epoch = e; answer = x })
    fine b q e x t f = (t, f)

    module _ (b q place : ℕ) where
      abbrev OfP : Request → Type 0
      OfP r = b ≡ a → q ≡ p → AskedOf (s.nodes p).replica.epoch r

      abbrev Ok : Request → Type 0
      Ok r = RequestOk h.pr h.st h.book h.start b q r

      hear_align : (e end : ℕ) (t : List End) → Asked q (align e end t) → OfP (align e end t) → Kept (hear_one s b q (s.nodes q) (align e end t))
      unfolding hear_one replied add_reply set_node adopting cut_to
      hear_align e end t ask mine =
          by-test Kept (leads_from (s.nodes q).role e)
          (λ u. stale (λ eb eq. p-follows (subst Holder eq ask.1) e (mine eb eq).0 (subst (λ (m : ℕ). leads_from (s.nodes m).role e ≡ true) eq u)))
          (λ u. by-test Kept (ltb e (s.nodes q).replica.epoch)
          (λ y. stale (λ eb eq. omega (arith, ltb-true e (s.nodes q).replica.epoch y, (mine eb eq).0, k.epochs q ask.1)))
          (λ y. by-test Kept (eqb e (s.nodes q).replica.epoch)
          (λ z. add_reply_lem K _ s.requests s.replies
          (role_at_lem K s.nodes s.requests s.replies k q backup (λ w. absurd (leads-a q e w ask.0 u)))
          (record { node = b; peer = q; epoch = e; answer = adopts (length (s.nodes q).replica.log) }) (tt, λ eb eq. (mine eb eq).1))
          (λ z. add_reply_lem K _ s.requests s.replies
          (other-node K s.nodes s.requests s.replies k q (adopting (s.nodes q) e end t) (λ w. leads-a q e w ask.0 u)
          (λ _. ask.0) (ltb-false e (s.nodes q).replica.epoch y))
          (record { node = b; peer = q; epoch = e; answer = adopts (length (cut_to (s.nodes q).replica e end t).log) }) (tt, λ eb eq. (mine eb eq).1))))
        where
          stale : (b ≡ a → q ≡ p → ⊥)
              → Steady K s.nodes s.requests (s.replies ++ (record { node = b; peer = q; epoch = e; answer = stale_align (s.nodes q).replica.epoch } ∷ []))
          stale f =
              add_reply_lem K s.nodes s.requests s.replies k
              (record { node = b; peer = q; epoch = e; answer = stale_align (s.nodes q).replica.epoch }) (k.epochs q ask.1, f)

      hear_send : (e : ℕ) (es : Log) → Ok (send e es) → Asked q (send e es) → OfP (send e es) → Kept (hear_one s b q (s.nodes q) (send e es))
      unfolding hear_one replied add_reply set_node storing
      hear_send e es ok ask mine =
          by-test Kept (eqb e (s.nodes q).replica.epoch)
          (λ u. add_reply_lem K _ s.requests s.replies
          (other-node K s.nodes s.requests s.replies k q (storing (s.nodes q) e es) (λ w. not_a w (eqb-true e (s.nodes q).replica.epoch u))
          (λ y. let z = store_all_epoch e (s.nodes q).replica es in omega (arith, z, k.epochs q y))
          (let z = store_all_epoch e (s.nodes q).replica es in omega (arith, z)))
          (record { node = b; peer = q; epoch = e; answer = stores (length (store_all (s.nodes q).replica e es).log) }) (tt, λ eb eq. tt))
          (λ u. add_reply_lem K s.nodes s.requests s.replies k
          (record { node = b; peer = q; epoch = e; answer = stale_send (s.nodes q).replica.epoch }) (
            k.epochs q ask.1,
            λ eb eq.
                let f = mine eb eq in
                let g : E ≤ (s.nodes q).replica.epoch = subst (λ (m : ℕ). E ≤ (s.nodes m).replica.epoch) (sym eq) f.1 in
                eqb-false e (s.nodes q).replica.epoch u (omega (arith, f.0, g, k.epochs q ask.1)),
          ))
        where
          not_a : a ≡ q → e ≡ (s.nodes q).replica.epoch → ⊥
          not_a w is =
              let e-is : e ≡ E = is ∙ ap (λ (m : ℕ). (s.nodes m).replica.epoch) (sym w) ∙ own-a in
              ok.other (sym ok.owner ∙ ap h.pr e-is ∙ pr_a ∙ w)

      steady_hear : Kept (on_hear s b q place)
      unfolding on_hear hear_as
      steady_hear = go (nth (s.requests b q) place) refl
        where
          of_p : (r : Request) → nth (s.requests b q) place ≡ some r → OfP r
          of_p r found eb eq =
              all-nth (AskedOf (s.nodes p).replica.epoch) (s.requests a p) place r k.own
              (ap (λ (m : ℕ). nth (s.requests a m) place) (sym eq) ∙ ap (λ (m : ℕ). nth (s.requests m q) place) (sym eb) ∙ found)

          hear : (r : Request) → Ok r → Asked q r → OfP r → Kept (hear_one s b q (s.nodes q) r)
          hear (align e end t) ok ask mine = hear_align e end t ask mine
          hear (send e es) ok ask mine = hear_send e es ok ask mine

          go : (o : Option Request) → nth (s.requests b q) place ≡ o → Kept (hear_as s b q o)
          go none found = k
          go (some r) found =
              hear r (all-nth Ok (s.requests b q) place r (clauses.way.requests b q) found)
              (all-nth (Asked q) (s.requests b q) place r (k.asked b q) found) (of_p r found)

    -- ---- a reply counts

    steady_count : (i : ℕ) → Kept (on_count s i)
    unfolding on_count count_as count_role set_node counted_as with_peer
    steady_count i = go (nth s.replies i) refl
      where
        After : Role → Type 0
        After r = (l : Lead) × (r ≡ lead l) × (l.epoch ≡ E) × K l

        peer : (l : Lead) (q t : ℕ) (b : Bool) → l.epoch ≡ E → K l → (p ≡ q → K (with_peer l q t b)) → After (lead (with_peer l q t b))
        peer l q t b e y f = (with_peer l q t b, refl, e, same_or (K (with_peer l q t b)) p q f (λ ne. cl.other l q t b ne y))

        at : (l : Lead) (last q : ℕ) (x : Answer) → l.epoch ≡ E → K l → Told x → (q ≡ p → ToldOf x) → After (counted_as l last q x)
        at l last q (adopts t) e y told f =
            peer l q (min t last) true e y (λ eq. subst (λ (m : ℕ). K (with_peer l m (min t last) true)) eq (cl.adopt l (min t last) (f (sym eq)) y))
        at l last q (stores t) e y told f =
            peer l q (max (l.acked q) t) (l.aligned q) e y
            (λ eq. subst (λ (m : ℕ). K (with_peer l m (max (l.acked m) t) (l.aligned m))) eq (cl.store l t y))
        at l last q (stale_align x) e y told f =
            by-test After (ltb l.epoch x) (λ u. absurd (omega (arith, ltb-true l.epoch x u, e, told))) (λ u. (l, refl, e, y))
        at l last q (stale_send x) e y told f =
            by-test After (ltb l.epoch x) (λ u. absurd (omega (arith, ltb-true l.epoch x u, e, told)))
            (λ u. peer l q (l.acked q) false e y (λ eq. absurd (f (sym eq))))

        act : (r : Reply) → ReplyFine r → (x : Option Lead) → lead_at (s.nodes r.node).role r.epoch ≡ x → Kept (count_role s r x)
        act r ok none q = k
        act r ok (some l) q =
            role_at_lem K s.nodes s.requests s.replies k r.node (counted_as l (length (s.nodes r.node).replica.log) r.peer r.answer)
            (λ e. let z = the_one r.node e l (is-lead (s.nodes r.node).role r.epoch l q).0 in
            at l (length (s.nodes r.node).replica.log) r.peer r.answer z.0 z.1 ok.0 (ok.1 (sym e)))

        go : (o : Option Reply) → nth s.replies i ≡ o → Kept (count_as s o)
        go none q = k
        go (some r) q = act r (all-nth ReplyFine s.replies i r k.told q) (lead_at (s.nodes r.node).role r.epoch) refl

    steady_move : (m : Move) → Gentle c.world m → Kept (step s m)
    unfolding step on_forget on_untell set_proposals set_outcomes
    steady_move (promotion n) g = absurd g
    steady_move (decision i told) g = steady_take i told
    steady_move (rejection i) g = k
    steady_move (outcome i) g = steady_tell i
    steady_move (silence i) g = k
    steady_move (showing n) g = absurd g
    steady_move (writing n op) g = absurd g
    steady_move (alignment n q) g = steady_align n q g.0 g.1
    steady_move (batch n q from size) g = steady_send n q from size g.0 g.1
    steady_move (arrival n q i) g = steady_hear n q i
    steady_move (counting i) g = steady_count i
    steady_move (joining i) g = steady_join i
    steady_move (suspicion n q) g = steady_suspect n q
    steady_move (waiting i) g = steady_wait i

  pub steady_run : (K : Lead → Type 0) → Closed K → (s : State) → Inv s → SteadyAt K s → (ms : List Move) → All (Gentle c.world) ms
      → SteadyAt K (run s ms) × Inv (run s ms)
  unfolding run
  steady_run K cl s v k [] g = (k, v)
  steady_run K cl s v k (m ∷ ms) g = steady_run K cl (step s m) (protocol.on_move s m v) (steady_move K cl s v k m g.0) ms g.1
