-- A peer that a record counts as aligned has reached the record's epoch. Not needed for acknowledged writes; what is said of catching up
-- needs it. The definition, and that every move keeps it. Assumes nothing.
use Prim.Native.Nat.{ℕ, zero, suc, ◌+◌, ◌≤◌, ◌<◌, min, max}
use mathlib.Core.Path.{◌≡◌, refl, sym, ap, ◌∙◌, subst}
use mathlib.Core.Bool.{Bool, true, false, cond}
use mathlib.Core.List.{List, [], ◌∷◌, ◌++◌}
use mathlib.Core.Option.{Option, none, some}
use native.Mathlib.Omega.{arith}
use lib.Dec.{eqb, leb, ltb}
use lib.ListN.{length}
use borrow.Author.Tests.{eqb-true, eqb-false, ltb-false, leb-true}
use Rattle.spec.specs.Lists.{nth}
use Rattle.spec.specs.Log.{Op, Log, End, append, push, cut_to, store_all, promote, entries_from}
use Rattle.spec_laws.proofs.Lists.{by-test, not_both}
use Rattle.spec_laws.proofs.Log.Store.{store_all_epoch}
use Rattle.thm_run.proofs.Protocol.Base.{All, all-nth, upd, upd-all, remove_at}
use Rattle.thm_run.proofs.Protocol.Sets.{member, without}
use Rattle.thm_run.proofs.Protocol.State.{Map, Lead, Role, backup, lead, Node, Request, align, send, Answer, adopts, stores, stale_align, stale_send, Reply, Proposal, Outcome, Accepted, State, set_map, set_node, set_requests, add_reply, set_proposals, set_outcomes, add_accepted, add_acknowledged}
use Rattle.thm_run.proofs.Protocol.State.{with_role, with_ack, with_peer, lead_at, leader, show_as, on_show, promoted, on_promote, expanded, shrunk, may_take, resized, take_as, on_take, on_forget, on_untell, suspect_as, on_suspect, all_acked, ack_lead, ack_as, on_acknowledge, post, align_as, on_align, send_batch, send_as, on_send, leads_from, replied, adopting, storing, hear_one, hear_as, on_hear, counted_as, count_role, count_as, on_count, may_join, join_lead, join_as, on_join, told_as, tell_as, on_tell, write_as, on_write}
use Rattle.thm_run.proofs.Protocol.Ghost.{History}
use Rattle.thm_run.proofs.Protocol.Inv.{AnswerOk, ReplyOk, Clauses}
use Rattle.thm_run.proofs.Protocol.Frame.{is-lead}

abbrev pub ReachedOk : (own p : ℕ) → Role → Type 0
ReachedOk own p backup = Unit
ReachedOk own p (lead l) = l.aligned p ≡ true → l.epoch ≤ own

abbrev pub Reached : (ℕ → Node) → Type 0
Reached nodes = (a p : ℕ) → ReachedOk (nodes p).replica.epoch p (nodes a).role

-- epochs only rise
raised : (own own' p : ℕ) → own ≤ own' → (r : Role) → ReachedOk own p r → ReachedOk own' p r
raised own own' p le backup c = tt
raised own own' p le (lead l) c = λ t. omega (arith, le, c t)

-- one node replaced
reached : (nodes : ℕ → Node) → Reached nodes → (n : ℕ) (z : Node) → (nodes n).replica.epoch ≤ z.replica.epoch
    → ((m : ℕ) → ReachedOk (nodes m).replica.epoch m z.role) → Reached (upd nodes n z)
reached nodes o n z le f a p =
    upd-all (λ b (y : Node). ReachedOk (upd nodes n z p).replica.epoch p y.role)
    (upd-all (λ m (y : Node). ReachedOk y.replica.epoch m z.role) (raised (nodes n).replica.epoch z.replica.epoch n le z.role (f n)) (λ m ne. f m) p)
    (λ b nb. upd-all (λ m (y : Node). ReachedOk y.replica.epoch m (nodes b).role)
    (raised (nodes n).replica.epoch z.replica.epoch n le (nodes b).role (o b n)) (λ m ne. o b m) p) a

module _ (s : State) (o : Reached s.nodes) where
  -- ---- moves that leave the nodes

  pub reached_promote : (q : ℕ) → Reached (on_promote s q).nodes
  unfolding on_promote set_map
  reached_promote q = by-test (λ (v : State). Reached v.nodes) (member q s.map.insync) (λ t. o) (λ t. o)

  pub reached_take : (i : ℕ) (told : Bool) → Reached (on_take s i told).nodes
  unfolding on_take take_as expanded shrunk set_map set_proposals set_outcomes
  reached_take i told = go (nth s.proposals i)
    where
      go : (v : Option Proposal) → Reached (take_as s i told v).nodes
      go none = o
      go (some v) =
          by-test (λ (v : State). Reached v.nodes) (may_take s.map v)
          (λ t. by-test (λ (v : State). Reached v.nodes) v.expand (λ u. o) (λ u. o)) (λ t. o)

  pub reached_suspect : (a p : ℕ) → Reached (on_suspect s a p).nodes
  unfolding on_suspect suspect_as set_proposals
  reached_suspect a p = go (s.nodes a).role
    where
      go : (r : Role) → Reached (suspect_as s a p r).nodes
      go backup = o
      go (lead l) = o

  pub reached_wait : (i : ℕ) → Reached (on_acknowledge s i).nodes
  unfolding on_acknowledge ack_as ack_lead add_acknowledged
  reached_wait i = go (nth s.accepted i)
    where
      act : (w : Accepted) → (v : Option Lead) → Reached (ack_lead s w v).nodes
      act w none = o
      act w (some l) = by-test (λ (v : State). Reached v.nodes) (all_acked w.node w.offset l) (λ t. o) (λ t. o)

      go : (v : Option Accepted) → Reached (ack_as s v).nodes
      go none = o
      go (some w) = act w (lead_at (s.nodes w.node).role w.epoch)

  pub reached_align : (a p : ℕ) → Reached (on_align s a p).nodes
  unfolding on_align align_as post set_requests
  reached_align a p = go (s.nodes a).role
    where
      go : (r : Role) → Reached (align_as s a p r).nodes
      go backup = o
      go (lead l) =
          by-test (λ (v : State). Reached v.nodes) (eqb a p) (λ t. o)
          (λ t. by-test (λ (v : State). Reached v.nodes) (l.aligned p) (λ u. o) (λ u. o))

  pub reached_send : (a p from size : ℕ) → Reached (on_send s a p from size).nodes
  unfolding on_send send_as send_batch post set_requests
  reached_send a p from size = go (s.nodes a).role
    where
      part : (e : ℕ) (es : Log) → Reached (send_batch s a p e es).nodes
      part e [] = o
      part e (x ∷ xs) = o

      go : (r : Role) → Reached (send_as s a p from size r).nodes
      go backup = o
      go (lead l) =
          by-test (λ (v : State). Reached v.nodes) (eqb a p) (λ t. o)
          (λ t. by-test (λ (v : State). Reached v.nodes) (l.aligned p) (λ u. part l.epoch (entries_from (s.nodes a).replica.log from size)) (λ u. o))

  -- ---- a role replaced

  rerole : (n : ℕ) (r : Role) → ((m : ℕ) → ReachedOk (s.nodes m).replica.epoch m r) → Reached (set_node s n (with_role (s.nodes n) r)).nodes
  unfolding set_node with_role
  rerole n r f = reached s.nodes o n (with_role (s.nodes n) r) (omega arith) f

  pub reached_drop : (n : ℕ) → Reached (set_node s n (with_role (s.nodes n) backup)).nodes
  reached_drop n = rerole n backup (λ m. tt)

  knows : (n : ℕ) (l : Lead) → (s.nodes n).role ≡ lead l → (m : ℕ) → ReachedOk (s.nodes m).replica.epoch m (lead l)
  knows n l q m = rw q at (o n m)

  other_ack : (n : ℕ) (l : Lead) (w : List ℕ) → (s.nodes n).role ≡ lead l → Reached (set_node s n (with_role (s.nodes n) (lead (with_ack l w)))).nodes
  unfolding with_ack
  other_ack n l w q = rerole n (lead (with_ack l w)) (knows n l q)

  other-peer : (n : ℕ) (l : Lead) (p t : ℕ) (b : Bool) → (s.nodes n).role ≡ lead l → (b ≡ true → l.epoch ≤ (s.nodes p).replica.epoch)
      → Reached (set_node s n (with_role (s.nodes n) (lead (with_peer l p t b)))).nodes
  unfolding with_peer
  other-peer n l p t b q f =
      rerole n (lead (with_peer l p t b))
      (λ m. upd-all (λ y v. v ≡ true → l.epoch ≤ (s.nodes y).replica.epoch) f (λ y ne. knows n l q y) m)

  pub reached_join : (i : ℕ) → Reached (on_join s i).nodes
  unfolding on_join join_as join_lead set_proposals
  reached_join i = go (nth s.replies i)
    where
      act : (r : Reply) → (v : Option Lead) → lead_at (s.nodes r.node).role r.epoch ≡ v → Reached (join_lead s r v).nodes
      act r none q = o
      act r (some l) q =
          by-test (λ (v : State). Reached v.nodes) (may_join l (length (s.nodes r.node).replica.log) r)
          (λ t. other_ack r.node l (r.peer ∷ l.ack) (is-lead (s.nodes r.node).role r.epoch l q).0) (λ t. o)

      go : (v : Option Reply) → Reached (join_as s v).nodes
      go none = o
      go (some r) = act r (lead_at (s.nodes r.node).role r.epoch) refl

  pub reached_tell : (i : ℕ) → Reached (on_tell s i).nodes
  unfolding on_tell tell_as told_as set_outcomes set_node
  reached_tell i = go (nth s.outcomes i)
    where
      act : (v : Outcome) → (w : Option Lead) → lead_at (s.nodes v.node).role v.epoch ≡ w
          → Reached (told_as (set_outcomes s (remove_at s.outcomes i)) v w).nodes
      act v none q = o
      act v (some l) q = other_ack v.node l (without v.peer l.ack) (is-lead (s.nodes v.node).role v.epoch l q).0

      go : (v : Option Outcome) → Reached (tell_as s i v).nodes
      go none = o
      go (some v) = act v (lead_at (s.nodes v.node).role v.epoch) refl

  pub reached_write : (n : ℕ) (op : Op) → Reached (on_write s n op).nodes
  unfolding on_write write_as add_accepted set_node append push
  reached_write n op = go (s.nodes n).role refl
    where
      go : (r : Role) → (s.nodes n).role ≡ r → Reached (write_as s n op r).nodes
      go backup q = o
      go (lead l) q = reached s.nodes o n (record { replica = append (s.nodes n).replica op; role = lead l }) (omega arith) (knows n l q)

  pub reached_show : (n : ℕ) → Reached (on_show s n).nodes
  unfolding on_show show_as leader set_node promote
  reached_show n =
      by-test (λ (v : State). Reached v.nodes) (eqb s.map.primary n) (λ t. go (lead_at (s.nodes n).role s.map.epoch))
      (λ t. reached_drop n)
    where
      go : (v : Option Lead) → Reached (show_as s n v).nodes
      go (some l) = o
      go none =
          by-test (λ (v : State). Reached v.nodes) (leb (s.nodes n).replica.epoch s.map.epoch)
          (λ t. reached s.nodes o n (leader (s.nodes n) s.map) (omega arith) (λ m u. not_both false u refl)) (λ t. o)

  -- ---- a request is heard

  pub reached_hear : (a p i : ℕ) → Reached (on_hear s a p i).nodes
  unfolding on_hear hear_as hear_one replied add_reply set_node adopting cut_to storing
  reached_hear a p i = go (nth (s.requests a p) i)
    where
      go : (v : Option Request) → Reached (hear_as s a p v).nodes
      go none = o
      go (some (align e end t)) =
          by-test (λ (v : State). Reached v.nodes) (leads_from (s.nodes p).role e) (λ u. o)
          (λ u. by-test (λ (v : State). Reached v.nodes) (ltb e (s.nodes p).replica.epoch) (λ y. o)
          (λ y. by-test (λ (v : State). Reached v.nodes) (eqb e (s.nodes p).replica.epoch) (λ z. reached_drop p)
          (λ z. reached s.nodes o p (adopting (s.nodes p) e end t) (ltb-false e (s.nodes p).replica.epoch y) (λ m. tt))))
      go (some (send e es)) =
          by-test (λ (v : State). Reached v.nodes) (eqb e (s.nodes p).replica.epoch)
          (λ u. let q = store_all_epoch e (s.nodes p).replica es in
          reached s.nodes o p (storing (s.nodes p) e es) (omega (arith, q)) (o p))
          (λ u. o)

-- ---- a reply counts: the peer has reached what it says it adopted

module _ (h : History) (s : State) (k : Clauses h s) (o : Reached s.nodes) where
  counted : (a p e last : ℕ) (l : Lead) → (s.nodes a).role ≡ lead l → l.epoch ≡ e → (v : Answer)
      → AnswerOk (h.held e p) e (s.nodes p).replica.epoch s.map.epoch v
      → Reached (set_node s a (with_role (s.nodes a) (counted_as l last p v))).nodes
  unfolding counted_as
  counted a p e last l q same (adopts t) ok = other-peer s o a l p (min t last) true q (λ _. omega (arith, ok.1, same))
  counted a p e last l q same (stores t) ok = other-peer s o a l p (max (l.acked p) t) (l.aligned p) q (knows s o a l q p)
  counted a p e last l q same (stale_align x) ok =
      by-test (λ r. Reached (set_node s a (with_role (s.nodes a) r)).nodes) (ltb l.epoch x) (λ t. reached_drop s o a)
      (λ t. rerole s o a (lead l) (knows s o a l q))
  counted a p e last l q same (stale_send x) ok =
      by-test (λ r. Reached (set_node s a (with_role (s.nodes a) r)).nodes) (ltb l.epoch x) (λ t. reached_drop s o a)
      (λ t. other-peer s o a l p (l.acked p) false q (λ u. not_both false u refl))

  pub reached_count : (i : ℕ) → Reached (on_count s i).nodes
  unfolding on_count count_as count_role
  reached_count i = go (nth s.replies i) refl
    where
      act : (r : Reply) → nth s.replies i ≡ some r → (v : Option Lead) → lead_at (s.nodes r.node).role r.epoch ≡ v → Reached (count_role s r v).nodes
      act r w none q = o
      act r w (some l) q =
          let f = is-lead (s.nodes r.node).role r.epoch l q in
          counted r.node r.peer r.epoch (length (s.nodes r.node).replica.log) l f.0 f.1 r.answer
          (all-nth (ReplyOk h s.nodes s.map.epoch) s.replies i r k.way.replies w)

      go : (v : Option Reply) → nth s.replies i ≡ v → Reached (count_as s v).nodes
      go none w = o
      go (some r) w = act r w (lead_at (s.nodes r.node).role r.epoch) refl
