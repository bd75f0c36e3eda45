-- The rows of a primary's peers against the protocol's record: what each change of a row keeps. Assumes nothing.
use Prim.Native.Nat.{ℕ}
use mathlib.Core.Path.{◌≡◌, refl, sym, ap, ◌∙◌, subst}
use mathlib.Core.Bool.{Bool, true, false}
use mathlib.Core.List.{List, ◌∷◌, map}
use mathlib.Core.Option.{Option, none, some}
use lib.Dec.{eqb}
use borrow.Author.Tests.{eqb-true, ne_eqb}
use Rattle.spec.specs.Lists.{◌and◌, ◌or◌, any, find}
use Rattle.spec.specs.Map.Apply.{update}
use Rattle.spec.specs.Map.Change.{holds}
use Rattle.spec.specs.Node.Shards.{of_node, on_node}
use Rattle.spec.specs.Node.Client.{lacks, wait_row}
use Rattle.spec.specs.Node.Shown.{retained}
use Rattle.spec.specs.Node.Ack.{acked_through, joins, ack_row, unaligned, settled_row}
use Rattle.spec.specs.declared.Peer.{Peer}
use Rattle.spec.specs.declared.DataNodeId.{DataNodeId}
use Rattle.spec_laws.proofs.Lists.{by-test, not_both, none_some, some_same}
use Rattle.spec_laws.proofs.Map.Rows.{every-find, find_true, every-update, find-update, find-other}
use Rattle.spec_laws.proofs.Node.Shards.{update-none}
use Rattle.thm_run.proofs.Protocol.Base.{upd_same, upd_other, same_or}
use Rattle.thm_run.proofs.Protocol.Sets.{member, without, In, in_head, of_cons, of_without, in_without, not_without}
use Rattle.thm_run.proofs.Protocol.State.{Lead, with_peer, with_ack}
use Rattle.thm_run.proofs.Simulation.Lists.{find_map_back, every_map, any-update, any-map, any-find}
use Rattle.thm_run.proofs.Simulation.Relation.{World, is_holder, RowSim, RowsSim}

-- ---- sets

pub cons_other : (p n : ℕ) (l : List ℕ) → (p ≡ n → ⊥) → member p (n ∷ l) ≡ member p l
unfolding member
cons_other p n l ne = rw (ne_eqb p n ne)

pub without_other : (p n : ℕ) (l : List ℕ) → (p ≡ n → ⊥) → member p (without n l) ≡ member p l
without_other p n l ne = go (member p (without n l)) (member p l) refl refl
  where
    go : (b c : Bool) → member p (without n l) ≡ b → member p l ≡ c → b ≡ c
    go true true e f = refl
    go true false e f = not_both (member p l) (of_without p n l e) f
    go false true e f = not_both (member p (without n l)) (in_without p n l ne f) e
    go false false e f = refl

pub without-same : (n : ℕ) (l : List ℕ) → member n (without n l) ≡ false
without-same n l = go (member n (without n l)) refl
  where
    go : (b : Bool) → member n (without n l) ≡ b → b ≡ false
    go true e = absurd (not_without n l e)
    go false e = refl

module _ (w : World) (n : ℕ) where
  -- a row that is found is a holder's
  pub row_holder : (l : Lead) (rows : List Peer) → RowsSim w n l rows → (p : ℕ) (q : Peer) → find (of_node p) rows ≡ some q → holds p w.holders ≡ true
  row_holder l rows k p q e =
      subst (λ (m : ℕ). holds m w.holders ≡ true) (eqb-true q.node.0 p (find_true (of_node p) rows q e))
      (every-find (is_holder w) (of_node p) rows q k.holders e)

  -- the row of a peer in the ack set
  pub ack_row_lem : (l : Lead) (rows : List Peer) → RowsSim w n l rows → (p : ℕ) → In p l.ack → (p ≡ n → ⊥)
      → (q : Peer) × (find (of_node p) rows ≡ some q)
  ack_row_lem l rows k p i ne = any-find (of_node p) rows (k.has p (k.known p i) ne)

  -- one row changed, and the record with it
  pub rows-update : (l m : Lead) (rows : List Peer) (peer : ℕ) (f : Peer → Peer) → ((q : Peer) → (f q).node ≡ q.node) → RowsSim w n l rows
      → ((q : Peer) → find (of_node peer) rows ≡ some q → RowSim w m peer (f q))
      → ((p : ℕ) → (p ≡ peer → ⊥) → (q : Peer) → RowSim w l p q → RowSim w m p q)
      → ((p : ℕ) → In p m.ack → holds p w.holders ≡ true)
      → RowsSim w n m (update (of_node peer) f rows)
  rows-update l m rows peer f node k new old known = record {
    row = λ p q. same_or (find (of_node p) (update (of_node peer) f rows) ≡ some q → RowSim w m p q) p peer
        (λ e. subst (λ (z : ℕ). find (of_node z) (update (of_node peer) f rows) ≡ some q → RowSim w m z q) (sym e)
        (mine q (find (of_node peer) rows) refl))
        (λ ne e. old p ne q (k.row p q (sym (other p ne) ∙ e)));
    holders = every-update (of_node peer) f (is_holder w)
        (λ q t h. subst (λ (d : DataNodeId). holds d.0 w.holders ≡ true) (sym (node q)) h) rows k.holders;
    has = λ p h ne. any-update (of_node peer) f (of_node p) (λ q. ap (λ (d : DataNodeId). eqb d.0 p) (node q)) rows ∙ k.has p h ne;
    own = any-update (of_node peer) f (of_node n) (λ q. ap (λ (d : DataNodeId). eqb d.0 n) (node q)) rows ∙ k.own;
    known = known;
  }
    where
      mine : (q : Peer) (o : Option Peer) → find (of_node peer) rows ≡ o → find (of_node peer) (update (of_node peer) f rows) ≡ some q → RowSim w m peer q
      mine q none e d =
          none_some (sym e ∙ ap (find (of_node peer)) (sym (update-none (of_node peer) f rows e)) ∙ d)
      mine q (some r) e d =
          let t : of_node peer (f r) ≡ true = ap (λ (d : DataNodeId). eqb d.0 peer) (node r) ∙ find_true (of_node peer) rows r e in
          let u : f r ≡ q = some_same (sym (find-update (of_node peer) f rows r t e) ∙ d) in
          subst (RowSim w m peer) u (new r e)

      other : (p : ℕ) → (p ≡ peer → ⊥) → find (of_node p) (update (of_node peer) f rows) ≡ find (of_node p) rows
      other p ne =
          let off : (x : Peer) → of_node peer x ≡ true
          → of_node p x ≡ false = λ x t. ne_eqb x.node.0 p (λ e. ne (sym e ∙ eqb-true x.node.0 peer t)) in
          find-other (of_node peer) f (of_node p) off (λ x t. ap (λ (d : DataNodeId). eqb d.0 p) (node x) ∙ off x t) rows

  -- every row changed, in nothing that the record has
  pub rows-map : (l : Lead) (rows : List Peer) (f : Peer → Peer) → ((q : Peer) → (f q).node ≡ q.node) → RowsSim w n l rows
      → ((p : ℕ) (q : Peer) → find (of_node p) rows ≡ some q → RowSim w l p q → RowSim w l p (f q))
      → RowsSim w n l (map f rows)
  rows-map l rows f node k new = record {
    row = λ p q e.
        let r = find_map_back (of_node p) f (λ x. ap (λ (d : DataNodeId). eqb d.0 p) (node x)) rows q e in
        subst (RowSim w l p) r.2 (new p r.0 r.1 (k.row p r.0 r.1));
    holders = every_map (is_holder w) f (λ q h. subst (λ (d : DataNodeId). holds d.0 w.holders ≡ true) (sym (node q)) h) rows k.holders;
    has = λ p h ne. any-map f (of_node p) (λ q. ap (λ (d : DataNodeId). eqb d.0 p) (node q)) rows ∙ k.has p h ne;
    own = any-map f (of_node n) (λ q. ap (λ (d : DataNodeId). eqb d.0 n) (node q)) rows ∙ k.own;
    known = k.known;
  }

-- ---- the rows of each call

pub wait_node : (last now timeout : ℕ) (q : Peer) → (wait_row last now timeout q).node ≡ q.node
unfolding wait_row
wait_node last now timeout q = by-test (λ (v : Peer). v.node ≡ q.node) (lacks last q) (λ t. refl) (λ t. refl)

and_yes : (b : Bool) → (b and true) ≡ b
unfolding ◌and◌
and_yes true = refl
and_yes false = refl

and_no : (b : Bool) → (b and false) ≡ false
unfolding ◌and◌
and_no true = refl
and_no false = refl

pub or_no : (b : Bool) → (b or false) ≡ b
unfolding ◌or◌
or_no true = refl
or_no false = refl

pub or_yes : (b : Bool) → (b or true) ≡ true
unfolding ◌or◌
or_yes true = refl
or_yes false = refl

module _ (w : World) (n : ℕ) (l : Lead) (rows : List Peer) (k : RowsSim w n l rows) where
  -- waiting for acks
  pub wait_rows : (last now timeout : ℕ) → RowsSim w n l (map (wait_row last now timeout) rows)
  unfolding wait_row
  wait_rows last now timeout =
      rows-map w n l rows (wait_row last now timeout) (wait_node last now timeout) k
      (λ p q e r. by-test (RowSim w l p) (lacks last q) (λ t. record { acked = r.acked; aligned = r.aligned; joined = r.joined }) (λ t. r))

  -- map shown: no peer has left the holders
  pub retained-rows : RowsSim w n l (map (retained w.holders) rows)
  unfolding retained holds
  retained-rows =
      rows-map w n l rows (retained w.holders) (λ q. refl) k
      (λ p q e r. record {
        acked = r.acked;
        aligned = r.aligned;
        joined =
            ap (λ (b : Bool). q.member and b)
            (subst (λ (m : ℕ). any (on_node m) w.holders ≡ true) (sym (eqb-true q.node.0 p (find_true (of_node p) rows q e)))
            (row_holder w n l rows k p q e))
            ∙ and_yes q.member ∙ r.joined;
      })

  -- the outcome of a proposal
  pub settled-rows : (peer : ℕ) → RowsSim w n l (update (of_node peer) (settled_row false) rows)
  unfolding settled_row
  settled-rows peer =
      rows-update w n l l rows peer (settled_row false) (λ q. refl) k
      (λ q e. let r = k.row peer q e in record { acked = r.acked; aligned = r.aligned; joined = and_yes q.member ∙ r.joined })
      (λ p ne q r. r) k.known

  pub left-rows : (peer : ℕ) → RowsSim w n (with_ack l (without peer l.ack)) (update (of_node peer) (settled_row true) rows)
  unfolding settled_row with_ack
  left-rows peer =
      rows-update w n l (with_ack l (without peer l.ack)) rows peer (settled_row true) (λ q. refl) k
      (λ q e. let r = k.row peer q e in
      record { acked = r.acked; aligned = r.aligned; joined = and_no q.member ∙ sym (without-same peer l.ack) })
      (λ p ne q r. record { acked = r.acked; aligned = r.aligned; joined = r.joined ∙ sym (without_other p peer l.ack ne) })
      (λ p i. k.known p (of_without p peer l.ack i))

  -- a reply: the peer is to be aligned anew
  pub loose-rows : (peer : ℕ) → RowsSim w n (with_peer l peer (l.acked peer) false) (update (of_node peer) unaligned rows)
  unfolding unaligned with_peer
  loose-rows peer =
      rows-update w n l (with_peer l peer (l.acked peer) false) rows peer unaligned (λ q. refl) k
      (λ q e. let r = k.row peer q e in
      record {
        acked = r.acked ∙ sym (upd_same l.acked peer (l.acked peer));
        aligned = sym (upd_same l.aligned peer false);
        joined = r.joined;
      })
      (λ p ne q r. record {
        acked = r.acked ∙ sym (upd_other l.acked peer (l.acked peer) p ne);
        aligned = r.aligned ∙ sym (upd_other l.aligned peer false p ne);
        joined = r.joined;
      })
      k.known

  -- a reply: the ack is recorded, and the peer does not join
  module _ (peer last t : ℕ) (by : Bool) (u : ℕ) (b : Bool) (x : Peer) (at : find (of_node peer) rows ≡ some x)
      (much : acked_through last t by x ≡ u) (so : (x.aligned or by) ≡ b) where
    pub ack_rows : joins last t by x ≡ false → RowsSim w n (with_peer l peer u b) (update (of_node peer) (ack_row last t by) rows)
    unfolding ack_row with_peer
    ack_rows no_join =
        rows-update w n l (with_peer l peer u b) rows peer (ack_row last t by) (λ q. refl) k
        (λ q e. subst (λ (y : Peer). RowSim w (with_peer l peer u b) peer (ack_row last t by y)) (some_same (sym at ∙ e))
        (record {
          acked = much ∙ sym (upd_same l.acked peer u);
          aligned = so ∙ sym (upd_same l.aligned peer b);
          joined = ap (λ (c : Bool). x.member or c) no_join ∙ or_no x.member ∙ (k.row peer x at).joined;
        }))
        (λ p ne q r. record {
          acked = r.acked ∙ sym (upd_other l.acked peer u p ne);
          aligned = r.aligned ∙ sym (upd_other l.aligned peer b p ne);
          joined = r.joined;
        })
        k.known

    -- and it joins the ack set
    pub join_rows : joins last t by x ≡ true → RowsSim w n (with_ack (with_peer l peer u b) (peer ∷ l.ack))
        (update (of_node peer) (ack_row last t by) rows)
    unfolding ack_row with_peer with_ack
    join_rows join =
        rows-update w n l (with_ack (with_peer l peer u b) (peer ∷ l.ack)) rows peer (ack_row last t by) (λ q. refl) k
        (λ q e. subst (λ (y : Peer). RowSim w (with_ack (with_peer l peer u b) (peer ∷ l.ack)) peer (ack_row last t by y)) (some_same (sym at ∙ e))
        (record {
          acked = much ∙ sym (upd_same l.acked peer u);
          aligned = so ∙ sym (upd_same l.aligned peer b);
          joined = ap (λ (c : Bool). x.member or c) join ∙ or_yes x.member ∙ sym (in_head peer l.ack);
        }))
        (λ p ne q r. record {
          acked = r.acked ∙ sym (upd_other l.acked peer u p ne);
          aligned = r.aligned ∙ sym (upd_other l.aligned peer b p ne);
          joined = r.joined ∙ sym (cons_other p peer l.ack ne);
        })
        (λ p i. of_cons p peer l.ack (λ e. subst (λ (m : ℕ). holds m w.holders ≡ true) (sym e) (row_holder w n l rows k peer x at))
        (λ i. k.known p i) i)
