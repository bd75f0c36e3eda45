-- Paper 01, 'Map shown': the rows of the workers that a map starts, against the protocol's new record; and a record that stays gets none.
-- Assumes nothing.
use Prim.Native.Nat.{ℕ, ◌≤◌}
use mathlib.Core.Path.{◌≡◌, refl, sym, ap, ◌∙◌, subst}
use mathlib.Core.Bool.{Bool, true, false}
use mathlib.Core.List.{List, [], ◌∷◌}
use mathlib.Core.Option.{Option, some}
use native.Mathlib.Omega.{arith}
use lib.Dec.{eqb}
use borrow.Author.Tests.{eqb-true, eq-eqb, ne_eqb, ltb-false}
use Rattle.spec.specs.Lists.{◌or◌, any, every, find, put}
use Rattle.spec.specs.Map.Change.{holds, in_sync}
use Rattle.spec.specs.Node.Shards.{row_below, of_node}
use Rattle.spec.specs.Node.Shown.{is_node, new_row, with_row, with_rows}
use Rattle.spec.specs.declared.DataNodeId.{DataNodeId}
use Rattle.spec.specs.declared.Replica.{Replica}
use Rattle.spec.specs.declared.Peer.{Peer}
use Rattle.spec_laws.proofs.Lists.{by-test, not_both, none_some, some_same}
use Rattle.spec_laws.proofs.Map.Rows.{find_true, every_cons}
use Rattle.spec_laws.proofs.Map.Sets.{any-put, any_put_other}
use Rattle.thm_run.proofs.Protocol.Base.{All}
use Rattle.thm_run.proofs.Protocol.Sets.{member, In}
use Rattle.thm_run.proofs.Protocol.State.{Lead}
use Rattle.thm_run.proofs.Simulation.Relation.{World, is_holder, RowsSim}

-- ---- one row put in

pub all-put : {A : Type 0} (P : A → Type 0) (lt : A → A → Bool) (x : A) (l : List A) → P x → All P l → All P (put lt x l)
unfolding put
all-put P lt x [] p h = (p, tt)
all-put P lt x (y ∷ ys) p h =
    let more = all-put P lt x ys p h.1 in
    by-test (All P) (lt x y) (λ e. (p, h)) (λ e. by-test (All P) (lt y x) (λ f. (h.0, more)) (λ f. (p, h.1)))

pub all-find : {A : Type 0} (P : A → Type 0) (p : A → Bool) (l : List A) (x : A) → All P l → find p l ≡ some x → P x
unfolding find
all-find P p [] x h e = none_some e
all-find {A} P p (y ∷ ys) x h e =
    let more = all-find P p ys x h.1 in
    by-test (λ (v : Option A). v ≡ some x → P x) (p y) (λ q d. subst P (some_same d) h.0) (λ q d. more d) e

-- a row that was there is there still
any-row : (p : ℕ) (x : Peer) (l : List Peer) → any (of_node p) l ≡ true → any (of_node p) (put row_below x l) ≡ true
any-row p x l h = go (of_node p x) refl
  where
    go : (t : Bool) → of_node p x ≡ t → any (of_node p) (put row_below x l) ≡ true
    go true t = any-put row_below (of_node p) x l t
    go false t =
        any_put_other row_below (of_node p) x l t
        (λ y q r. ap (λ (m : ℕ). eqb m p) (level y.node.0 x.node.0 (ltb-false x.node.0 y.node.0 q)
        (ltb-false y.node.0 x.node.0 r)) ∙ t)
        ∙ h
      where
        level : (m n : ℕ) → m ≤ n → n ≤ m → m ≡ n
        level m n g h = omega arith

module _ (me : ℕ) (sync : List DataNodeId) where
  keeps-any : (p : ℕ) (d : DataNodeId) (rows : List Peer) → any (of_node p) rows ≡ true → any (of_node p) (with_row me sync d rows) ≡ true
  unfolding with_row
  keeps-any p d rows h =
      by-test (λ v. any (of_node p) v ≡ true) (eqb d.0 me or any (of_node d.0) rows) (λ t. h) (λ t. any-row p _ rows h)

  gains : (d : DataNodeId) (rows : List Peer) → (d.0 ≡ me → ⊥) → any (of_node d.0) (with_row me sync d rows) ≡ true
  unfolding with_row ◌or◌
  gains d rows ne =
      by-test (λ v. any (of_node d.0) v ≡ true) (eqb d.0 me or any (of_node d.0) rows)
      (λ t. rest (eqb d.0 me) (ne_eqb d.0 me ne) t)
      (λ t. any-put row_below (of_node d.0) (new_row d (any (is_node d.0) sync)) rows (eq-eqb d.0 d.0 refl))
    where
      rest : (b : Bool) → b ≡ false → (b or any (of_node d.0) rows) ≡ true → any (of_node d.0) rows ≡ true
      rest true e t = not_both true refl e
      rest false e t = t

  all_any : (p : ℕ) (rs : List Replica) (rows : List Peer) → any (of_node p) rows ≡ true → any (of_node p) (with_rows me sync rs rows) ≡ true
  unfolding with_rows
  all_any p [] rows h = h
  all_any p (r ∷ rs) rows h = all_any p rs (with_row me sync r.node rows) (keeps-any p r.node rows h)

  -- every other holder has a row
  each_has : (p : ℕ) (rs : List Replica) (rows : List Peer) → holds p rs ≡ true → (p ≡ me → ⊥) → any (of_node p) (with_rows me sync rs rows) ≡ true
  unfolding with_rows holds any
  each_has p [] rows h ne = not_both false h refl
  each_has p (r ∷ rs) rows h ne =
      let more = each_has p rs (with_row me sync r.node rows) in
      by-test (λ (v : Bool). v ≡ true → any (of_node p) (with_rows me sync rs (with_row me sync r.node rows)) ≡ true) (eqb r.node.0 p)
      (λ t u. let e = eqb-true r.node.0 p t in
      all_any p rs (with_row me sync r.node rows)
      (subst (λ (z : ℕ). any (of_node z) (with_row me sync r.node rows) ≡ true) e (gains r.node rows (λ q. ne (sym e ∙ q)))))
      (λ t u. more u ne)
      h

  -- a fact of every new row, which is another's, and of those that were there
  each_row : (P : Peer → Type 0) → (rs : List Replica)
      → ((p : DataNodeId) → holds p.0 rs ≡ true → eqb p.0 me ≡ false → P (new_row p (any (is_node p.0) sync)))
      → (rows : List Peer) → All P rows → All P (with_rows me sync rs rows)
  unfolding with_rows holds any ◌or◌
  each_row P [] f rows h = h
  each_row P (r ∷ rs) f rows h =
      each_row P rs (λ p u. f p (by-test (λ v. v ≡ true) (eqb r.node.0 p.0) (λ t. refl) (λ t. u))) (with_row me sync r.node rows)
      (unfold with_row in
      by-test (All P) (eqb r.node.0 me or any (of_node r.node.0) rows) (λ t. h)
      (λ t. all-put P row_below _ rows (f r.node (rw (eq-eqb r.node.0 r.node.0 refl)) (not_me (eqb r.node.0 me) _ t)) h))
    where
      not_me : (b d : Bool) → (b or d) ≡ false → b ≡ false
      not_me true d e = e
      not_me false d e = refl

  -- where all have theirs, none is added
  pub none_added : (rs : List Replica) (rows : List Peer) → ((p : ℕ) → holds p rs ≡ true → (p ≡ me → ⊥) → any (of_node p) rows ≡ true)
      → with_rows me sync rs rows ≡ rows
  unfolding with_rows holds any ◌or◌
  none_added [] rows h = refl
  none_added (r ∷ rs) rows h =
      ap (with_rows me sync rs) one
      ∙ none_added rs rows (λ p u. h p (by-test (λ v. v ≡ true) (eqb r.node.0 p) (λ t. refl) (λ t. u)))
    where
      has : (b : Bool) → eqb r.node.0 me ≡ b → (b or any (of_node r.node.0) rows) ≡ true
      has true t = unfold ◌or◌ in refl
      has false t =
          unfold ◌or◌ in unfold holds in unfold any in
          h r.node.0 (rw (eq-eqb r.node.0 r.node.0 refl)) (λ e. not_both (eqb r.node.0 me) (eq-eqb r.node.0 me e) t)

      one : with_row me sync r.node rows ≡ rows
      one = unfold with_row in rw (has (eqb r.node.0 me) refl)

-- the rows of a new record
pub new-rows : (w : World) (me : ℕ) (sync : List DataNodeId) (l : Lead) → l.acked ≡ (λ p. 0) → l.aligned ≡ (λ p. false)
    → ((p : ℕ) → in_sync p sync ≡ member p l.ack) → ((p : ℕ) → In p l.ack → holds p w.holders ≡ true)
    → RowsSim w me l (with_rows me sync w.holders [])
unfolding in_sync every any
new-rows w me sync l none' loose in' known = record {
  row = λ p q e.
      let f = all-find Fresh (of_node p) (with_rows me sync w.holders []) q fresh e in
      let same : q.node.0 ≡ p = eqb-true q.node.0 p (find_true (of_node p) (with_rows me sync w.holders []) q e) in
      record {
        acked = f.0 ∙ sym (ap (λ (g : ℕ → ℕ). g p) none');
        aligned = f.1 ∙ sym (ap (λ (g : ℕ → Bool). g p) loose);
        joined = f.2 ∙ ap (λ (z : ℕ). any (is_node z) sync) same ∙ in' p;
      };
  holders = as_every (with_rows me sync w.holders []) (each_row me sync (λ q. is_holder w q ≡ true) w.holders (λ p u ne. u) [] tt);
  has = λ p u ne. each_has me sync p w.holders [] u ne;
  own = none_any (with_rows me sync w.holders []) (each_row me sync (λ q. of_node me q ≡ false) w.holders (λ p u ne. ne) [] tt);
  known = known;
}
  where
    Fresh : Peer → Type 0
    Fresh q = (q.acked.0 ≡ 0) × (q.aligned ≡ false) × (q.member ≡ any (is_node q.node.0) sync)

    fresh : All Fresh (with_rows me sync w.holders [])
    fresh = each_row me sync Fresh w.holders (λ p u ne. (refl, refl, refl)) [] tt

    none_any : (l : List Peer) → All (λ (q : Peer). of_node me q ≡ false) l → any (of_node me) l ≡ false
    none_any [] h = refl
    none_any (q ∷ qs) h = rw h.0 (none_any qs h.1)

    as_every : (l : List Peer) → All (λ (q : Peer). is_holder w q ≡ true) l → every (is_holder w) l ≡ true
    as_every [] h = refl
    as_every (q ∷ qs) h = every_cons (is_holder w) q qs h.0 (as_every qs h.1)
