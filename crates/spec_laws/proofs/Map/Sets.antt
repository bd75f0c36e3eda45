-- Laws of in_sync_lem sets and holders, asked only through `in_sync` and `holds` (state.rs, BTreeSet). Assumes nothing.
use mathlib.Core.Path.{◌≡◌, refl, sym, ap, ◌∙◌, subst}
use mathlib.Core.Bool.{Bool, true, false, cond, not}
use mathlib.Core.List.{List, [], ◌∷◌, ◌++◌}
use mathlib.Core.Option.{Option, none, some}
use Prim.Native.Nat.{ℕ, zero, suc, ◌+◌, ◌<◌, ◌≤◌}
use native.Mathlib.Omega.{arith}
use lib.ListN.{length, length-append}
use lib.Dec.{eqb, ltb}
use borrow.Author.Tests.{ltb-true, ltb-false, lt-ltb, le-ltb, eqb-true, eqb-false, eq-eqb, ne_eqb}
use Rattle.spec.specs.Lists.{◌and◌, any, every, filter, put, rising}
use Rattle.spec.specs.Map.Change.{node_id, id_below, is_id, is_on, holds, in_sync, without, deposed}
use Rattle.spec.specs.Map.Create.{add_all}
use Rattle.spec.specs.declared.DataNodeId.{DataNodeId}
use Rattle.spec.specs.declared.Replica.{Replica}
use Rattle.spec_laws.proofs.Lists.{by-test, not_both, and_left, and_right}
use Rattle.spec_laws.proofs.Map.Rows.{every_tail, every_cons, every_to, length-filter}
use Rattle.spec_laws.proofs.Rising.{rising_tail}
use Rattle.spec_laws.proofs.Map.Orders.{ids}

-- ---- any, over any element

module _ {ℓ} {A : Type ℓ} where
  pub any-filter : (p q : A → Bool) (l : List A) → ((x : A) → q x ≡ true → p x ≡ true) → any q (filter p l) ≡ any q l
  unfolding any filter
  any-filter p q [] h = refl
  any-filter p q (y ∷ ys) h = go (p y) (q y) refl refl (any-filter p q ys h)
    where
      go : (b c : Bool) → p y ≡ b → q y ≡ c → any q (filter p ys) ≡ any q ys → any q (cond b (y ∷ filter p ys) (filter p ys)) ≡ cond c true (any q ys)
      go true true e f more = rw f
      go true false e f more = rw f more
      go false true e f more = not_both (p y) (h y f) e
      go false false e f more = more

  pub any_filtered : (p q : A → Bool) (l : List A) → ((x : A) → q x ≡ true → p x ≡ false) → any q (filter p l) ≡ false
  unfolding any filter
  any_filtered p q [] h = refl
  any_filtered p q (y ∷ ys) h = go (p y) (q y) refl refl (any_filtered p q ys h)
    where
      go : (b c : Bool) → p y ≡ b → q y ≡ c → any q (filter p ys) ≡ false → any q (cond b (y ∷ filter p ys) (filter p ys)) ≡ false
      go true true e f more = not_both (p y) e (h y f)
      go true false e f more = rw f more
      go false c e f more = more

  pub any-put : (lt : A → A → Bool) (q : A → Bool) (x : A) (l : List A) → q x ≡ true → any q (put lt x l) ≡ true
  unfolding any put
  any-put lt q x [] h = rw h
  any-put lt q x (y ∷ ys) h =
      let more = any-put lt q x ys h in
      by-test (λ v. any q v ≡ true) (lt x y) (λ e. rw h)
      (λ e. by-test (λ v. any q v ≡ true) (lt y x) (λ f. by-test (λ v. v ≡ true) (q y) (λ g. refl) (λ g. more)) (λ f. rw h))

  pub any_put_other : (lt : A → A → Bool) (q : A → Bool) (x : A) (l : List A) → q x ≡ false
      → ((y : A) → lt x y ≡ false → lt y x ≡ false → q y ≡ false) → any q (put lt x l) ≡ any q l
  unfolding any put
  any_put_other lt q x [] h lev = rw h
  any_put_other lt q x (y ∷ ys) h lev =
      let more = any_put_other lt q x ys h lev in
      by-test (λ v. any q v ≡ any q (y ∷ ys)) (lt x y) (λ e. rw h)
      (λ e. by-test (λ v. any q v ≡ any q (y ∷ ys)) (lt y x) (λ f. ap (λ (v : Bool). cond (q y) true v) more) (λ f. rw (h, lev y e f)))

  pub any_append : (q : A → Bool) (l m : List A) → any q l ≡ true → any q (l ++ m) ≡ true
  unfolding any
  any_append q [] m h = not_both false h refl
  any_append q (y ∷ ys) m h = go (q y) (any_append q ys m) h
    where
      go : (b : Bool) → (any q ys ≡ true → any q (ys ++ m) ≡ true) → cond b true (any q ys) ≡ true → cond b true (any q (ys ++ m)) ≡ true
      go true more e = refl
      go false more e = more e

-- ---- the in_sync_lem set

module _ (n : ℕ) (ds : List DataNodeId) where
  same_id_lem : (d : DataNodeId) → is_id n d ≡ true → not (is_id n d) ≡ false
  same_id_lem d e = rw e

  -- a node taken out is out
  pub out_of_without : in_sync n (without n ds) ≡ false
  unfolding in_sync without
  out_of_without = any_filtered (λ d. not (is_id n d)) (is_id n) ds same_id_lem

  -- and no other is
  pub rest_of_without : (k : ℕ) → (k ≡ n → ⊥) → in_sync k (without n ds) ≡ in_sync k ds
  unfolding in_sync without
  rest_of_without k ne =
      any-filter (λ d. not (is_id n d)) (is_id k) ds (λ d e. rw (ne_eqb d.0 n (λ f. ne (sym (eqb-true d.0 k e) ∙ f))))

  -- a node put in is in
  pub in_put : in_sync n (put id_below (node_id n) ds) ≡ true
  unfolding in_sync
  in_put = any-put id_below (is_id n) (node_id n) ds (eq-eqb n n refl)

  -- and the others are as they were
  pub rest_of_put : (k : ℕ) → (k ≡ n → ⊥) → in_sync k (put id_below (node_id n) ds) ≡ in_sync k ds
  unfolding in_sync
  rest_of_put k ne =
      any_put_other id_below (is_id k) (node_id n) ds (ne_eqb n k (λ e. ne (sym e)))
      (λ d p q. ne_eqb d.0 k (λ e. ne (omega (arith, e, ltb-false n d.0 p, ltb-false d.0 n q))))

  -- Promote: another node that was primary is out
  pub old_primary_out : (p : ℕ) → (p ≡ n → ⊥) → in_sync p (deposed n (some p) ds) ≡ false
  unfolding deposed in_sync without
  old_primary_out p ne = rw (ne_eqb p n ne) (any_filtered (λ d. not (is_id p d)) (is_id p) ds (λ d e. rw e))

  -- and the rest of the set stays
  pub rest_of_deposed : (o : Option ℕ) (k : ℕ) → ((p : ℕ) → o ≡ some p → (p ≡ n → ⊥) → k ≡ p → ⊥) → in_sync k (deposed n o ds) ≡ in_sync k ds
  unfolding deposed in_sync without
  rest_of_deposed none k h = refl
  rest_of_deposed (some p) k h =
      by-test (λ (v : List DataNodeId). any (is_id k) v ≡ any (is_id k) ds) (eqb p n)
      (λ e. refl)
      (λ e. any-filter (λ d. not (is_id p d)) (is_id k) ds
      (λ d f. rw (ne_eqb d.0 p (λ g. h p refl (eqb-false p n e) (sym (eqb-true d.0 k f) ∙ g)))))

-- ---- the holders

-- more replicas hold no less
pub holds-append : (k : ℕ) (rs qs : List Replica) → holds k rs ≡ true → holds k (rs ++ qs) ≡ true
unfolding holds
holds-append k rs qs = any_append (is_on k) rs qs

-- ---- no more in sync than hold

module _ {ℓ} {A : Type ℓ} where
  every_both : (p q r : A → Bool) → ((x : A) → p x ≡ true → q x ≡ true → r x ≡ true) → (l : List A)
      → every p l ≡ true → every q l ≡ true → every r l ≡ true
  unfolding every
  every_both p q r f [] h k = refl
  every_both p q r f (y ∷ ys) h k =
      let s = every_tail p y ys h in
      let t = every_tail q y ys k in
      every_cons r y ys (f y s.0 t.0) (every_both p q r f ys s.1 t.1)

  -- leaving out something that is there makes a list shorter
  pub shorter : (p : A → Bool) (l : List A) → any p l ≡ true → length (filter (λ x. not (p x)) l) < length l
  unfolding any filter
  shorter p [] h = not_both false h refl
  shorter p (y ∷ ys) h = go (p y) (shorter p ys) h
    where
      go : (b : Bool) → (any p ys ≡ true → length (filter (λ x. not (p x)) ys) < length ys) → cond b true (any p ys) ≡ true
          → length (cond (not b) (y ∷ filter (λ x. not (p x)) ys) (filter (λ x. not (p x)) ys)) < suc (length ys)
      go true more e = omega (arith, length-filter (λ x. not (p x)) ys)
      go false more e = omega (arith, more e)

-- the replicas on other nodes stay
hold_kept : (n k : ℕ) (rs : List Replica) → (k ≡ n → ⊥) → holds k (filter (λ r. not (is_on n r)) rs) ≡ holds k rs
unfolding holds
hold_kept n k rs ne =
    any-filter (λ r. not (is_on n r)) (is_on k) rs (λ r e. rw (ne_eqb r.node.0 n (λ f. ne (sym (eqb-true r.node.0 k e) ∙ f))))

gone : (n : ℕ) (rs : List Replica) → holds n rs ≡ true → length (filter (λ r. not (is_on n r)) rs) < length rs
unfolding holds
gone n rs h = shorter (is_on n) rs h

-- ids that rise stand above the first
above_first : (d : DataNodeId) (ds : List DataNodeId) → rising id_below (d ∷ ds) ≡ true → every (id_below d) ds ≡ true
unfolding rising every
above_first d [] h = refl
above_first d (e ∷ es) h =
    let low = and_left (id_below d e) (rising id_below (e ∷ es)) h in
    let rest = and_right (id_below d e) (rising id_below (e ∷ es)) h in
    every_cons (id_below d) e es low
    (every_to (id_below e) (id_below d) (λ x q. lt-ltb d.0 x.0 (omega (arith, ltb-true d.0 e.0 low, ltb-true e.0 x.0 q))) es (above_first e es rest))

-- in_sync_lem nodes that rise and hold are no more than the replicas
pub few_in_sync : (ds : List DataNodeId) (rs : List Replica) → rising id_below ds ≡ true → every (λ (d : DataNodeId). holds d.0 rs) ds ≡ true
    → length ds ≤ length rs
few_in_sync [] rs h k = omega arith
few_in_sync (d ∷ ds) rs h k =
    let t = every_tail (λ (e : DataNodeId). holds e.0 rs) d ds k in
    let more = few_in_sync ds (filter (λ r. not (is_on d.0 r)) rs) (rising_tail id_below ids d ds h)
    (every_both (id_below d) (λ (e : DataNodeId). holds e.0 rs) (λ (e : DataNodeId). holds e.0 (filter (λ r. not (is_on d.0 r)) rs)) (keeps d) ds (above_first d ds h) t.1) in
    omega (arith, fewer d t.0, more)
  where
    keeps : (d e : DataNodeId) → id_below d e ≡ true → holds e.0 rs ≡ true → holds e.0 (filter (λ r. not (is_on d.0 r)) rs) ≡ true
    keeps d e low q = hold_kept d.0 e.0 rs (λ f. omega (arith, ltb-true d.0 e.0 low, f)) ∙ q

    fewer : (d : DataNodeId) → holds d.0 rs ≡ true → length (filter (λ r. not (is_on d.0 r)) rs) < length rs
    fewer d q = gone d.0 rs q
