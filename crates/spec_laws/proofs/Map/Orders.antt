-- The orders of the tables' keys: numbers, names and shard keys. Assumes nothing.
use mathlib.Core.Path.{◌≡◌, refl, sym, ap, ◌∙◌, subst}
use mathlib.Core.Bool.{Bool, true, false, cond}
use mathlib.Core.List.{List, [], ◌∷◌}
use mathlib.Core.Logic.{◌⊎◌, inl, inr}
use Prim.Native.Nat.{ℕ, ◌<◌, ◌≤◌}
use native.Mathlib.Omega.{arith}
use lib.Dec.{eqb, ltb}
use borrow.Author.Tests.{ltb-true, ltb-false, lt-ltb, le-ltb, eqb-true, eq-eqb}
use Rattle.spec.specs.Lists.{◌and◌, ◌or◌}
use Rattle.spec.specs.Keys.{Name, name_below, same_name, Key, key_below, same_key}
use Rattle.spec.specs.Map.Tables.{NodeInfo, Collection, ShardInfo, Session}
use Rattle.spec.specs.Map.Change.{id_below}
use Rattle.spec.specs.Map.Create.{collection_below, shard_below}
use Rattle.spec.specs.Map.Apply.{node_below, session_below}
use Rattle.spec_laws.proofs.Lists.{not_both}
use Rattle.spec_laws.proofs.Rising.{ByKey}
use Rattle.spec.specs.declared.DataNodeId.{DataNodeId}

-- a strict order of keys that tells apart all that differ
pub record Order {ℓ} {K : Type ℓ} (below : K → K → Bool) : Type ℓ where
  pub apart : (a b : K) → below a b ≡ true → below b a ≡ false
  pub along : (a b c : K) → below a b ≡ true → below b c ≡ true → below a c ≡ true
  pub level : (a b : K) → below a b ≡ false → below b a ≡ false → a ≡ b

-- rows by such a key
pub by_key_lem {ℓ κ} : {A : Type ℓ} {K : Type κ} (below : K → K → Bool) (o : Order below) (k : A → K) → ByKey (λ (a b : A). below (k a) (k b))
by_key_lem {K = K} below o k = record {
  through = λ a b c. o.along (k a) (k b) (k c);
  level = λ a b c p q r. subst (λ (v : K). below (k c) v ≡ true) (sym (o.level (k a) (k b) p q)) r;
  level' = λ a b c p q r. subst (λ (v : K). below v (k c) ≡ true) (sym (o.level (k a) (k b) p q)) r;
}

pub numbers : Order ltb
numbers = record {
  apart = λ a b p. le-ltb b a (omega (arith, ltb-true a b p));
  along = λ a b c p q. lt-ltb a c (omega (arith, ltb-true a b p, ltb-true b c q));
  level = λ a b p q. omega (arith, ltb-false a b p, ltb-false b a q);
}

-- ---- names

name-apart : (a b : Name) → name_below a b ≡ true → name_below b a ≡ false
unfolding name_below
name-apart [] [] = λ e. not_both false e refl
name-apart [] (y ∷ ys) = λ e. refl
name-apart (x ∷ xs) [] = λ e. not_both false e refl
name-apart (x ∷ xs) (y ∷ ys) = go (ltb x y) (ltb y x) refl refl (name-apart xs ys)
  where
    go : (p q : Bool) → ltb x y ≡ p → ltb y x ≡ q → (name_below xs ys ≡ true → name_below ys xs ≡ false)
        → cond p true (cond q false (name_below xs ys)) ≡ true → cond q true (cond p false (name_below ys xs)) ≡ false
    go true true p q more e = absurd (omega (arith, ltb-true x y p, ltb-true y x q))
    go true false p q more e = refl
    go false true p q more e = not_both false e refl
    go false false p q more e = more e

name-level : (a b : Name) → name_below a b ≡ false → name_below b a ≡ false → a ≡ b
unfolding name_below
name-level [] [] = λ e f. refl
name-level [] (y ∷ ys) = λ e f. not_both true refl e
name-level (x ∷ xs) [] = λ e f. not_both true refl f
name-level (x ∷ xs) (y ∷ ys) = go (ltb x y) (ltb y x) refl refl (name-level xs ys)
  where
    go : (p q : Bool) → ltb x y ≡ p → ltb y x ≡ q → (name_below xs ys ≡ false → name_below ys xs ≡ false → xs ≡ ys)
        → cond p true (cond q false (name_below xs ys)) ≡ false → cond q true (cond p false (name_below ys xs)) ≡ false → x ∷ xs ≡ y ∷ ys
    go true q p q' more e f = not_both true refl e
    go false true p q more e f = not_both true refl f
    go false false p q more e f =
        let h : x ≡ y = omega (arith, ltb-false x y p, ltb-false y x q) in
        rw (h, more e f)

name_along : (a b c : Name) → name_below a b ≡ true → name_below b c ≡ true → name_below a c ≡ true
unfolding name_below
name_along [] [] c = λ e f. not_both false e refl
name_along [] (y ∷ ys) [] = λ e f. not_both false f refl
name_along [] (y ∷ ys) (z ∷ zs) = λ e f. refl
name_along (x ∷ xs) [] c = λ e f. not_both false e refl
name_along (x ∷ xs) (y ∷ ys) [] = λ e f. not_both false f refl
name_along (x ∷ xs) (y ∷ ys) (z ∷ zs) = go (ltb x y) (ltb y x) (ltb y z) (ltb z y) refl refl refl refl (name_along xs ys zs)
  where
    go : (p q r s : Bool) → ltb x y ≡ p → ltb y x ≡ q → ltb y z ≡ r → ltb z y ≡ s
        → (name_below xs ys ≡ true → name_below ys zs ≡ true → name_below xs zs ≡ true)
        → cond p true (cond q false (name_below xs ys)) ≡ true → cond r true (cond s false (name_below ys zs)) ≡ true
        → cond (ltb x z) true (cond (ltb z x) false (name_below xs zs)) ≡ true
    go true q true s p q' r s' more e f = rw (lt-ltb x z (omega (arith, ltb-true x y p, ltb-true y z r)))
    go true q false true p q' r s more e f = not_both false f refl
    go true q false false p q' r s more e f = rw (lt-ltb x z (omega (arith, ltb-true x y p, ltb-false y z r, ltb-false z y s)))
    go false true r s p q r' s' more e f = not_both false e refl
    go false false true s p q r s' more e f = rw (lt-ltb x z (omega (arith, ltb-false x y p, ltb-false y x q, ltb-true y z r)))
    go false false false true p q r s more e f = not_both false f refl
    go false false false false p q r s more e f =
        rw (
          le-ltb x z (omega (arith, ltb-false x y p, ltb-false y x q, ltb-false y z r, ltb-false z y s)),
          le-ltb z x (omega (arith, ltb-false x y p, ltb-false y x q, ltb-false y z r, ltb-false z y s)),
        )
        (more e f)

pub names : Order name_below
names = record { apart = name-apart; along = name_along; level = name-level }

pub same-name : (a b : Name) → same_name a b ≡ true → a ≡ b
unfolding same_name ◌and◌
same-name [] [] = λ e. refl
same-name [] (y ∷ ys) = λ e. not_both false e refl
same-name (x ∷ xs) [] = λ e. not_both false e refl
same-name (x ∷ xs) (y ∷ ys) = go (eqb x y) refl (same-name xs ys)
  where
    go : (p : Bool) → eqb x y ≡ p → (same_name xs ys ≡ true → xs ≡ ys) → p and same_name xs ys ≡ true → x ∷ xs ≡ y ∷ ys
    go true p more e = rw (eqb-true x y p, more e)
    go false p more e = not_both false e refl

pub name-same : (a : Name) → same_name a a ≡ true
unfolding same_name ◌and◌
name-same [] = refl
name-same (x ∷ xs) = rw (eq-eqb x x refl) (name-same xs)

-- a name stands not below itself
pub name_not_below : (a : Name) → name_below a a ≡ false
name_not_below a = go (name_below a a) refl
  where
    go : (b : Bool) → name_below a a ≡ b → b ≡ false
    go true e = not_both (name_below a a) e (name-apart a a e)
    go false e = refl

-- ---- keys

-- a key is its name and its number
key_of : (a b : Key) → a.collection ≡ b.collection → a.shard ≡ b.shard → a ≡ b
key_of a b e f =
    ap {B = Key} (λ (n : Name). record { collection = n; shard = a.shard }) e
    ∙ ap {B = Key} (λ (i : ℕ). record { collection = b.collection; shard = i }) f

pub same_key_lem : (a b : Key) → same_key a b ≡ true → a ≡ b
unfolding same_key ◌and◌
same_key_lem a b = go (same_name a.collection b.collection) refl
  where
    go : (p : Bool) → same_name a.collection b.collection ≡ p → p and eqb a.shard b.shard ≡ true → a ≡ b
    go true p e = key_of a b (same-name _ _ p) (eqb-true _ _ e)
    go false p e = not_both false e refl

pub key-same : (a : Key) → same_key a a ≡ true
unfolding same_key ◌and◌
key-same a = rw (name-same a.collection, eq-eqb a.shard a.shard refl)

-- by name, then by number
key_below_lem : (a b : Key) → key_below a b ≡ true → (name_below a.collection b.collection ≡ true) ⊎ ((a.collection ≡ b.collection) × (a.shard < b.shard))
unfolding key_below ◌and◌ ◌or◌
key_below_lem a b = go (name_below a.collection b.collection) (same_name a.collection b.collection) refl refl
  where
    go : (p q : Bool) → name_below a.collection b.collection ≡ p → same_name a.collection b.collection ≡ q
        → p or (q and ltb a.shard b.shard) ≡ true
        → (name_below a.collection b.collection ≡ true) ⊎ ((a.collection ≡ b.collection) × (a.shard < b.shard))
    go true q p q' e = inl p
    go false true p q e = inr (same-name _ _ q, ltb-true _ _ e)
    go false false p q e = not_both false e refl

below_key_lem : (a b : Key) → (name_below a.collection b.collection ≡ true) ⊎ ((a.collection ≡ b.collection) × (a.shard < b.shard)) → key_below a b ≡ true
unfolding key_below ◌and◌ ◌or◌
below_key_lem a b (inl p) = rw p
below_key_lem a b (inr q) = rw (q.0, name_not_below b.collection, name-same b.collection, lt-ltb _ _ q.1)

not_below : (a b : Key) → name_below a.collection b.collection ≡ false → (a.collection ≡ b.collection → b.shard ≤ a.shard) → key_below a b ≡ false
unfolding key_below ◌and◌ ◌or◌
not_below a b p h = go (same_name a.collection b.collection) refl
  where
    go : (q : Bool) → same_name a.collection b.collection ≡ q
        → name_below a.collection b.collection or (q and ltb a.shard b.shard) ≡ false
    go true q = rw (p, le-ltb _ _ (h (same-name _ _ q)))
    go false q = rw p

-- two names of which the first stands below are not the same
name_differs : (a b : Name) → name_below a b ≡ true → a ≡ b → ⊥
name_differs a b p e = not_both (name_below b b) (subst (λ (v : Name). name_below v b ≡ true) e p) (name_not_below b)

key_apart : (a b : Key) → key_below a b ≡ true → key_below b a ≡ false
key_apart a b p = go (key_below_lem a b p)
  where
    go : (name_below a.collection b.collection ≡ true) ⊎ ((a.collection ≡ b.collection) × (a.shard < b.shard)) → key_below b a ≡ false
    go (inl q) = not_below b a (name-apart _ _ q) (λ e. absurd (name_differs _ _ q (sym e)))
    go (inr q) = not_below b a (subst (λ (v : Name). name_below b.collection v ≡ false) (sym q.0) (name_not_below b.collection)) (λ e. omega (arith, q.1))

key_along : (a b c : Key) → key_below a b ≡ true → key_below b c ≡ true → key_below a c ≡ true
key_along a b c p q = below_key_lem a c (go (key_below_lem a b p) (key_below_lem b c q))
  where
    go : (name_below a.collection b.collection ≡ true) ⊎ ((a.collection ≡ b.collection) × (a.shard < b.shard))
        → (name_below b.collection c.collection ≡ true) ⊎ ((b.collection ≡ c.collection) × (b.shard < c.shard))
        → (name_below a.collection c.collection ≡ true) ⊎ ((a.collection ≡ c.collection) × (a.shard < c.shard))
    go (inl u) (inl v) = inl (name_along _ _ _ u v)
    go (inl u) (inr v) = inl (subst (λ (n : Name). name_below a.collection n ≡ true) v.0 u)
    go (inr u) (inl v) = inl (subst (λ (n : Name). name_below n c.collection ≡ true) (sym u.0) v)
    go (inr u) (inr v) = inr (u.0 ∙ v.0, omega (arith, u.1, v.1))

key-level : (a b : Key) → key_below a b ≡ false → key_below b a ≡ false → a ≡ b
key-level a b p q = key_of a b same (number same)
  where
    above : (x y : Key) → key_below x y ≡ false → name_below x.collection y.collection ≡ false
    above x y h = go (name_below x.collection y.collection) refl
      where
        go : (t : Bool) → name_below x.collection y.collection ≡ t → t ≡ false
        go true e = not_both (key_below x y) (below_key_lem x y (inl e)) h
        go false e = refl

    same : a.collection ≡ b.collection
    same = name-level _ _ (above a b p) (above b a q)

    least : (x y : Key) → key_below x y ≡ false → x.collection ≡ y.collection → y.shard ≤ x.shard
    least x y h e = go (ltb x.shard y.shard) refl
      where
        go : (t : Bool) → ltb x.shard y.shard ≡ t → y.shard ≤ x.shard
        go true t = not_both (key_below x y) (below_key_lem x y (inr (e, ltb-true _ _ t))) h
        go false t = ltb-false _ _ t

    number : a.collection ≡ b.collection → a.shard ≡ b.shard
    number e = omega (arith, least a b p e, least b a q (sym e))

pub keys : Order key_below
keys = record { apart = key_apart; along = key_along; level = key-level }

-- ---- the tables' rows

pub nodes_by_id : ByKey node_below
nodes_by_id = by_key_lem ltb numbers (λ (i : NodeInfo). i.node)

pub ids : ByKey id_below
ids = by_key_lem ltb numbers (λ (d : DataNodeId). d.0)

pub collections_by_name : ByKey collection_below
collections_by_name = by_key_lem name_below names (λ (c : Collection). c.name)

pub shards_by_key : ByKey shard_below
shards_by_key = by_key_lem key_below keys (λ (s : ShardInfo). s.key)

pub sessions_by_client : ByKey session_below
sessions_by_client = by_key_lem ltb numbers (λ (s : Session). s.client)
