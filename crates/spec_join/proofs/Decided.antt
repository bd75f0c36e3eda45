-- Paper 02, 2.2: 28, 29 and 23 are told exactly where they are due, in that order. Assumes nothing.
use mathlib.Core.Path.{◌≡◌, refl, sym, ap, ◌∙◌, subst}
use mathlib.Core.Bool.{Bool, true, false, not, cond}
use mathlib.Core.List.{List, [], ◌∷◌}
use mathlib.Core.Option.{some}
use Prim.Native.Nat.{ℕ, zero, suc, ◌≤◌, ◌<◌, min}
use native.Mathlib.Omega.{arith}
use borrow.Author.Tests.{eqb-true, eq-eqb, ne_eqb, eqb-false, leb-true, leb-false, le-leb, lt-leb, ltb-true, lt-ltb}
use lib.Dec.{eqb, ltb, leb}
use lib.ListN.{length}
use Rattle.spec.specs.Lists.{◌and◌, nth, every, any, rising}
use Rattle.spec.specs.Layout.ShardOf.{shard_of}
use Rattle.spec_laws.proofs.Lists.{and_true, and_left, and_right, not_both, some_same, nth-nil}
use Rattle.spec_laws.proofs.Map.Rows.{every_tail, every_cons}
use Rattle.spec_join.specs.Join.{Hit, Answer, nearer_hit, in_order, apart, shard_below, sound_answer, sound, owned, all_hits, joined, Joined, found, undecodable, outOfOrder, otherShard, no_room, join_answers}
use Rattle.spec_join.specs.Words.{InOrder, Apart, Sound, Owned}
use Rattle.spec_join.proofs.Joins.{joined_length}

-- ---- lists
module _ {A : Type 0} where
  pub every-at : (p : A → Bool) (l : List A) → every p l ≡ true → (i : ℕ) (x : A) → nth l i ≡ some x → p x ≡ true
  unfolding nth
  every-at p [] h i x e = nth-nil i x e
  every-at p (y ∷ l) h zero x e = subst (λ (z : A). p z ≡ true) (some_same e) (every_tail p y l h).0
  every-at p (y ∷ l) h (suc i) x e = every-at p l (every_tail p y l h).1 i x e

  pub at_every : (p : A → Bool) (l : List A) → ((i : ℕ) (x : A) → nth l i ≡ some x → p x ≡ true) → every p l ≡ true
  unfolding nth every
  at_every p [] h = refl
  at_every p (y ∷ l) h = every_cons p y l (h 0 y refl) (at_every p l (λ i. h (suc i)))

  any_at : (p : A → Bool) (l : List A) → any p l ≡ false → (i : ℕ) (x : A) → nth l i ≡ some x → p x ≡ false
  unfolding nth any
  any_at p [] h i x e = nth-nil i x e
  any_at p (y ∷ l) h i x e = go (p y) refl h i e (any_at p l)
    where
      go : (b : Bool) → p y ≡ b → cond b true (any p l) ≡ false → (i : ℕ) → nth (y ∷ l) i ≡ some x
          → (any p l ≡ false → (i : ℕ) (x : A) → nth l i ≡ some x → p x ≡ false) → p x ≡ false
      go true q h i e ih = not_both true refl h
      go false q h zero e ih = subst (λ (z : A). p z ≡ false) (some_same e) q
      go false q h (suc i) e ih = ih h i x e

  at-any : (p : A → Bool) (l : List A) → ((i : ℕ) (x : A) → nth l i ≡ some x → p x ≡ false) → any p l ≡ false
  unfolding nth any
  at-any p [] h = refl
  at-any p (y ∷ l) h = rw (h 0 y refl) (at-any p l (λ i. h (suc i)))

  rising-at : (lt : A → A → Bool) (l : List A) → rising lt l ≡ true → (i : ℕ) (x y : A) → nth l i ≡ some x → nth l (suc i) ≡ some y → lt x y ≡ true
  unfolding nth rising
  rising-at lt [] h i x y e f = nth-nil i x e
  rising-at lt (a ∷ []) h i x y e f = nth-nil i y f
  rising-at lt (a ∷ b ∷ l) h zero x y e f =
      subst (λ (z : A). lt z y ≡ true) (some_same e) (subst (λ (z : A). lt a z ≡ true) (some_same f) (and_left (lt a b) (rising lt (b ∷ l)) h))
  rising-at lt (a ∷ b ∷ l) h (suc i) x y e f = rising-at lt (b ∷ l) (and_right (lt a b) (rising lt (b ∷ l)) h) i x y e f

  at-rising : (lt : A → A → Bool) (l : List A) → ((i : ℕ) (x y : A) → nth l i ≡ some x → nth l (suc i) ≡ some y → lt x y ≡ true) → rising lt l ≡ true
  unfolding nth rising
  at-rising lt [] h = refl
  at-rising lt (a ∷ []) h = refl
  at-rising lt (a ∷ b ∷ l) h = and_true (lt a b) (rising lt (b ∷ l)) (h 0 a b refl refl) (at-rising lt (b ∷ l) (λ i. h (suc i)))

-- ---- one answer
not_true : (b : Bool) → not b ≡ true → b ≡ false
not_true true h = not_both true refl (sym h)
not_true false h = refl

pub order_says : (l : List Hit) → in_order l ≡ true → InOrder l
unfolding nth in_order
order_says [] h i x y e f = nth-nil i x e
order_says (a ∷ []) h i x y e f = nth-nil i y f
order_says (a ∷ b ∷ l) h zero x y e f =
    subst (λ (z : Hit). nearer_hit y z ≡ false) (some_same e)
    (subst (λ (z : Hit). nearer_hit z a ≡ false) (some_same f) (not_true (nearer_hit b a) (and_left (not (nearer_hit b a)) (in_order (b ∷ l)) h)))
order_says (a ∷ b ∷ l) h (suc i) x y e f = order_says (b ∷ l) (and_right (not (nearer_hit b a)) (in_order (b ∷ l)) h) i x y e f

pub order_holds : (l : List Hit) → InOrder l → in_order l ≡ true
unfolding nth in_order
order_holds [] h = refl
order_holds (a ∷ []) h = refl
order_holds (a ∷ b ∷ l) h = and_true (not (nearer_hit b a)) (in_order (b ∷ l)) (ap not (h 0 a b refl refl)) (order_holds (b ∷ l) (λ i. h (suc i)))

abbrev same_id : Hit → Hit → Bool
same_id x y = eqb y.id x.id

pub apart_says : (l : List Hit) → apart l ≡ true → Apart l
unfolding nth apart
apart_says [] h i j x y lt e f = nth-nil i x e
apart_says (a ∷ l) h zero zero x y lt e f = absurd (omega arith)
apart_says (a ∷ l) h (suc i) zero x y lt e f = absurd (omega arith)
apart_says (a ∷ l) h zero (suc j) x y lt e f = λ q.
    (let z : a ≡ x = some_same e in
    eqb-false y.id a.id (any_at (same_id a) l (not_true (any (same_id a) l) (and_left (not (any (same_id a) l)) (apart l) h)) j y f)
    (q ∙ ap (λ (w : Hit). w.id) (sym z)))
apart_says (a ∷ l) h (suc i) (suc j) x y lt e f = apart_says l (and_right (not (any (same_id a) l)) (apart l) h) i j x y (omega arith) e f

pub apart-holds : (l : List Hit) → Apart l → apart l ≡ true
unfolding nth apart
apart-holds [] h = refl
apart-holds (a ∷ l) h =
    and_true (not (any (same_id a) l)) (apart l)
    (ap not (at-any (same_id a) l (λ j y f. ne_eqb y.id a.id (h 0 (suc j) a y (omega arith) refl f))))
    (apart-holds l (λ i j x y lt. h (suc i) (suc j) x y (omega arith)))

-- ---- all answers
pub sound_says : (xs : List Answer) → sound xs ≡ true → Sound xs
unfolding sound
sound_says xs h =
    let rest = and_right (leb (length xs) 16) (rising shard_below xs and every sound_answer xs) h in
    let each = every-at sound_answer xs (and_right (rising shard_below xs) (every sound_answer xs) rest) in
    record {
      few = leb-true (length xs) 16 (and_left (leb (length xs) 16) (rising shard_below xs and every sound_answer xs) h);
      rise =
          λ i a b e f.
          ltb-true a.shard b.shard (rising-at shard_below xs (and_left (rising shard_below xs) (every sound_answer xs) rest) i a b e f);
      order = λ i a e. order_says a.hits (and_left (in_order a.hits) (apart a.hits) (each i a e));
      once = λ i a e. apart_says a.hits (and_right (in_order a.hits) (apart a.hits) (each i a e));
    }

pub sound-holds : (xs : List Answer) → Sound xs → sound xs ≡ true
unfolding sound
sound-holds xs s =
    and_true (leb (length xs) 16) (rising shard_below xs and every sound_answer xs) (le-leb (length xs) 16 s.few)
    (and_true (rising shard_below xs) (every sound_answer xs)
    (at-rising shard_below xs (λ i a b e f. lt-ltb a.shard b.shard (s.rise i a b e f)))
    (at_every sound_answer xs (λ i a e. and_true (in_order a.hits) (apart a.hits) (order_holds a.hits (s.order i a e)) (apart-holds a.hits (s.once i a e)))))

abbrev own_hit : ℕ → Answer → Hit → Bool
own_hit shards a h = eqb (shard_of h.id shards) a.shard

pub owned_says : (shards : ℕ) (xs : List Answer) → owned shards xs ≡ true → Owned shards xs
unfolding owned
owned_says shards xs h i a e j x f =
    eqb-true (shard_of x.id shards) a.shard
    (every-at (own_hit shards a) a.hits (every-at (λ (b : Answer). every (own_hit shards b) b.hits) xs h i a e) j x f)

pub owned-holds : (shards : ℕ) (xs : List Answer) → Owned shards xs → owned shards xs ≡ true
unfolding owned
owned-holds shards xs h =
    at_every (λ (b : Answer). every (own_hit shards b) b.hits) xs
    (λ i a e. at_every (own_hit shards a) a.hits (λ j x f. eq-eqb (shard_of x.id shards) a.shard (h i a e j x f)))

-- ---- what is told
module _ (shards k room : ℕ) (xs : List Answer) where
  abbrev told : Joined
  told = join_answers shards k room (some xs)

  -- where nothing is wrong
  pub record Fine : Type 0 where
    pub sounds : Sound xs
    pub owns : Owned shards xs
    pub fits : min k (length (all_hits xs)) ≤ room

  by_tests : (a b c : Bool) → sound xs ≡ a → owned shards xs ≡ b → leb (length (joined k xs)) room ≡ c
      → told ≡ cond a (cond b (cond c (found (joined k xs)) no_room) otherShard) outOfOrder
  unfolding join_answers
  by_tests a b c p q r = rw (p, q, r)

  pub tells_28 : (Sound xs → ⊥) → told ≡ outOfOrder
  tells_28 n = go (sound xs) refl
    where
      go : (a : Bool) → sound xs ≡ a → told ≡ outOfOrder
      go true p = absurd (n (sound_says xs p))
      go false p = by_tests false (owned shards xs) (leb (length (joined k xs)) room) p refl refl

  pub tells_29 : Sound xs → (Owned shards xs → ⊥) → told ≡ otherShard
  tells_29 s n = go (owned shards xs) refl
    where
      go : (b : Bool) → owned shards xs ≡ b → told ≡ otherShard
      go true q = absurd (n (owned_says shards xs q))
      go false q = by_tests true false (leb (length (joined k xs)) room) (sound-holds xs s) q refl

  pub tells_23 : Sound xs → Owned shards xs → room < min k (length (all_hits xs)) → told ≡ no_room
  tells_23 s o h =
      by_tests true true false (sound-holds xs s) (owned-holds shards xs o) (lt-leb (length (joined k xs)) room (let l = joined_length k xs in omega arith))

  pub tells-found : Fine → told ≡ found (joined k xs)
  tells-found f =
      by_tests true true true (sound-holds xs f.sounds) (owned-holds shards xs f.owns)
      (le-leb (length (joined k xs)) room (let l = joined_length k xs in let h = f.fits in omega arith))

  -- and only there
  pub told_28 : told ≡ outOfOrder → Sound xs → ⊥
  told_28 e s = go (owned shards xs) (leb (length (joined k xs)) room) refl refl
    where
      go : (b c : Bool) → owned shards xs ≡ b → leb (length (joined k xs)) room ≡ c → ⊥
      go true true q r = let d = by_tests true true true (sound-holds xs s) q r in let z : ◌≡◌ {A = ℕ} 0 1 = cc in omega arith
      go true false q r = let d = by_tests true true false (sound-holds xs s) q r in let z : ◌≡◌ {A = ℕ} 0 1 = cc in omega arith
      go false c q r = let d = by_tests true false c (sound-holds xs s) q r in let z : ◌≡◌ {A = ℕ} 0 1 = cc in omega arith

  pub told_29 : told ≡ otherShard → Sound xs × (Owned shards xs → ⊥)
  told_29 e = go (sound xs) (owned shards xs) (leb (length (joined k xs)) room) refl refl refl
    where
      go : (a b c : Bool) → sound xs ≡ a → owned shards xs ≡ b → leb (length (joined k xs)) room ≡ c → Sound xs × (Owned shards xs → ⊥)
      go true true true p q r = let d = by_tests true true true p q r in let z : ◌≡◌ {A = ℕ} 0 1 = cc in absurd (omega arith)
      go true true false p q r = let d = by_tests true true false p q r in let z : ◌≡◌ {A = ℕ} 0 1 = cc in absurd (omega arith)
      go true false c p q r = (sound_says xs p, λ o. not_both (owned shards xs) (owned-holds shards xs o) q)
      go false b c p q r = let d = by_tests false b c p q r in let z : ◌≡◌ {A = ℕ} 0 1 = cc in absurd (omega arith)
