-- What each turn of a walk through hits or answers leaves to be decided or counted. Assumes nothing.
use Prim.Native.Nat.{ℕ, zero, suc, ◌+◌, ◌-◌, ◌*◌, ◌≤◌, ◌<◌}
use mathlib.Core.Path.{◌≡◌, refl, sym, ap, ◌∙◌}
use mathlib.Core.Bool.{Bool, true, false}
use mathlib.Core.List.{List, ◌∷◌}
use native.Mathlib.Omega.{arith}
use lib.ListN.{length, length-append}
use borrow.Author.Tests.{lt-ltb, le-ltb}
use Rattle.spec.specs.Lists.{◌and◌, every, rising}
use Rattle.spec.specs.Layout.Format.{number_at}
use Rattle.spec_join.specs.Join.{Hit, Answer, nearer_hit, in_order, shard_below, all_hits}
use Rattle.calls_join.specs.View.{hit_at, hits_at, count_at, answer_at, after_at, answers_at}
use Rattle.calls_join.proofs.Bytes.{answers-first, answers-next, hits-next, hits-length}

module _ (s : List ℕ) where
  -- ---- hits in order
  two-hits : (n p i : ℕ) → 0 < i → i < n
      → hits_at s (n - (i - 1)) (p + 12 * (i - 1)) ≡ hit_at s (p + 12 * (i - 1)) ∷ hit_at s (p + 12 * i) ∷ hits_at s (n - (i + 1)) (p + 12 * (i + 1))
  two-hits n p i g h =
      let e : i - 1 + 1 ≡ i = omega arith in
      hits-next s n p (i - 1) (omega arith)
      ∙ ap (λ (j : ℕ). hit_at s (p + 12 * (i - 1)) ∷ hits_at s (n - j) (p + 12 * j)) e
      ∙ ap (λ (l : List Hit). hit_at s (p + 12 * (i - 1)) ∷ l) (hits-next s n p i h)

  pub order_stop : (n p i : ℕ) → 0 < i → i < n → nearer_hit (hit_at s (p + 12 * i)) (hit_at s (p + 12 * (i - 1))) ≡ true
      → in_order (hits_at s (n - (i - 1)) (p + 12 * (i - 1))) ≡ false
  unfolding in_order ◌and◌
  order_stop n p i g h e = ap in_order (two-hits n p i g h) ∙ rw e

  pub order_on : (n p i : ℕ) → 0 < i → i < n → nearer_hit (hit_at s (p + 12 * i)) (hit_at s (p + 12 * (i - 1))) ≡ false
      → in_order (hits_at s (n - (i - 1)) (p + 12 * (i - 1))) ≡ in_order (hits_at s (n - (i + 1 - 1)) (p + 12 * (i + 1 - 1)))
  unfolding in_order ◌and◌
  order_on n p i g h e =
      let z : i ≡ i + 1 - 1 = omega arith in
      ap in_order (two-hits n p i g h)
      ∙ rw e (sym (ap in_order (hits-next s n p i h)))
      ∙ ap (λ (j : ℕ). in_order (hits_at s (n - j) (p + 12 * j))) z

  pub order_end : (n p : ℕ) → n ≤ 1 → in_order (hits_at s n p) ≡ true
  unfolding in_order hits_at
  order_end zero p h = refl
  order_end (suc zero) p h = refl
  order_end (suc (suc n)) p h = absurd (omega arith)

  -- ---- shards that rise, the i-th of n answers after the one at p
  two-answers : (n i p : ℕ) → 0 < i → i < n
      → answers_at s (n + 1 - i) p ≡ answer_at s p ∷ answer_at s (after_at s p) ∷ answers_at s (n - (i + 1)) (after_at s (after_at s p))
  two-answers n i p g h =
      let z : n + 1 - i - 1 ≡ n - i = omega arith in
      answers-first s (n + 1 - i) p (omega arith)
      ∙ ap (λ (m : ℕ). answer_at s p ∷ answers_at s m (after_at s p)) z
      ∙ ap (λ (l : List Answer). answer_at s p ∷ l) (answers-next s n i (after_at s p) h)

  pub rise_stop : (n i p : ℕ) → 0 < i → i < n → number_at 4 s (after_at s p) ≤ number_at 4 s p → rising shard_below (answers_at s (n + 1 - i) p) ≡ false
  unfolding rising ◌and◌
  rise_stop n i p g h l = ap (rising shard_below) (two-answers n i p g h) ∙ rw (le-ltb (number_at 4 s p) (number_at 4 s (after_at s p)) l)

  pub rise-on : (n i p : ℕ) → 0 < i → i < n → number_at 4 s p < number_at 4 s (after_at s p)
      → rising shard_below (answers_at s (n + 1 - i) p) ≡ rising shard_below (answers_at s (n + 1 - (i + 1)) (after_at s p))
  unfolding rising ◌and◌
  rise-on n i p g h l =
      let z : n - i ≡ n + 1 - (i + 1) = omega arith in
      ap (rising shard_below) (two-answers n i p g h)
      ∙ rw (lt-ltb (number_at 4 s p) (number_at 4 s (after_at s p)) l) (sym (ap (rising shard_below) (answers-next s n i (after_at s p) h)))
      ∙ ap (λ (m : ℕ). rising shard_below (answers_at s m (after_at s p))) z

  pub rise-end : (n p : ℕ) → n ≤ 1 → rising shard_below (answers_at s n p) ≡ true
  unfolding rising answers_at
  rise-end zero p h = refl
  rise-end (suc zero) p h = refl
  rise-end (suc (suc n)) p h = absurd (omega arith)

  -- ---- every hit
  module _ (ok : Hit → Bool) where
    pub hits_stop : (n p i : ℕ) → i < n → ok (hit_at s (p + 12 * i)) ≡ false → every ok (hits_at s (n - i) (p + 12 * i)) ≡ false
    unfolding every
    hits_stop n p i h e = ap (every ok) (hits-next s n p i h) ∙ rw e

    pub hits-on : (n p i : ℕ) → i < n → ok (hit_at s (p + 12 * i)) ≡ true
        → every ok (hits_at s (n - i) (p + 12 * i)) ≡ every ok (hits_at s (n - (i + 1)) (p + 12 * (i + 1)))
    unfolding every
    hits-on n p i h e = ap (every ok) (hits-next s n p i h) ∙ rw e

    pub hits-end : (n p : ℕ) → n ≤ 0 → every ok (hits_at s n p) ≡ true
    unfolding every hits_at
    hits-end zero p h = refl
    hits-end (suc n) p h = absurd (omega arith)

  -- ---- every answer
  module _ (ok : Answer → Bool) where
    pub answers_stop : (n i p : ℕ) → i < n → ok (answer_at s p) ≡ false → every ok (answers_at s (n - i) p) ≡ false
    unfolding every
    answers_stop n i p h e = ap (every ok) (answers-next s n i p h) ∙ rw e

    pub answers-on : (n i p : ℕ) → i < n → ok (answer_at s p) ≡ true → every ok (answers_at s (n - i) p) ≡ every ok (answers_at s (n - (i + 1)) (after_at s p))
    unfolding every
    answers-on n i p h e = ap (every ok) (answers-next s n i p h) ∙ rw e

    pub answers-end : (n p : ℕ) → n ≤ 0 → every ok (answers_at s n p) ≡ true
    unfolding every answers_at
    answers-end zero p h = refl
    answers-end (suc n) p h = absurd (omega arith)

  -- ---- all hits
  pub total-on : (n i p : ℕ) → i < n
      → length (all_hits (answers_at s (n - i) p)) ≡ count_at s p + length (all_hits (answers_at s (n - (i + 1)) (after_at s p)))
  unfolding all_hits
  total-on n i p h =
      ap (λ (l : List Answer). length (all_hits l)) (answers-next s n i p h)
      ∙ length-append (hits_at s (count_at s p) (p + 6)) (all_hits (answers_at s (n - (i + 1)) (after_at s p)))
      ∙ ap (λ (m : ℕ). m + length (all_hits (answers_at s (n - (i + 1)) (after_at s p)))) (hits-length s (count_at s p) (p + 6))

  pub total-end : (n p : ℕ) → n ≤ 0 → length (all_hits (answers_at s n p)) ≡ 0
  unfolding all_hits answers_at
  total-end zero p h = refl
  total-end (suc n) p h = absurd (omega arith)
