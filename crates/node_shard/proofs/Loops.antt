-- Laws of the loops over a table in use, `take n xs`, over any element. Assumes nothing.
use mathlib.Core.List.{List, [], ◌∷◌, ◌++◌, map}
use mathlib.Core.Path.{◌≡◌, refl, ap, sym, ◌∙◌, subst, subst⁻¹}
use mathlib.Core.Bool.{Bool, true, false, cond}
use Prim.Native.Nat.{ℕ, suc, zero, ◌+◌, ◌-◌, ◌<◌, ◌≤◌}
use native.Mathlib.Numerals.{add-one}
use native.Mathlib.Omega.{arith}
use lib.ListN.{length, take, drop, get_or, set, drop_of_length-le}
use lib.Seq.{drop-cons, take-suc, take-suc-set, drop-set-lt, append_snoc, length-take-le, get_or-take, take-add, take_at, drop_at, take-append-add}
use Rattle.spec.specs.Lists.{◌and◌, lead, collect, every, any, rising}
use Rattle.node_shard.specs.View.{insert_at}

module _ {ℓ} {A : Type ℓ} where
  -- the element that a loop comes to, and the end
  pub used-next : (xs : List A) (n i : ℕ) (d : A) → n ≤ length xs → i < n → drop i (take n xs) ≡ get_or xs i d ∷ drop (i + 1) (take n xs)
  used-next xs n i d le h =
      drop-cons (take n xs) i d (rw (length-take-le n xs le) h) ∙ rw (add-one, get_or-take n xs i d h)

  pub used_over : (xs : List A) (n i : ℕ) → n ≤ length xs → n ≤ i → drop i (take n xs) ≡ []
  used_over xs n i le h = drop_of_length-le (take n xs) {i = i} (rw (length-take-le n xs le) h)

  pub take_next : (xs : List A) (i : ℕ) (d : A) → i < length xs → take (i + 1) xs ≡ take i xs ++ (get_or xs i d ∷ [])
  take_next xs i d h = rw add-one (take-suc xs i d h)

  pub take_put : (xs : List A) (i : ℕ) (a : A) → i < length xs → take (i + 1) (set xs i a) ≡ take i xs ++ (a ∷ [])
  take_put xs i a h = rw add-one (take-suc-set xs i a h)

module _ {ℓ} {A : Type ℓ} (p : A → Bool) (xs : List A) (n i : ℕ) (le : n ≤ length xs) where
  -- how many leading elements pass
  module _ (inv : lead p (take n xs) ≡ i + lead p (drop i (take n xs))) where
    pub lead-on : (d : A) → p (get_or xs i d) ≡ true → i < n → lead p (take n xs) ≡ (i + 1) + lead p (drop (i + 1) (take n xs))
    unfolding lead
    lead-on d e h = inv ∙ rw (used-next xs n i d le h, e) (omega arith)

    pub lead_stop : (d : A) → p (get_or xs i d) ≡ false → i < n → i ≡ lead p (take n xs)
    unfolding lead
    lead_stop d e h = sym (inv ∙ rw (used-next xs n i d le h, e) (omega arith))

    pub lead-end : n ≤ i → i ≡ lead p (take n xs)
    unfolding lead
    lead-end e = sym (inv ∙ rw (used_over xs n i le e) (omega arith))

  -- every element passes
  module _ (inv : every p (take n xs) ≡ every p (drop i (take n xs))) where
    pub every-on : (d : A) → p (get_or xs i d) ≡ true → i < n → every p (take n xs) ≡ every p (drop (i + 1) (take n xs))
    unfolding every
    every-on d e h = inv ∙ rw (used-next xs n i d le h, e)

    pub every_stop : (d : A) → p (get_or xs i d) ≡ false → i < n → false ≡ every p (take n xs)
    unfolding every
    every_stop d e h = sym (inv ∙ rw (used-next xs n i d le h, e))

    pub every-end : n ≤ i → true ≡ every p (take n xs)
    unfolding every
    every-end h = sym (inv ∙ rw (used_over xs n i le h))

  -- some element passes
  module _ (inv : any p (take n xs) ≡ any p (drop i (take n xs))) where
    pub any-on : (d : A) → p (get_or xs i d) ≡ false → i < n → any p (take n xs) ≡ any p (drop (i + 1) (take n xs))
    unfolding any
    any-on d e h = inv ∙ rw (used-next xs n i d le h, e)

    pub any_stop : (d : A) → p (get_or xs i d) ≡ true → i < n → true ≡ any p (take n xs)
    unfolding any
    any_stop d e h = sym (inv ∙ rw (used-next xs n i d le h, e))

    pub any-end : n ≤ i → false ≡ any p (take n xs)
    unfolding any
    any-end h = sym (inv ∙ rw (used_over xs n i le h))

pub lead-most {ℓ} : {A : Type ℓ} (p : A → Bool) (l : List A) → lead p l ≤ length l
unfolding lead
lead-most p [] = omega arith
lead-most p (y ∷ ys) = by-test (p y) (lead-most p ys)
  where
    by-test : (b : Bool) {m n : ℕ} → m ≤ n → cond b (suc m) zero ≤ suc n
    by-test true h = omega arith
    by-test false h = omega arith

-- a table made row by row
module _ {A B : Type 0} (f : A → B) where
  map-append : (l m : List A) → map f (l ++ m) ≡ map f l ++ map f m
  map-append [] m = refl
  map-append (y ∷ ys) m = ap (λ (l : List B). f y ∷ l) (map-append ys m)

  pub map_on : (xs : List A) (ys : List B) (i : ℕ) (d : A) (y : B) → take i ys ≡ map f (take i xs) → y ≡ f (get_or xs i d) → i < length xs → i < length ys
      → take (i + 1) (set ys i y) ≡ map f (take (i + 1) xs)
  map_on xs ys i d y inv e hx hy = take_put ys i y hy ∙ rw (take_next xs i d hx, map-append, inv, e)

-- those that pass, gathered
module _ {A B : Type 0} (p : A → Bool) (f : A → B) where
  collect-append : (l m : List A) → collect p f (l ++ m) ≡ collect p f l ++ collect p f m
  unfolding collect
  collect-append [] m = refl
  collect-append (y ∷ ys) m = by-test (p y) (collect p f (ys ++ m)) (collect p f ys) (collect p f m) (collect-append ys m)
    where
      by-test : (b : Bool) (k l n : List B) → k ≡ l ++ n → cond b (f y ∷ k) k ≡ cond b (f y ∷ l) l ++ n
      by-test true k l n e = ap (λ (x : List B). f y ∷ x) e
      by-test false k l n e = e

  pub collect-on : (xs : List A) (ys : List B) (n i : ℕ) (d : A) (y : B) → take n ys ≡ collect p f (take i xs) → p (get_or xs i d) ≡ true
      → y ≡ f (get_or xs i d) → i < length xs → n < length ys → take (n + 1) (set ys n y) ≡ collect p f (take (i + 1) xs)
  unfolding collect
  collect-on xs ys n i d y inv t e hx hy = take_put ys n y hy ∙ rw (take_next xs i d hx, collect-append, inv, e, t)

  append-nil : (l : List B) → l ++ [] ≡ l
  append-nil [] = refl
  append-nil (y ∷ ys) = ap (λ (l : List B). y ∷ l) (append-nil ys)

  pub collect_past : (xs : List A) (ys : List B) (n i : ℕ) (d : A) → take n ys ≡ collect p f (take i xs) → p (get_or xs i d) ≡ false → i < length xs
      → take n ys ≡ collect p f (take (i + 1) xs)
  unfolding collect
  collect_past xs ys n i d inv t hx = inv ∙ sym (rw (take_next xs i d hx, collect-append, t) (append-nil _))

-- a rising table, neighbour by neighbour
module _ {A : Type 0} (lt : A → A → Bool) (xs : List A) (n i : ℕ) (le : n ≤ length xs) (from : 1 ≤ i) where
  from_last : (d : A) → i ≤ n → drop (i - 1) (take n xs) ≡ get_or xs (i - 1) d ∷ drop i (take n xs)
  from_last d h =
      let e : i - 1 + 1 ≡ i = omega arith in
      used-next xs n (i - 1) d le (omega arith) ∙ ap (λ (j : ℕ). get_or xs (i - 1) d ∷ drop j (take n xs)) e

  module _ (inv : rising lt (take n xs) ≡ rising lt (drop (i - 1) (take n xs))) where
    two : (d : A) → i < n → rising lt (take n xs) ≡ (lt (get_or xs (i - 1) d) (get_or xs i d) and rising lt (drop i (take n xs)))
    unfolding rising
    two d h =
        inv ∙ ap (rising lt) (from_last d (omega arith) ∙ ap (λ (l : List A). get_or xs (i - 1) d ∷ l) (used-next xs n i d le h))
        ∙ ap (λ (l : List A). lt (get_or xs (i - 1) d) (get_or xs i d) and rising lt l) (sym (used-next xs n i d le h))

    pub rise-on : (d : A) → i < n → lt (get_or xs (i - 1) d) (get_or xs i d) ≡ true → rising lt (take n xs) ≡ rising lt (drop (i + 1 - 1) (take n xs))
    unfolding ◌and◌
    rise-on d h e =
        let q : i ≡ i + 1 - 1 = omega arith in
        two d h ∙ ap (λ (b : Bool). b and rising lt (drop i (take n xs))) e ∙ ap (λ (j : ℕ). rising lt (drop j (take n xs))) q

    pub rise_stop : (d : A) → i < n → lt (get_or xs (i - 1) d) (get_or xs i d) ≡ false → false ≡ rising lt (take n xs)
    unfolding ◌and◌
    rise_stop d h e = sym (two d h ∙ ap (λ (b : Bool). b and rising lt (drop i (take n xs))) e)

    pub rise-end : (d : A) → i ≡ n → true ≡ rising lt (take n xs)
    unfolding rising
    rise-end d e = sym (inv ∙ ap (rising lt) (from_last d (omega arith) ∙ ap (λ (l : List A). get_or xs (i - 1) d ∷ l) (used_over xs n i le (omega arith))))

-- one element put in, those behind it carried on
module _ {A : Type 0} where
  pub carry_on : (xs : List A) (i : ℕ) (c d : A) → i < length xs
      → take (i + 1) (set xs i c) ++ (get_or xs i d ∷ drop (i + 1) (set xs i c)) ≡ take i xs ++ (c ∷ drop i xs)
  carry_on xs i c d h = rw (add-one, take-suc-set xs i c h, drop-set-lt (suc i) xs i c (omega arith), ← drop-cons xs i d h, append_snoc)

  -- in use up to at + k
  in_use_lem : (xs : List A) (at k : ℕ) (x : A) → at + k ≤ length xs → insert_at (take (at + k) xs) at x ≡ take at xs ++ (x ∷ take k (drop at xs))
  in_use_lem xs at k x h =
      rw (
        take-add at k xs,
        take_at (take at xs) (take k (drop at xs)) at (length-take-le at xs (omega arith)),
        drop_at (take at xs) (take k (drop at xs)) at (length-take-le at xs (omega arith)),
      )

  cut : (xs : List A) (at k : ℕ) (x : A) → at + k ≤ length xs → take (at + k + 1) (take at xs ++ (x ∷ drop at xs)) ≡ take at xs ++ (x ∷ take k (drop at xs))
  cut xs at k x h =
      let e : at + k + 1 ≡ length (take at xs) + suc k = rw (length-take-le at xs (omega arith)) (omega arith) in
      rw (e, take-append-add)

  carry_end : (xs ys : List A) (at k : ℕ) (c x : A) → take (at + k + 1) ys ++ (c ∷ drop (at + k + 1) ys) ≡ take at xs ++ (x ∷ drop at xs)
      → at + k + 1 ≤ length ys → at + k ≤ length xs → take (at + k + 1) ys ≡ insert_at (take (at + k) xs) at x
  carry_end xs ys at k c x e hy hx =
      sym (take_at (take (at + k + 1) ys) (c ∷ drop (at + k + 1) ys) (at + k + 1) (length-take-le (at + k + 1) ys hy))
      ∙ ap (take (at + k + 1)) e ∙ cut xs at k x hx ∙ sym (in_use_lem xs at k x hx)

  -- the same at a count, n
  pub carried : (xs ys : List A) (at n i : ℕ) (c x : A) → take i ys ++ (c ∷ drop i ys) ≡ take at xs ++ (x ∷ drop at xs) → i ≡ n + 1 → at ≤ n
      → n + 1 ≤ length ys → n ≤ length xs → take (n + 1) ys ≡ insert_at (take n xs) at x
  carried xs ys at n i c x e hi h hy hx =
      let q : n ≡ at + (n - at) = omega arith in
      let e' : take (n + 1) ys ++ (c ∷ drop (n + 1) ys) ≡ take at xs ++ (x ∷ drop at xs) = rw hi at e in
      subst⁻¹ (λ (m : ℕ). take (m + 1) ys ≡ insert_at (take m xs) at x) q
      (carry_end xs ys at (n - at) c x (subst (λ (m : ℕ). take (m + 1) ys ++ (c ∷ drop (m + 1) ys) ≡ take at xs ++ (x ∷ drop at xs)) q e') (omega arith) (omega arith))
