-- Laws of the words of Lists: tests, places in a list, prefixes. Over any element. Assumes nothing.
use Prim.Native.Nat.{ℕ, zero, suc, ◌+◌, ◌-◌, ◌≤◌, ◌<◌, min}
use mathlib.Core.Path.{◌≡◌, refl, sym, ap, ◌∙◌, subst}
use mathlib.Core.Bool.{Bool, true, false, cond}
use mathlib.Core.List.{List, [], ◌∷◌, ◌++◌}
use mathlib.Core.Option.{Option, none, some}
use native.Mathlib.Omega.{arith}
use lib.ListN.{length, take, drop, get_or, length-append}
use Rattle.spec.specs.Lists.{◌and◌, ◌or◌, nth, every, any, find, filter, lead, rising, put}

-- a choice by a test, with what the test tells in each arm
pub by-test {ℓ κ} : {A : Type ℓ} (P : A → Type κ) (b : Bool) {x y : A} → (b ≡ true → P x) → (b ≡ false → P y) → P (cond b x y)
by-test P true f g = f refl
by-test P false f g = g refl

pub not_both {ℓ} : {P : Type ℓ} (b : Bool) → b ≡ true → b ≡ false → P
not_both b p q = let z : ◌≡◌ {A = ℕ} 0 1 = cc in absurd (omega arith)

pub and_true : (a b : Bool) → a ≡ true → b ≡ true → a and b ≡ true
unfolding ◌and◌
and_true a b p q = rw p q

pub and_left : (a b : Bool) → a and b ≡ true → a ≡ true
unfolding ◌and◌
and_left true b e = refl
and_left false b e = e

pub and_right : (a b : Bool) → a and b ≡ true → b ≡ true
unfolding ◌and◌
and_right true b e = e
and_right false b e = not_both false e refl

module _ {ℓ} {A : Type ℓ} where
  pub none_some {κ} : {P : Type κ} {x : A} → none ≡ some x → P
  none_some e = let z : ◌≡◌ {A = ℕ} 0 1 = cc in absurd (omega arith)

  pub some_same : {x y : A} → some x ≡ some y → x ≡ y
  some_same e = cc

  -- no place holds anything in an empty list
  pub nth-nil {κ} : {P : Type κ} (i : ℕ) (x : A) → nth [] i ≡ some x → P
  unfolding nth
  nth-nil i x e = let z : ◌≡◌ {A = ℕ} 0 1 = cc in absurd (omega arith)

  pub nth_lt : (l : List A) (i : ℕ) (x : A) → nth l i ≡ some x → i < length l
  unfolding nth
  nth_lt [] i x e = nth-nil i x e
  nth_lt (y ∷ ys) zero x e = omega arith
  nth_lt (y ∷ ys) (suc i) x e = let h = nth_lt ys i x e in omega arith

  pub lt_nth : (l : List A) (i : ℕ) → i < length l → (x : A) × (nth l i ≡ some x)
  unfolding nth
  lt_nth [] i h = absurd (omega arith)
  lt_nth (y ∷ ys) zero h = (y, refl)
  lt_nth (y ∷ ys) (suc i) h = lt_nth ys i (omega arith)

  pub nth-none : (l : List A) (i : ℕ) → length l ≤ i → nth l i ≡ none
  unfolding nth
  nth-none [] i h = refl
  nth-none (y ∷ ys) zero h = absurd (omega arith)
  nth-none (y ∷ ys) (suc i) h = nth-none ys i (omega arith)

  pub nth-same : (l : List A) (i : ℕ) (x y : A) → nth l i ≡ some x → nth l i ≡ some y → x ≡ y
  nth-same l i x y p q = cc

  pub nth_get_d : (l : List A) (i : ℕ) (d : A) → i < length l → nth l i ≡ some (get_or l i d)
  unfolding nth
  nth_get_d [] i d h = absurd (omega arith)
  nth_get_d (y ∷ ys) zero d h = refl
  nth_get_d (y ∷ ys) (suc i) d h = nth_get_d ys i d (omega arith)

  pub nth-append : (l m : List A) (i : ℕ) → i < length l → nth (l ++ m) i ≡ nth l i
  unfolding nth
  nth-append [] m i h = absurd (omega arith)
  nth-append (y ∷ ys) m zero h = refl
  nth-append (y ∷ ys) m (suc i) h = nth-append ys m i (omega arith)

  pub nth_past : (l m : List A) (i : ℕ) → nth (l ++ m) (length l + i) ≡ nth m i
  unfolding nth
  nth_past [] m i = let h : 0 + i ≡ i = omega arith in rw h
  nth_past (y ∷ ys) m i = let h : suc (length ys) + i ≡ suc (length ys + i) = omega arith in rw h (nth_past ys m i)

  pub nth_last : (l : List A) (y : A) → nth (l ++ (y ∷ [])) (length l) ≡ some y
  unfolding nth
  nth_last [] y = refl
  nth_last (z ∷ zs) y = nth_last zs y

  pub nth_drop : (n : ℕ) (l : List A) (i : ℕ) → nth (drop n l) i ≡ nth l (n + i)
  unfolding nth
  nth_drop zero l i = let h : 0 + i ≡ i = omega arith in rw h
  nth_drop (suc n) [] i = refl
  nth_drop (suc n) (y ∷ ys) i = let h : suc n + i ≡ suc (n + i) = omega arith in rw h (nth_drop n ys i)

  pub nth-take : (n : ℕ) (l : List A) (i : ℕ) → i < n → nth (take n l) i ≡ nth l i
  unfolding nth
  nth-take zero l i h = absurd (omega arith)
  nth-take (suc n) [] i h = refl
  nth-take (suc n) (y ∷ ys) zero h = refl
  nth-take (suc n) (y ∷ ys) (suc i) h = nth-take n ys i (omega arith)

  -- what stands in a taken part stands in the whole, and below its length
  pub nth-taken : (n : ℕ) (l : List A) (i : ℕ) (x : A) → nth (take n l) i ≡ some x → (i < n) × (nth l i ≡ some x)
  unfolding nth
  nth-taken zero l i x e = nth-nil i x e
  nth-taken (suc n) [] i x e = nth-nil i x e
  nth-taken (suc n) (y ∷ ys) zero x e = (omega arith, e)
  nth-taken (suc n) (y ∷ ys) (suc i) x e = let h = nth-taken n ys i x e in (omega arith, h.1)

  -- what stands in the longer list is what stood there, or the new element at its end
  pub nth_snoc : (P : ℕ → A → Type 0) (l : List A) (y : A)
      → ((i : ℕ) (x : A) → nth l i ≡ some x → P i x) → P (length l) y
      → (i : ℕ) (x : A) → nth (l ++ (y ∷ [])) i ≡ some x → P i x
  unfolding nth
  nth_snoc P [] y old new zero x e = subst (P 0) (nth-same (y ∷ []) 0 y x refl e) new
  nth_snoc P [] y old new (suc i) x e = nth-nil i x e
  nth_snoc P (z ∷ zs) y old new zero x e = old zero x e
  nth_snoc P (z ∷ zs) y old new (suc i) x e = nth_snoc (λ j. P (suc j)) zs y (λ j. old (suc j)) new i x e

  -- one list is a prefix of another: each of its elements stands there too
  abbrev pub Within : List A → List A → Type ℓ
  Within l m = (i : ℕ) (x : A) → nth l i ≡ some x → nth m i ≡ some x

  pub within_trans : (k l m : List A) → Within k l → Within l m → Within k m
  within_trans k l m f g i x e = g i x (f i x e)

  pub within-length : (l m : List A) → Within l m → length l ≤ length m
  unfolding nth
  within-length [] m w = omega arith
  within-length (x ∷ xs) [] w = nth-nil 0 x (w 0 x refl)
  within-length (x ∷ xs) (y ∷ ys) w = let h = within-length xs ys (λ i. w (suc i)) in omega arith

  pub within-append : (l m : List A) → Within l (l ++ m)
  within-append l m i x e = nth-append l m i (nth_lt l i x e) ∙ e

  pub take_within : (n : ℕ) (l : List A) → Within (take n l) l
  take_within n l i x e = (nth-taken n l i x e).1

  pub within-take : (l m : List A) → Within l m → take (length l) m ≡ l
  unfolding nth
  within-take [] m w = refl
  within-take (x ∷ xs) [] w = nth-nil 0 x (w 0 x refl)
  within-take (x ∷ xs) (y ∷ ys) w =
      let h : x ≡ y = nth-same (y ∷ ys) 0 x y (w 0 x refl) refl in
      rw (← h, within-take xs ys (λ i. w (suc i)))

  -- a prefix of a prefix no shorter is that prefix
  pub within_same : (l m : List A) → Within l m → length m ≤ length l → l ≡ m
  unfolding nth
  within_same [] [] w h = refl
  within_same [] (y ∷ ys) w h = absurd (omega arith)
  within_same (x ∷ xs) [] w h = nth-nil 0 x (w 0 x refl)
  within_same (x ∷ xs) (y ∷ ys) w h =
      let e : x ≡ y = nth-same (y ∷ ys) 0 x y (w 0 x refl) refl in
      rw (← e, within_same xs ys (λ i. w (suc i)) (omega arith))

  -- lists that agree up to a length: equal parts, place by place
  pub taken-same : (n : ℕ) (l m : List A) → take n l ≡ take n m → (i : ℕ) → i < n → nth l i ≡ nth m i
  taken-same n l m e i h = sym (nth-take n l i h) ∙ ap (λ (k : List A). nth k i) e ∙ nth-take n m i h
