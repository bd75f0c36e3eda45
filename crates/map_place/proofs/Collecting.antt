-- Laws of collecting rows into an array, over any rows. Assumes nothing.
use mathlib.Core.Path.{◌≡◌, refl, sym, ap, ◌∙◌}
use mathlib.Core.Bool.{Bool, true, false, cond}
use mathlib.Core.List.{List, [], ◌∷◌, ◌++◌, map}
use Prim.Native.Nat.{ℕ, ◌+◌, ◌≤◌, ◌<◌}
use native.Mathlib.Numerals.{add-one}
use lib.ListN.{length, take, drop, get_or, set}
use lib.Seq.{take-suc, drop-cons}
use Rattle.spec.specs.Lists.{every, any, collect}
use Rattle.spec_laws.proofs.Lists.{by-test}
use Rattle.map_tables.proofs.Tables.{add_row, every-at, used-size, used-row}

pub map-append {ℓ κ} : {A : Type ℓ} {B : Type κ} (v : A → B) (l m : List A) → map v (l ++ m) ≡ map v l ++ map v m
map-append v [] m = refl
map-append {B = B} v (y ∷ ys) m = ap (λ (w : List B). v y ∷ w) (map-append v ys m)

-- one row more at the end, read as something else
pub map_add {ℓ κ} : {A : Type ℓ} {B : Type κ} (v : A → B) (xs : List A) (n : ℕ) (y : A) → n < length xs
    → map v (take (n + 1) (set xs n y)) ≡ map v (take n xs) ++ (v y ∷ [])
map_add v xs n y h = ap (map v) (add_row xs n y h) ∙ map-append v (take n xs) (y ∷ [])

-- the row at a place, and those after it
pub used-drop {ℓ κ} : {A : Type ℓ} {B : Type κ} (v : A → B) (xs : List A) (n : ℕ) (le : n ≤ length xs) (i : ℕ) (d : A) → i < n
    → drop i (map v (take n xs)) ≡ v (get_or xs i d) ∷ drop (i + 1) (map v (take n xs))
used-drop v xs n le i d h = rw (drop-cons (map v (take n xs)) i (v d) (rw (used-size v xs n le) h), used-row v xs n le i d h, add-one)

pub every_map {ℓ κ} : {A : Type ℓ} {B : Type κ} (v : A → B) (p : B → Bool) (l : List A) → every p (map v l) ≡ every (λ x. p (v x)) l
unfolding every
every_map v p [] = refl
every_map v p (y ∷ ys) = ap (λ (t : Bool). cond (p (v y)) t false) (every_map v p ys)

pub any-map {ℓ κ} : {A : Type ℓ} {B : Type κ} (v : A → B) (p : B → Bool) (l : List A) → any p (map v l) ≡ any (λ x. p (v x)) l
unfolding any
any-map v p [] = refl
any-map v p (y ∷ ys) = ap (λ (t : Bool). cond (p (v y)) true t) (any-map v p ys)

-- every row in use passes, so each does
pub used-at {ℓ κ} : {A : Type ℓ} {B : Type κ} (v : A → B) (p : B → Bool) (xs : List A) (n i : ℕ) (d : A) → n ≤ length xs
    → every p (map v (take n xs)) ≡ true → i < n → p (v (get_or xs i d)) ≡ true
used-at v p xs n i d le h k = every-at (λ x. p (v x)) xs n i d le (sym (every_map v p (take n xs)) ∙ h) k

-- ---- collecting

module _ {ℓ κ} {A : Type ℓ} {B : Type κ} where
  collect_snoc : (p : A → Bool) (f : A → B) (l : List A) (x : A) → collect p f (l ++ (x ∷ [])) ≡ cond (p x) (collect p f l ++ (f x ∷ [])) (collect p f l)
  unfolding collect
  collect_snoc p f [] x = refl
  collect_snoc p f (y ∷ ys) x = go (p y) (collect_snoc p f ys x)
    where
      go : (b : Bool) → collect p f (ys ++ (x ∷ [])) ≡ cond (p x) (collect p f ys ++ (f x ∷ [])) (collect p f ys)
          → cond b (f y ∷ collect p f (ys ++ (x ∷ []))) (collect p f (ys ++ (x ∷ [])))
          ≡ cond (p x) (cond b (f y ∷ collect p f ys) (collect p f ys) ++ (f x ∷ [])) (cond b (f y ∷ collect p f ys) (collect p f ys))
      go true more =
          ap (λ (v : List B). f y ∷ v) more
          ∙ by-test (λ (v : List B). f y ∷ cond (p x) (collect p f ys ++ (f x ∷ [])) (collect p f ys) ≡ v) (p x) (λ e. rw e) (λ e. rw e)
      go false more = more

  -- by another test and another reading that say the same
  pub collect-same : (p q : A → Bool) (f g : A → B) → ((x : A) → p x ≡ q x) → ((x : A) → f x ≡ g x) → (l : List A) → collect p f l ≡ collect q g l
  unfolding collect
  collect-same p q f g s t [] = refl
  collect-same p q f g s t (y ∷ ys) = rw (s y, t y, collect-same p q f g s t ys)

pub map-collect {ℓ κ} : {A : Type ℓ} {B C : Type κ} (p : A → Bool) (f : A → B) (g : B → C) (l : List A) → map g (collect p f l) ≡ collect p (λ x. g (f x)) l
unfolding collect
map-collect p f g [] = refl
map-collect {C = C} p f g (y ∷ ys) = go (p y) (map-collect p f g ys)
  where
    go : (b : Bool) → map g (collect p f ys) ≡ collect p (λ x. g (f x)) ys
        → map g (cond b (f y ∷ collect p f ys) (collect p f ys)) ≡ cond b (g (f y) ∷ collect p (λ x. g (f x)) ys) (collect p (λ x. g (f x)) ys)
    go true more = ap (λ (w : List C). g (f y) ∷ w) more
    go false more = more

-- the loop: rows xs read by w, the array out read by v
module _ {ℓ κ} {A : Type ℓ} {B : Type κ} {C D : Type 0} (w : A → B) (v : C → D) (p : B → Bool) (f : B → D) (xs : List A) (out : List C) (n i : ℕ) (d : A)
    (h : i < length xs) (inv : map v (take n out) ≡ collect p f (map w (take i xs))) where
  next : collect p f (map w (take (i + 1) xs))
      ≡ cond (p (w (get_or xs i d))) (collect p f (map w (take i xs)) ++ (f (w (get_or xs i d)) ∷ [])) (collect p f (map w (take i xs)))
  next = rw (add-one, take-suc xs i d h, map-append w (take i xs) (get_or xs i d ∷ [])) (collect_snoc p f (map w (take i xs)) (w (get_or xs i d)))

  pub collect-on : (y : C) → n < length out → p (w (get_or xs i d)) ≡ true → v y ≡ f (w (get_or xs i d))
      → map v (take (n + 1) (set out n y)) ≡ collect p f (map w (take (i + 1) xs))
  collect-on y k e q =
      map_add v out n y k ∙ ap (λ (l : List D). l ++ (v y ∷ [])) inv ∙ ap (λ (z : D). collect p f (map w (take i xs)) ++ (z ∷ [])) q ∙ sym (next ∙ rw e)

  pub collect_past : p (w (get_or xs i d)) ≡ false → map v (take n out) ≡ collect p f (map w (take (i + 1) xs))
  collect_past e = inv ∙ sym (next ∙ rw e)
