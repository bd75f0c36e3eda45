-- Stores one after another, and the steps of the loops over rows. Assumes nothing.
use Prim.Native.Nat.{ℕ, zero, suc, ◌+◌, ◌-◌, ◌*◌, ◌≤◌, ◌<◌}
use mathlib.Core.Path.{◌≡◌, refl, sym, ap, subst, ◌∙◌}
use mathlib.Core.Bool.{Bool, true, false}
use mathlib.Core.List.{List, [], ◌∷◌, ◌++◌, map, append_assoc, append-nil}
use lib.ListN.{length, get_or, take, drop, set, replicate, length-append}
use lib.Seq.{sets, drop-cons, drop-length, get_or-take, take_all, length-take-le}
use borrow.Author.Tests.{lt-ltb, le-ltb, leb-true, leb-false}
use lib.Dec.{leb, ltb}
use native.Mathlib.Omega.{arith}
use native.Mathlib.Numerals.{add-one}
use native.Mathlib.Nat.{add-zero, sub-zero, add-suc, suc-add, mul-suc, mul-le-mul}
use Rattle.spec.specs.Lists.{◌and◌}
use Rattle.spec.specs.Layout.Format.{bytes_of, number_at, concat_map}
use Rattle.spec_laws.proofs.Wire.Tests.{and_true, and_false}
use Rattle.spec_laws.proofs.Wire.Bytes.{length-bytes}
use Rattle.image_parts.specs.Shape.{byte, items, encode, in_use, rows_at, codes_below, Stored}

-- ---- stores one after another

pub sets-append : (l : List ℕ) (i : ℕ) (a b : List ℕ) → sets l i (a ++ b) ≡ sets (sets l i a) (i + length a) b
sets-append l i [] b = rw add-zero
sets-append l i (x ∷ a) b = sets-append (set l i x) (suc i) a b ∙ (rw (add-suc, suc-add))

pub stored-then : {s t u : List ℕ} {at n m : ℕ} {a b : List ℕ} → Stored s t at a n → Stored t u (at + n) b m → Stored s u at (a ++ b) (n + m)
stored-then {s} {t} {u} {at} {n} {m} {a} {b} p q = record {
  image = q.image ∙ (rw (p.image, sym p.long) (sym (sets-append s at a b)));
  long = length-append a b ∙ (rw (p.long, q.long));
}

pub stored-word : (k v : ℕ) {s t : List ℕ} {at : ℕ} → t ≡ sets s at (bytes_of k v) → Stored s t at (bytes_of k v) k
stored-word k v {s} {t} {at} e = record { image = e; long = length-bytes k v }

-- a number that was worked out from another
pub stored_as_lem : (k u v : ℕ) {s t : List ℕ} {at : ℕ} → u ≡ v → t ≡ sets s at (bytes_of k u) → Stored s t at (bytes_of k v) k
stored_as_lem k u v {s} {t} {at} q e = record { image = e ∙ ap (λ (x : ℕ). sets s at (bytes_of k x)) q; long = length-bytes k v }

singles : (v : List ℕ) → concat_map (encode byte) v ≡ v
singles [] = refl
singles (x ∷ v) = ap (λ (l : List ℕ). x ∷ l) (singles v)

pub stored_bytes : (n : ℕ) (v : List ℕ) {s t : List ℕ} {at : ℕ} → t ≡ sets s at v → length v ≡ n → Stored s t at (concat_map (encode byte) v) n
stored_bytes n v {s} {t} {at} e l = record { image = e ∙ ap (λ (b : List ℕ). sets s at b) (sym (singles v)); long = ap length (singles v) ∙ l }

-- the bytes that stand at a position
pub bytes-items : (s : List ℕ) (n at : ℕ) → at + n ≤ length s → take n (drop at s) ≡ items n (λ (p : ℕ). get_or s p 0) 1 at
bytes-items s zero at h = refl
bytes-items s (suc n) at h =
    rw (drop-cons s at 0 (omega arith)) (ap (λ (l : List ℕ). get_or s at 0 ∷ l) (rw (← add-one) (bytes-items s n (at + 1) (omega arith))))

-- ---- loops: one row more is read

module _ {A : Type 0} where
  pub set_seam : (a b : List A) (x y : A) → set (a ++ (x ∷ b)) (length a) y ≡ a ++ (y ∷ b)
  set_seam [] b x y = refl
  set_seam (z ∷ a) b x y = ap (λ (l : List A). z ∷ l) (set_seam a b x y)

  pub length-items : (n : ℕ) (get : ℕ → A) (w at : ℕ) → length (items n get w at) ≡ n
  length-items zero get w at = refl
  length-items (suc n) get w at = ap suc (length-items n get w (at + w))

  items-on : (n : ℕ) (get : ℕ → A) (w at : ℕ) → items (suc n) get w at ≡ items n get w at ++ (get (at + w * n) ∷ [])
  items-on zero get w at = let q : at + w * 0 ≡ at = omega arith in rw q
  items-on (suc n) get w at =
      let q : at + w + w * n ≡ at + w * suc n = omega (arith, mul-suc w n) in
      ap (λ (l : List A). get at ∷ l) (items-on n get w (at + w) ∙ (rw q))

  pub rows_start : (limit : ℕ) (get : ℕ → A) (none : A) (w at : ℕ) → replicate limit none ≡ rows_at limit 0 get none w at
  unfolding rows_at
  rows_start limit get none w at = rw sub-zero

  pub rows_step : (get : ℕ → A) (none : A) (w limit i at : ℕ) (out : List A) (x : A) → i < limit
      → out ≡ rows_at limit i get none w at → x ≡ get (at + w * i) → set out i x ≡ rows_at limit (i + 1) get none w at
  unfolding rows_at
  rows_step get none w limit i at out x h e f =
      let m : limit - i ≡ suc (limit - (i + 1)) = omega arith in
      let a = items i get w at in
      let k : out ≡ a ++ (none ∷ replicate (limit - (i + 1)) none) = e ∙ ap (λ (j : ℕ). a ++ replicate j none) m in
      let n : length a ≡ i = length-items i get w at in
      let b = replicate (limit - (i + 1)) none in
      let r : items (i + 1) get w at ≡ a ++ (get (at + w * i) ∷ []) = (rw add-one (items-on i get w at)) in
      let p : set (a ++ (none ∷ b)) i x ≡ a ++ (x ∷ b) = (rw n at (set_seam a b none x)) in
      let q : a ++ (x ∷ b) ≡ items (i + 1) get w at ++ b =
      (rw (r, append_assoc, f)) in
      ap (λ (l : List A). set l i x) k ∙ p ∙ q

  pub rows-full : (get : ℕ → A) (none : A) (w n i at : ℕ) → i ≡ n → rows_at n i get none w at ≡ items n get w at
  unfolding rows_at
  rows-full get none w n i at e =
      let z : n - n ≡ 0 = omega arith in
      rw (e, z, append-nil)

module _ {A B : Type 0} where
  pub map-items : (f : A → B) (n : ℕ) (get : ℕ → A) (w at : ℕ) → map f (items n get w at) ≡ items n (λ p. f (get p)) w at
  map-items f zero get w at = refl
  map-items f (suc n) get w at = ap (λ (l : List B). f (get at) ∷ l) (map-items f n get w (at + w))

-- ---- loops: one row more is stored

module _ {A : Type 0} where
  pub put_step : (put : A → List ℕ) (w : ℕ) (xs : List A) (d : A) (l m : List ℕ) (i p q : ℕ) → i < length xs → q ≡ p + w
      → Stored l m p (put (get_or xs i d)) w
      → sets m q (concat_map put (drop (i + 1) xs)) ≡ sets l p (concat_map put (drop i xs))
  put_step put w xs d l m i p q h e k =
      let z : drop i xs ≡ get_or xs i d ∷ drop (i + 1) xs = rw add-one (drop-cons xs i d h) in
      let n : q ≡ p + length (put (get_or xs i d)) = e ∙ ap (λ (j : ℕ). p + j) (sym k.long) in
      rw (z, k.image, n) (sym (sets-append l p (put (get_or xs i d)) (concat_map put (drop (i + 1) xs))))

  -- of a table the rows in use are stored
  pub table_step : (put : A → List ℕ) (w : ℕ) (xs : List A) (n : ℕ) (d : A) (l m : List ℕ) (i p q : ℕ) → i < n → i < length (take n xs) → q ≡ p + w
      → Stored l m p (put (get_or xs i d)) w
      → sets m q (concat_map put (drop (i + 1) (take n xs))) ≡ sets l p (concat_map put (drop i (take n xs)))
  table_step put w xs n d l m i p q h k e r =
      let g : get_or xs i d ≡ get_or (take n xs) i d = sym (get_or-take n xs i d h) in
      put_step put w (take n xs) d l m i p q k e (subst (λ (x : A). Stored l m p (put x) w) g r)

  pub length-used : (limit n : ℕ) (xs : List A) → length xs ≡ limit → length (take n xs) ≡ in_use limit n
  length-used limit n xs e = used-by limit n xs e (leb n limit) refl
    where
      used-by : (limit n : ℕ) (xs : List A) → length xs ≡ limit → (b : Bool) → leb n limit ≡ b → length (take n xs) ≡ in_use limit n
      used-by limit n xs e true h = let k = leb-true n limit h in length-take-le n xs (omega arith) ∙ (rw h)
      used-by limit n xs e false h = let k = leb-false n limit h in ap length (take_all n xs (omega arith)) ∙ e ∙ (rw h)

  pub put-end : (put : A → List ℕ) (xs : List A) (l m : List ℕ) (p i at : ℕ) → i ≡ length xs
      → sets m p (concat_map put (drop i xs)) ≡ sets l at (concat_map put xs) → m ≡ sets l at (concat_map put xs)
  put-end put xs l m p i at z e = sym (ap (λ (j : ℕ). sets m p (concat_map put (drop j xs))) z ∙ (rw drop-length)) ∙ e

module _ {A B : Type 0} (f : B → List ℕ) (g : A → B) where
  pub concat_mapped : (xs : List A) → concat_map f (map g xs) ≡ concat_map (λ x. f (g x)) xs
  concat_mapped [] = refl
  concat_mapped (x ∷ xs) = ap (λ (l : List ℕ). f (g x) ++ l) (concat_mapped xs)

  length_mapped : (w : ℕ) (xs : List A) → ((x : B) → length (f x) ≡ w) → length (concat_map f (map g xs)) ≡ length xs * w
  length_mapped w [] h = omega arith
  length_mapped w (x ∷ xs) h = length-append (f (g x)) (concat_map f (map g xs)) ∙ (rw (h (g x), length_mapped w xs h) (omega arith))

  pub stored-all : (w n : ℕ) (xs : List A) {s t : List ℕ} {at : ℕ} → ((x : B) → length (f x) ≡ w) → length xs ≡ n
      → t ≡ sets s at (concat_map (λ x. f (g x)) xs) → Stored s t at (concat_map f (map g xs)) (n * w)
  stored-all w n xs {s} {t} {at} h l e = record {
    image = e ∙ ap (λ (b : List ℕ). sets s at b) (sym (concat_mapped xs));
    long = length_mapped w xs h ∙ ap (λ (m : ℕ). m * w) l;
  }

-- ---- places of rows

pub row_room : (w i n : ℕ) → i < n → w * i + w ≤ w * n
row_room w i n h =
    let k : w * suc i ≤ w * n = mul-le-mul {n₁ = w} {m₁ = suc i} {n₂ = w} {m₂ = n} (omega arith) (omega arith) in
    omega (arith, mul-suc w i)

pub row_next : (at w i : ℕ) → at + w * i + w ≡ at + w * (i + 1)
row_next at w i = rw add-one (omega (arith, mul-suc w i))

-- ---- loops: one code more is tested

codes_step : (limit w : ℕ) (s : List ℕ) (n i p : ℕ) → i < n
    → codes_below limit w s (n - i) p ≡ (ltb (number_at 4 s p) limit and codes_below limit w s (n - (i + 1)) (p + w))
codes_step limit w s n i p h = let e : n - i ≡ suc (n - (i + 1)) = omega arith in rw e

pub codes_on : (limit w : ℕ) (s : List ℕ) (n i at : ℕ) → i < n → number_at 4 s (at + w * i) < limit
    → codes_below limit w s (n - (i + 1)) (at + w * (i + 1)) ≡ codes_below limit w s (n - i) (at + w * i)
codes_on limit w s n i at h k =
    let p = at + w * i in
    ap (λ (q : ℕ). codes_below limit w s (n - (i + 1)) q) (sym (row_next at w i))
    ∙ sym (codes_step limit w s n i p h ∙ (rw (lt-ltb (number_at 4 s p) limit k) (and_true _)))

pub codes_stop : (limit w : ℕ) (s : List ℕ) (n i at : ℕ) → i < n → limit ≤ number_at 4 s (at + w * i) → codes_below limit w s (n - i) (at + w * i) ≡ false
codes_stop limit w s n i at h k = codes_step limit w s n i (at + w * i) h ∙ (rw (le-ltb (number_at 4 s (at + w * i)) limit k) (and_false _))

pub codes_end : (limit w : ℕ) (s : List ℕ) (n i p : ℕ) → n ≤ i → codes_below limit w s (n - i) p ≡ true
codes_end limit w s n i p h = let e : n - i ≡ 0 = omega arith in rw e
