-- A part of a shape, and what a store of it makes of the whole: every other part is read as before. Assumes nothing.
use Prim.Native.Nat.{ℕ, zero, suc, ◌+◌, ◌-◌, ◌*◌, ◌≤◌, ◌<◌}
use mathlib.Core.Path.{◌≡◌, refl, sym, ap, subst, ◌∙◌}
use mathlib.Core.List.{List, [], ◌∷◌, map}
use lib.ListN.{length, get_or, take, drop, set}
use lib.Seq.{sets, get_or-take, take-take, take-set-le}
use native.Mathlib.Omega.{arith}
use native.Mathlib.Nat.{mul-suc, mul_comm}
use Rattle.spec.specs.Layout.Format.{number_at}
use Rattle.image_parts.specs.Shape.{Shape, Value, byte, word, ◌▸◌, rep, size, items, value, encode, Good, Stored}
use Rattle.image_parts.proofs.Images.{row_room}
use Rattle.image_parts.proofs.Back.{length-encode, value-encode, drop-sets}
use Rattle.image_header_form.proofs.Bytes.{drop-on, value_past, drop-after}

-- ---- what stands before a store

take-sets : (l : List ℕ) (i : ℕ) (vs : List ℕ) (n : ℕ) → n ≤ i → take n (sets l i vs) ≡ take n l
take-sets l i [] n h = refl
take-sets l i (v ∷ vs) n h = take-sets (set l i v) (suc i) vs n (omega arith) ∙ take-set-le n l i v h

pub take_short : (s t : List ℕ) (a b : ℕ) → b ≤ a → take a t ≡ take a s → take b t ≡ take b s
take_short s t a b h e = sym (take-take b a t h) ∙ ap (take b) e ∙ take-take b a s h

pub take-before : {s t : List ℕ} {at : ℕ} {b : List ℕ} {w : ℕ} → Stored s t at b w → take at t ≡ take at s
take-before {s} {t} {at} {b} {w} p = ap (take at) p.image ∙ take-sets s at b at (omega arith)

module _ (s t : List ℕ) (q : ℕ) (e : take q s ≡ take q t) where
  byte_before : (at : ℕ) → at < q → get_or s at 0 ≡ get_or t at 0
  byte_before at h = sym (get_or-take q s at 0 h) ∙ ap (λ (l : List ℕ). get_or l at 0) e ∙ get_or-take q t at 0 h

  number-before : (k at : ℕ) → at + k ≤ q → number_at k s at ≡ number_at k t at
  number-before zero at h = refl
  number-before (suc k) at h = rw (byte_before at (omega arith), number-before k (at + 1) (omega arith))

  items-before : {A : Type 0} (n : ℕ) (get put : ℕ → A) (w at : ℕ) → ((p : ℕ) → p + w ≤ q → get p ≡ put p) → at + n * w ≤ q
      → items n get w at ≡ items n put w at
  items-before zero get put w at law h = refl
  items-before (suc n) get put w at law h =
      let k : suc n * w ≡ n * w + w = omega (arith, mul_comm (suc n) w, mul-suc w n, mul_comm n w) in
      rw (law at (omega arith), items-before n get put w (at + w) law (omega arith))

  pub value_before : (f : Shape) (at : ℕ) → at + size f ≤ q → value f s at ≡ value f t at
  value_before byte at h = byte_before at (omega arith)
  value_before (word k) at h = number-before k at h
  value_before (f ▸ g) at h = rw (value_before f at (omega arith), value_before g (at + size f) (omega arith))
  value_before (rep n f) at h = items-before n (value f s) (value f t) (size f) at (λ p. value_before f p) h

-- and what stands behind it

pub drop_past : (s t : List ℕ) (a b : ℕ) → a ≤ b → drop a s ≡ drop a t → drop b s ≡ drop b t
drop_past s t a b h e = let z : a + (b - a) ≡ b = omega arith in rw z at (drop-on s t a (b - a) e)

-- ---- a part

-- a part of a shape: itself, a part of the first or of the second of two, a part of the i-th of n
pub data Part : Shape → Shape → Type 0 where
  whole : {f : Shape} → Part f f
  first : {f g h : Shape} → Part f h → Part (f ▸ g) h
  second : {f g h : Shape} → Part g h → Part (f ▸ g) h
  each : {n : ℕ} {f h : Shape} → (i : ℕ) → i < n → Part f h → Part (rep n f) h

-- where it begins
abbrev pub offset : {f h : Shape} → Part f h → ℕ
offset whole = 0
offset (first p) = offset p
offset (second {f} {g} {h} p) = size f + offset p
offset (each {n} {f} {h} i lt p) = size f * i + offset p

module _ {A : Type 0} where
  -- one element changed
  abbrev pub alter : List A → ℕ → (A → A) → List A
  alter [] i f = []
  alter (x ∷ l) zero f = f x ∷ l
  alter (x ∷ l) (suc i) f = x ∷ alter l i f

  pub alter_to : (l : List A) (i : ℕ) (y : A) → alter l i (λ x. y) ≡ set l i y
  alter_to [] zero y = refl
  alter_to [] (suc i) y = refl
  alter_to (x ∷ l) zero y = refl
  alter_to (x ∷ l) (suc i) y = ap (λ (k : List A). x ∷ k) (alter_to l i y)

pub map-set : {A B : Type 0} (f : A → B) (l : List A) (i : ℕ) (y : A) → map f (set l i y) ≡ set (map f l) i (f y)
map-set f [] zero y = refl
map-set f [] (suc i) y = refl
map-set f (x ∷ l) zero y = refl
map-set {A} {B} f (x ∷ l) (suc i) y = ap (λ (k : List B). f x ∷ k) (map-set f l i y)

-- the value with that part changed
abbrev pub replace : {f h : Shape} → Part f h → Value f → Value h → Value f
replace whole v w = w
replace (first p) v w = (replace p v.0 w, v.1)
replace (second p) v w = (v.0, replace p v.1 w)
replace (each i lt p) v w = alter v i (λ x. replace p x w)

part-fits : {f h : Shape} (p : Part f h) → offset p + size h ≤ size f
part-fits whole = omega arith
part-fits (first p) = let k = part-fits p in omega arith
part-fits (second p) = let k = part-fits p in omega arith
part-fits (each {n} {f} {h} i lt p) = let k = part-fits p in omega (arith, row_room (size f) i n lt, mul_comm n (size f))

-- ---- the i-th of n

module _ {A : Type 0} (get put : ℕ → A) (w : ℕ) where
  items-from : (n at q : ℕ) → q ≤ at → ((p : ℕ) → q ≤ p → put p ≡ get p) → items n put w at ≡ items n get w at
  items-from zero at q h law = refl
  items-from (suc n) at q h law = rw (law at h, items-from n (at + w) q (omega arith) law)

  pub items-alter : (n i at q : ℕ) → i < n → q ≡ at + w * i → (f : A → A) → ((p : ℕ) → p + w ≤ q → put p ≡ get p) → put q ≡ f (get q)
      → ((p : ℕ) → q + w ≤ p → put p ≡ get p) → items n put w at ≡ alter (items n get w at) i f
  items-alter zero i at q lt e f before is after = absurd (omega arith)
  items-alter (suc n) zero at q lt e f before is after =
      let k : q ≡ at = omega arith in
      let here : put at ≡ f (get at) = subst (λ (j : ℕ). put j ≡ f (get j)) k is in
      rw (here, items-from n (at + w) (q + w) (omega arith) after)
  items-alter (suc n) (suc i) at q lt e f before is after =
      let k : q ≡ at + w + w * i = omega (arith, mul-suc w i) in
      rw (before at (omega arith), items-alter n i (at + w) q (omega arith) k f before is after)

-- ---- a part that is stored

pub part-set : {f h : Shape} (p : Part f h) (s t : List ℕ) (at : ℕ) (w : Value h) → Good h w → at + size f ≤ length s
    → Stored s t (at + offset p) (encode h w) (size h) → value f t at ≡ replace p (value f s at) w
part-set {f} {h} whole s t at w g room k =
    let z : at + 0 ≡ at = omega arith in
    let n = length-encode f w g in
    let e : t ≡ sets s at (encode f w) = rw z at k.image in
    value-encode f w t at (drop (at + length (encode f w)) s) g (ap (drop at) e ∙ drop-sets s at (encode f w) (omega arith))
part-set (first {f} {g} {h} p) s t at w good room k =
    let n = part-fits p in
    let past = drop_past t s (at + offset p + size h) (at + size f) (omega arith) (drop-after k (omega arith)) in
    rw (part-set p s t at w good (omega arith) k, value_past g t s (at + size f) past)
part-set (second {f} {g} {h} p) s t at w good room k =
    let q : at + (size f + offset p) ≡ at + size f + offset p = omega arith in
    let m = rw q at k in
    rw (value_before t s (at + size f + offset p) (take-before m) f at (omega arith), part-set p s t (at + size f) w good (omega arith) m)
part-set (each {n} {f} {h} i lt p) s t at w good room k =
    let q : at + (size f * i + offset p) ≡ at + size f * i + offset p = omega arith in
    let m = rw q at k in
    let r = row_room (size f) i n lt in
    let c = mul_comm n (size f) in
    let fits = part-fits p in
    items-alter (value f s) (value f t) (size f) n i at (at + size f * i) lt refl (λ x. replace p x w)
    (λ b le. value_before t s (at + size f * i + offset p) (take-before m) f b (omega arith))
    (part-set p s t (at + size f * i) w good (omega arith) m)
    (λ b le. value_past f t s b (drop_past t s (at + size f * i + offset p + size h) b (omega arith) (drop-after m (omega arith))))
