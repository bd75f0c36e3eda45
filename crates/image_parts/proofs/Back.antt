-- What is stored in an image is read from it, for every shape, and what lies elsewhere is as it was. Assumes nothing.
use Prim.Native.Nat.{ℕ, zero, suc, ◌+◌, ◌-◌, ◌*◌, ◌≤◌, ◌<◌}
use mathlib.Core.Path.{◌≡◌, refl, sym, ap, ◌∙◌}
use mathlib.Core.Bool.{true}
use mathlib.Core.List.{List, [], ◌∷◌, ◌++◌, append_assoc}
use lib.ListN.{length, take, drop, set, replicate, length-append}
use lib.Seq.{sets, sets-eq, drop_at, length-take-le}
use borrow.Author.Tests.{lt-ltb, le-leb}
use native.Mathlib.Omega.{arith}
use native.Mathlib.Nat.{zero-add}
use Rattle.spec.specs.Layout.Format.{number_at, concat_map, All}
use Rattle.spec_laws.proofs.Wire.Tests.{and_intro}
use Rattle.spec_laws.proofs.Wire.Bytes.{cut, cut-append, number-bytes, length-bytes}
use Rattle.image_parts.specs.Shape.{Shape, byte, word, ◌▸◌, rep, Value, size, items, value, encode, Good, in_use, rows_at, codes_below}

-- ---- rows one after another

module _ {A : Type 0} (P : A → Type 0) (put : A → List ℕ) (w : ℕ) (long : (x : A) → P x → length (put x) ≡ w) where
  pub length-rows : (xs : List A) → All P xs → length (concat_map put xs) ≡ length xs * w
  length-rows [] p = omega arith
  length-rows (x ∷ xs) p = length-append (put x) (concat_map put xs) ∙ (rw (long x p.0, length-rows xs p.1) (omega arith))

  pub rows_back : (s : List ℕ) (get : ℕ → A) → ((x : A) (at : ℕ) (t : List ℕ) → P x → drop at s ≡ put x ++ t → get at ≡ x)
      → (xs : List A) (at : ℕ) (t : List ℕ) → All P xs → drop at s ≡ concat_map put xs ++ t → items (length xs) get w at ≡ xs
  rows_back s get law [] at t p e = refl
  rows_back s get law (x ∷ xs) at t p e =
      let d : drop at s ≡ put x ++ (concat_map put xs ++ t) = e ∙ append_assoc (put x) (concat_map put xs) t in
      let c : drop (at + w) s ≡ concat_map put xs ++ t = (rw (long x p.0) at (cut-append s at (put x) (concat_map put xs ++ t) d)) in
      rw (law x at (concat_map put xs ++ t) p.0 d, rows_back s get law xs (at + w) t p.1 c)

  -- the codes of the rows, o bytes after the start of each
  pub codes_back : (s : List ℕ) (limit o : ℕ) → ((x : A) (at : ℕ) (t : List ℕ) → P x → drop at s ≡ put x ++ t → number_at 4 s (at + o) < limit)
      → (xs : List A) (at : ℕ) (t : List ℕ) → All P xs → drop at s ≡ concat_map put xs ++ t → codes_below limit w s (length xs) (at + o) ≡ true
  codes_back s limit o law [] at t p e = refl
  codes_back s limit o law (x ∷ xs) at t p e =
      let d : drop at s ≡ put x ++ (concat_map put xs ++ t) = e ∙ append_assoc (put x) (concat_map put xs) t in
      let c : drop (at + w) s ≡ concat_map put xs ++ t = (rw (long x p.0) at (cut-append s at (put x) (concat_map put xs ++ t) d)) in
      let q : at + o + w ≡ at + w + o = omega arith in
      and_intro
      (lt-ltb (number_at 4 s (at + o)) limit (law x at (concat_map put xs ++ t) p.0 d))
      (ap (λ (j : ℕ). codes_below limit w s (length xs) j) q ∙ codes_back s limit o law xs (at + w) t p.1 c)

-- ---- one value

pub length-encode : (f : Shape) (v : Value f) → Good f v → length (encode f v) ≡ size f
length-encode byte v g = refl
length-encode (word k) v g = length-bytes k v
length-encode (a ▸ b) v g = length-append (encode a v.0) (encode b v.1) ∙ (rw (length-encode a v.0 g.0, length-encode b v.1 g.1))
length-encode (rep n f) v g = length-rows (Good f) (encode f) (size f) (length-encode f) v g.1 ∙ ap (λ (m : ℕ). m * size f) g.0

pub value-encode : (f : Shape) (v : Value f) (s : List ℕ) (at : ℕ) (t : List ℕ) → Good f v → drop at s ≡ encode f v ++ t → value f s at ≡ v
value-encode byte v s at t g e = (cut s at v t e).0
value-encode (word k) v s at t g e = number-bytes k v s at t g e
value-encode (a ▸ b) v s at t g e =
    let d : drop at s ≡ encode a v.0 ++ (encode b v.1 ++ t) = e ∙ append_assoc (encode a v.0) (encode b v.1) t in
    let c : drop (at + size a) s ≡ encode b v.1 ++ t =
    (rw (length-encode a v.0 g.0) at (cut-append s at (encode a v.0) (encode b v.1 ++ t) d)) in
    rw (value-encode a v.0 s at (encode b v.1 ++ t) g.0 d, value-encode b v.1 s (at + size a) t g.1 c)
value-encode (rep n f) v s at t g e =
    ap (λ (m : ℕ). items m (value f s) (size f) at) (sym g.0)
    ∙ rows_back (Good f) (encode f) (size f) (length-encode f) s (value f s) (λ x p u. value-encode f x s p u) v at t g.1 e

-- ---- after a store

pub drop-sets : (s : List ℕ) (at : ℕ) (bs : List ℕ) → at + length bs ≤ length s → drop at (sets s at bs) ≡ bs ++ drop (at + length bs) s
drop-sets s at bs h =
    ap (drop at) (sets-eq bs s at h ∙ append_assoc (take at s) bs (drop (at + length bs) s))
    ∙ drop_at (take at s) (bs ++ drop (at + length bs) s) at (length-take-le at s (omega arith))

-- ---- what a list holds from a position on

pub record Holds (s : List ℕ) (at : ℕ) (bytes : List ℕ) : Type 0 where
  pub tail : List ℕ
  pub here : drop at s ≡ bytes ++ tail

pub holds-stored : (s : List ℕ) (at : ℕ) (bs : List ℕ) → at + length bs ≤ length s → Holds (sets s at bs) at bs
holds-stored s at bs h = record { tail = drop (at + length bs) s; here = drop-sets s at bs h }

sets-nil : (i : ℕ) (vs : List ℕ) → sets [] i vs ≡ []
sets-nil i [] = refl
sets-nil i (v ∷ vs) = sets-nil (suc i) vs

sets_cons : (x : ℕ) (l : List ℕ) (i : ℕ) (vs : List ℕ) → sets (x ∷ l) (suc i) vs ≡ x ∷ sets l i vs
sets_cons x l i [] = refl
sets_cons x l i (v ∷ vs) = sets_cons x (set l i v) (suc i) vs

drop_later : (at : ℕ) (s : List ℕ) (k : ℕ) (vs : List ℕ) → drop at (sets s (at + k) vs) ≡ sets (drop at s) k vs
drop_later zero s k vs = ap (λ (j : ℕ). sets s j vs) (zero-add k)
drop_later (suc n) [] k vs = ap (drop (suc n)) (sets-nil (suc n + k) vs) ∙ sym (sets-nil k vs)
drop_later (suc n) (x ∷ s) k vs =
    let q : suc n + k ≡ suc (n + k) = omega arith in
    ap (λ (j : ℕ). drop (suc n) (sets (x ∷ s) j vs)) q ∙ ap (drop (suc n)) (sets_cons x s (n + k) vs) ∙ drop_later n s k vs

sets_past : (a t : List ℕ) (j : ℕ) (vs : List ℕ) → sets (a ++ t) (length a + j) vs ≡ a ++ sets t j vs
sets_past [] t j vs = ap (λ (i : ℕ). sets t i vs) (zero-add j)
sets_past (x ∷ a) t j vs =
    let q : length (x ∷ a) + j ≡ suc (length a + j) = omega arith in
    ap (λ (i : ℕ). sets (x ∷ (a ++ t)) i vs) q ∙ sets_cons x (a ++ t) (length a + j) vs ∙ ap (λ (l : List ℕ). x ∷ l) (sets_past a t j vs)

-- a later store further on leaves it
pub holds_kept : (s : List ℕ) (at p : ℕ) (bs vs : List ℕ) → Holds s at bs → at + length bs ≤ p → Holds (sets s p vs) at bs
holds_kept s at p bs vs h k =
    let j = p - at - length bs in
    let q : p ≡ at + (length bs + j) = omega arith in
    record {
      tail = sets h.tail j vs;
      here = ap (λ (i : ℕ). drop at (sets s i vs)) q ∙ drop_later at s (length bs + j) vs ∙ ap (λ (l : List ℕ). sets l (length bs + j) vs) h.here
          ∙ sets_past bs h.tail j vs;
    }

-- ---- a table of which the rows in use were stored

module _ {A : Type 0} where
  pub record TableFits (P : A → Type 0) (limit n : ℕ) (xs : List A) : Type 0 where
    pub count : n ≤ limit
    pub long : length xs ≡ limit
    pub rows : All P (take n xs)

  take-items : (n : ℕ) (get : ℕ → A) (w at : ℕ) (ys : List A) → take n (items n get w at ++ ys) ≡ items n get w at
  take-items zero get w at ys = refl
  take-items (suc n) get w at ys = ap (λ (l : List A). get at ∷ l) (take-items n get w (at + w) ys)

module _ {A : Type 0} (P : A → Type 0) (put : A → List ℕ) (w : ℕ) (long : (x : A) → P x → length (put x) ≡ w) (limit n : ℕ) (xs : List A)
    (fits : TableFits P limit n xs) where
  used : length (take n xs) ≡ n
  used = let a = fits.count in let b = fits.long in length-take-le n xs (omega arith)

  in_use_lem : (c : ℕ) → c ≡ n → in_use limit c ≡ n
  in_use_lem c e = (rw (e, le-leb n limit fits.count))

  pub length-table : length (concat_map put (take n xs)) ≡ n * w
  length-table = length-rows P put w long (take n xs) fits.rows ∙ ap (λ (k : ℕ). k * w) used

  pub table-back : (s : List ℕ) (at : ℕ) (get : ℕ → A) (none : A)
      → ((x : A) (p : ℕ) (t : List ℕ) → P x → drop p s ≡ put x ++ t → get p ≡ x)
      → Holds s at (concat_map put (take n xs)) → (c : ℕ) → c ≡ n
      → take c (rows_at limit (in_use limit c) get none w at) ≡ take n xs
  unfolding rows_at
  table-back s at get none law h c e =
      ap (λ (k : ℕ). take c (items k get w at ++ replicate (limit - k) none)) (in_use_lem c e)
      ∙ ap (λ (k : ℕ). take k (items n get w at ++ replicate (limit - n) none)) e
      ∙ take-items n get w at (replicate (limit - n) none)
      ∙ ap (λ (k : ℕ). items k get w at) (sym used)
      ∙ rows_back P put w long s get law (take n xs) at h.tail fits.rows h.here

  pub table_codes : (s : List ℕ) (at below o : ℕ)
      → ((x : A) (p : ℕ) (t : List ℕ) → P x → drop p s ≡ put x ++ t → number_at 4 s (p + o) < below)
      → Holds s at (concat_map put (take n xs)) → (c : ℕ) → c ≡ n
      → codes_below below w s (in_use limit c) (at + o) ≡ true
  table_codes s at below o law h c e =
      ap (λ (k : ℕ). codes_below below w s k (at + o)) (in_use_lem c e ∙ sym used)
      ∙ codes_back P put w long s below o law (take n xs) at h.tail fits.rows h.here
