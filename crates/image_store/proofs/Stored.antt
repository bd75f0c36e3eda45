-- Laws of bytes stored in a longer list: what is stored is read, and what lies elsewhere is as it was. Assumes nothing.
use Prim.Native.Nat.{ℕ, zero, suc, ◌+◌, ◌-◌, ◌*◌, ◌^◌, ◌≤◌, ◌<◌}
use mathlib.Core.Path.{◌≡◌, refl, sym, ap, ◌∙◌}
use mathlib.Core.Logic.{◌⊎◌, inl, inr, ⊎_elim}
use mathlib.Core.List.{List, [], ◌∷◌, ◌++◌, append_assoc}
use native.Mathlib.Omega.{arith}
use native.Mathlib.Nat.{eq-zero-or-pos, mul-suc}
use lib.ListN.{length, get_or, take, drop, set}
use lib.Seq.{sets, sets-eq, drop_at, length-take-le, get_or-set_other}
use Rattle.spec.specs.Layout.Format.{bytes_of, number_at, concat_map, All}
use Rattle.spec_laws.proofs.Wire.Bytes.{number-bytes, length-bytes, cut-append}
use Rattle.image_store.specs.Image.{words}

-- ---- what lies elsewhere

pub sets-other : (vs l : List ℕ) (at i : ℕ) → (i < at) ⊎ (at + length vs ≤ i) → get_or (sets l at vs) i 0 ≡ get_or l i 0
sets-other [] l at i h = refl
sets-other (v ∷ vs) l at i (inl h) = sets-other vs (set l at v) (suc at) i (inl (omega arith)) ∙ get_or-set_other l at i v 0 (λ e. omega arith)
sets-other (v ∷ vs) l at i (inr h) = sets-other vs (set l at v) (suc at) i (inr (omega arith)) ∙ get_or-set_other l at i v 0 (λ e. omega arith)

pub lt_or_ge : (i at : ℕ) → (i < at) ⊎ (at ≤ i)
lt_or_ge i at = ⊎_elim (λ z. inr (omega arith)) (λ z. inl (omega arith)) (eq-zero-or-pos (at - i))

-- a place that does not lie in a store
pub apart : (vs l : List ℕ) (at i : ℕ) → (at ≤ i → at + length vs ≤ i) → get_or (sets l at vs) i 0 ≡ get_or l i 0
apart vs l at i h = ⊎_elim (λ w. sets-other vs l at i (inl w)) (λ w. sets-other vs l at i (inr (h w))) (lt_or_ge i at)

module _ (s t : List ℕ) where
  -- n bytes from a place on are the same
  abbrev pub Same : ℕ → ℕ → Type 0
  Same at n = (i : ℕ) → at ≤ i → i < at + n → get_or s i 0 ≡ get_or t i 0

  pub number_same : (k at : ℕ) → Same at k → number_at k s at ≡ number_at k t at
  number_same zero at h = refl
  number_same (suc k) at h =
      rw (h at (omega arith) (omega arith), number_same k (at + 1) (λ i a b. h i (omega arith) (omega arith)))

  pub words_same : (k n at : ℕ) → Same at (k * n) → words k n s at ≡ words k n t at
  unfolding words
  words_same k zero at h = refl
  words_same k (suc n) at h =
      let m = mul-suc k n in
      rw (number_same k at (λ i a b. h i a (omega arith)), words_same k n (at + k) (λ i a b. h i (omega arith) (omega arith)))

-- ---- what is stored

pub drop-sets : (s : List ℕ) (at : ℕ) (bs : List ℕ) → at + length bs ≤ length s → drop at (sets s at bs) ≡ bs ++ drop (at + length bs) s
drop-sets s at bs h =
    ap (drop at) (sets-eq bs s at h ∙ append_assoc (take at s) bs (drop (at + length bs) s))
    ∙ drop_at (take at s) (bs ++ drop (at + length bs) s) at (length-take-le at s (omega arith))

pub number-stored : (k v : ℕ) (s : List ℕ) (at : ℕ) → v < 256 ^ k → at + k ≤ length s → number_at k (sets s at (bytes_of k v)) at ≡ v
number-stored k v s at h r =
    let l = length-bytes k v in
    number-bytes k v (sets s at (bytes_of k v)) at (drop (at + length (bytes_of k v)) s) h (drop-sets s at (bytes_of k v) (omega arith))

abbrev pub Below : ℕ → ℕ → Type 0
Below k v = v < 256 ^ k

words-bytes : (k : ℕ) (v : List ℕ) (s : List ℕ) (at : ℕ) (t : List ℕ) → All (Below k) v → drop at s ≡ concat_map (bytes_of k) v ++ t → words k (length v) s at ≡ v
unfolding words
words-bytes k [] s at t g e = refl
words-bytes k (x ∷ v) s at t g e =
    let d : drop at s ≡ bytes_of k x ++ (concat_map (bytes_of k) v ++ t) = e ∙ append_assoc (bytes_of k x) (concat_map (bytes_of k) v) t in
    let c : drop (at + k) s ≡ concat_map (bytes_of k) v ++ t =
    ap (λ (n : ℕ). drop (at + n) s) (sym (length-bytes k x)) ∙ cut-append s at (bytes_of k x) (concat_map (bytes_of k) v ++ t) d in
    rw (number-bytes k x s at (concat_map (bytes_of k) v ++ t) g.0 d, words-bytes k v s (at + k) t g.1 c)

pub words-stored : (k : ℕ) (v : List ℕ) (s : List ℕ) (at : ℕ) → All (Below k) v → at + length (concat_map (bytes_of k) v) ≤ length s
    → words k (length v) (sets s at (concat_map (bytes_of k) v)) at ≡ v
words-stored k v s at g h =
    let bs = concat_map (bytes_of k) v in
    words-bytes k v (sets s at bs) at (drop (at + length bs) s) g (drop-sets s at bs h)

-- the first numbers of several
pub words_take : (k n m : ℕ) (s : List ℕ) (at : ℕ) → n ≤ m → take n (words k m s at) ≡ words k n s at
unfolding words
words_take k zero m s at h = refl
words_take k (suc n) zero s at h = absurd (omega arith)
words_take k (suc n) (suc m) s at h = ap (λ (l : List ℕ). number_at k s at ∷ l) (words_take k n m s (at + k) (omega arith))
