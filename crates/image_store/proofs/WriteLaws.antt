-- What is written back is read: the log of an image after entries were written, and the rows after a table was; the rest of the image is as
-- it was. Assumes nothing.
use Prim.Native.Nat.{ℕ, ◌+◌, ◌-◌, ◌*◌, ◌^◌, ◌≤◌, ◌<◌}
use mathlib.Core.Path.{◌≡◌, refl, sym, ap, ◌∙◌, subst}
use mathlib.Core.Bool.{Bool, true, false, cond}
use mathlib.Core.List.{List, [], ◌∷◌, map}
use native.Mathlib.Omega.{arith}
use borrow.Author.Tests.{eqb-true, leb-true}
use lib.Dec.{T, eqb, leb}
use lib.Ieee.{Float, binary32, fits}
use lib.Ieee.Bits.{of_bits-to_bits, to_bits-lt}
use lib.ListN.{length, get_or, set, length-map}
use lib.Seq.{sets, length-sets, get_or-set_same}
use Rattle.spec.specs.Lists.{◌and◌, every}
use Rattle.spec.specs.Log.{Op, Entry, upsert, delete, components}
use Rattle.spec.specs.Layout.Format.{bytes_of, number_at, concat_map, All}
use Rattle.spec.specs.Node.Wire.{float_of, bits_of, floats_of}
use Rattle.spec.specs.Nearest.Order.{in_domain}
use Rattle.spec.specs.Node.WellFormed.{component, well_formed_vector, well_formed_op}
use Rattle.spec_laws.proofs.Lists.{and_left, and_right}
use Rattle.spec_laws.proofs.Map.Rows.{every_tail}
use Rattle.wire_write.proofs.Writes.{length-words}
use Rattle.log_store.specs.View.{op_from}
use Rattle.image_store.specs.Image.{words, patterns, op_at, entry_at}
use Rattle.image_store.specs.Write.{Fits, code_of, id_of, numbers_put, entry_put}
use Rattle.image_store.proofs.Stored.{apart, Same, number_same, words_same, number-stored, words-stored, Below}

-- ---- an entry of two images that agree on its bytes

-- an Upsert's components lie within its stretch
abbrev pub Short : List ℕ → (base k : ℕ) → Type 0
Short s base k = get_or s (base + 24576 + k) 0 ≡ 1 → get_or s (base + 25600 + k) 0 ≤ 32

module _ (s t : List ℕ) (base k : ℕ) where
  pub entry-same : Same s t (base + k * 8) 8 → Same s t (base + 8192 + k * 8) 8 → Same s t (base + 16384 + k * 8) 8
      → get_or s (base + 24576 + k) 0 ≡ get_or t (base + 24576 + k) 0 → get_or s (base + 25600 + k) 0 ≡ get_or t (base + 25600 + k) 0
      → (get_or t (base + 24576 + k) 0 ≡ 1 → Same s t (base + 26624 + k * 128) (4 * get_or t (base + 25600 + k) 0))
      → entry_at s base k ≡ entry_at t base k
  unfolding entry_at op_at op_from
  entry-same e₁ e₂ e₃ e₄ e₅ e₆ =
      rw (number_same s t 8 (base + k * 8) e₁, number_same s t 8 (base + 8192 + k * 8) e₂, number_same s t 8 (base + 16384 + k * 8) e₃, e₄, e₅)
      (ap (λ (op : Op). record { epoch = number_at 8 t (base + k * 8); offset = number_at 8 t (base + 8192 + k * 8); op = op })
      (go (eqb (get_or t (base + 24576 + k) 0) 1) refl))
    where
      go : (b : Bool) → eqb (get_or t (base + 24576 + k) 0) 1 ≡ b
          → cond b (upsert (number_at 8 t (base + 16384 + k * 8)) (floats_of (patterns s base k (get_or t (base + 25600 + k) 0)))) (delete (number_at 8 t (base + 16384 + k * 8)))
          ≡ cond b (upsert (number_at 8 t (base + 16384 + k * 8)) (floats_of (patterns t base k (get_or t (base + 25600 + k) 0)))) (delete (number_at 8 t (base + 16384 + k * 8)))
      go true e =
          ap (λ (l : List ℕ). upsert (number_at 8 t (base + 16384 + k * 8)) (floats_of l))
          (words_same s t 4 (get_or t (base + 25600 + k) 0) (base + 26624 + k * 128) (e₆ (eqb-true (get_or t (base + 24576 + k) 0) 1 e)))
      go false e = refl

-- ---- one entry written

parts-most : (op : Op) → well_formed_op op ≡ true → length (components op) ≤ 32
unfolding well_formed_vector
parts-most (upsert id xs) w =
    leb-true (length xs) 32
    (and_left (leb (length xs) 32) (every component xs) (and_right (leb 1 (length xs)) (leb (length xs) 32 and every component xs) w))
parts-most (delete id) w = omega arith

is_so : (b : Bool) → b ≡ true → T b
is_so b e = subst T (sym e) tt

float_back : (x : Float) → component x ≡ true → (float_of (bits_of x) ≡ x) × (bits_of x < 256 ^ 4)
float_back x e =
    let f = is_so (fits binary32 x) (and_left (fits binary32 x) (in_domain x) e) in
    (of_bits-to_bits binary32 x f, to_bits-lt binary32 x f)

floats-back : (xs : List Float) → every component xs ≡ true → (floats_of (map bits_of xs) ≡ xs) × All (Below 4) (map bits_of xs)
unfolding floats_of
floats-back [] e = (refl, tt)
floats-back (x ∷ xs) e =
    let t = every_tail component x xs e in
    let h = float_back x t.0 in
    let r = floats-back xs t.1 in
    (rw (h.0, r.0), (h.1, r.1))

op-back : (op : Op) → well_formed_op op ≡ true
    → (op_from (code_of op) (id_of op) (map bits_of (components op)) ≡ op) × All (Below 4) (map bits_of (components op))
unfolding well_formed_vector op_from
op-back (upsert id xs) w =
    let r = floats-back xs (and_right (leb (length xs) 32) (every component xs) (and_right (leb 1 (length xs)) (leb (length xs) 32 and every component xs) w)) in
    (ap (upsert id) r.0, r.1)
op-back (delete id) w = (refl, tt)

set_apart : (l : List ℕ) (at v i : ℕ) → (at ≤ i → at + 1 ≤ i) → get_or (set l at v) i 0 ≡ get_or l i 0
set_apart l at v i h = apart (v ∷ []) l at i h

-- a number, and several, that do not meet a store
clear : (k : ℕ) (l bs : List ℕ) (at to : ℕ) → ((j : ℕ) → at ≤ j → j < at + k → to ≤ j → to + length bs ≤ j) → number_at k (sets l to bs) at ≡ number_at k l at
clear k l bs at to h = number_same (sets l to bs) l k at (λ j p q. apart bs l to j (h j p q))

words-clear : (k n : ℕ) (l bs : List ℕ) (at to : ℕ) → ((j : ℕ) → at ≤ j → j < at + k * n → to ≤ j → to + length bs ≤ j)
    → words k n (sets l to bs) at ≡ words k n l at
words-clear k n l bs at to h = words_same (sets l to bs) l k n at (λ j p q. apart bs l to j (h j p q))

module _ (s : List ℕ) (base i : ℕ) (e : Entry) (fit : Fits e) where
  abbrev bits : List ℕ
  bits = map bits_of (components e.op)

  bits-short : length bits ≤ 32
  bits-short = omega (arith, length-map (components e.op) bits_of, parts-most e.op fit.formed)

  -- a place outside of the six
  pub other : (j : ℕ) → (base + 26624 + i * 128 ≤ j → base + 26624 + i * 128 + 128 ≤ j) → (base + i * 8 ≤ j → base + i * 8 + 8 ≤ j)
      → (base + 8192 + i * 8 ≤ j → base + 8192 + i * 8 + 8 ≤ j) → (base + 16384 + i * 8 ≤ j → base + 16384 + i * 8 + 8 ≤ j)
      → (base + 24576 + i ≤ j → base + 24576 + i + 1 ≤ j) → (base + 25600 + i ≤ j → base + 25600 + i + 1 ≤ j)
      → get_or (entry_put s base i e) j 0 ≡ get_or s j 0
  unfolding entry_put numbers_put
  other j a b c d f g =
      let m₁ = sets s (base + 26624 + i * 128) (concat_map (bytes_of 4) bits) in
      let m₂ = sets m₁ (base + i * 8) (bytes_of 8 e.epoch) in
      let m₃ = sets m₂ (base + 8192 + i * 8) (bytes_of 8 e.offset) in
      let m₄ = sets m₃ (base + 16384 + i * 8) (bytes_of 8 (id_of e.op)) in
      let m₅ = set m₄ (base + 24576 + i) (code_of e.op) in
      let q = length-words 4 bits in
      let w = bits-short in
      set_apart m₅ (base + 25600 + i) (length (components e.op)) j g
      ∙ set_apart m₄ (base + 24576 + i) (code_of e.op) j f
      ∙ apart (bytes_of 8 (id_of e.op)) m₃ (base + 16384 + i * 8) j d
      ∙ apart (bytes_of 8 e.offset) m₂ (base + 8192 + i * 8) j c
      ∙ apart (bytes_of 8 e.epoch) m₁ (base + i * 8) j b
      ∙ apart (concat_map (bytes_of 4) bits) s (base + 26624 + i * 128) j (λ h. let r = a h in omega arith)

  module _ (room : base + 174080 ≤ length s) (small : i < 1024) where
    -- an entry before it
    pub entry_kept : (k : ℕ) → k < i → Short s base k → entry_at (entry_put s base i e) base k ≡ entry_at s base k
    entry_kept k h short =
        entry-same (entry_put s base i e) s base k
        (λ j p q. other j (λ x. omega arith) (λ x. omega arith) (λ x. omega arith) (λ x. omega arith) (λ x. omega arith) (λ x. omega arith))
        (λ j p q. other j (λ x. omega arith) (λ x. omega arith) (λ x. omega arith) (λ x. omega arith) (λ x. omega arith) (λ x. omega arith))
        (λ j p q. other j (λ x. omega arith) (λ x. omega arith) (λ x. omega arith) (λ x. omega arith) (λ x. omega arith) (λ x. omega arith))
        (other (base + 24576 + k) (λ x. omega arith) (λ x. omega arith) (λ x. omega arith) (λ x. omega arith) (λ x. omega arith) (λ x. omega arith))
        (other (base + 25600 + k) (λ x. omega arith) (λ x. omega arith) (λ x. omega arith) (λ x. omega arith) (λ x. omega arith) (λ x. omega arith))
        (λ c j p q.
        let l = short c in
        other j (λ x. omega arith) (λ x. omega arith) (λ x. omega arith) (λ x. omega arith) (λ x. omega arith) (λ x. omega arith))

    -- the entry itself
    pub entry_new : entry_at (entry_put s base i e) base i ≡ e
    unfolding entry_put numbers_put entry_at op_at
    entry_new =
        let n = length (components e.op) in
        let m₁ = sets s (base + 26624 + i * 128) (concat_map (bytes_of 4) bits) in
        let m₂ = sets m₁ (base + i * 8) (bytes_of 8 e.epoch) in
        let m₃ = sets m₂ (base + 8192 + i * 8) (bytes_of 8 e.offset) in
        let m₄ = sets m₃ (base + 16384 + i * 8) (bytes_of 8 (id_of e.op)) in
        let m₅ = sets m₄ (base + 24576 + i) (code_of e.op ∷ []) in
        let m₆ = sets m₅ (base + 25600 + i) (n ∷ []) in
        let q = length-words 4 bits in
        let w = bits-short in
        let z : length bits ≡ n = length-map (components e.op) bits_of in
        let l₁ : length m₁ ≡ length s = length-sets s (base + 26624 + i * 128) (concat_map (bytes_of 4) bits) in
        let l₂ : length m₂ ≡ length s = length-sets m₁ (base + i * 8) (bytes_of 8 e.epoch) ∙ l₁ in
        let l₃ : length m₃ ≡ length s = length-sets m₂ (base + 8192 + i * 8) (bytes_of 8 e.offset) ∙ l₂ in
        let l₄ : length m₄ ≡ length s = length-sets m₃ (base + 16384 + i * 8) (bytes_of 8 (id_of e.op)) ∙ l₃ in
        let l₅ : length m₅ ≡ length s = length-sets m₄ (base + 24576 + i) (code_of e.op ∷ []) ∙ l₄ in
        let past : (at : ℕ) → at + 8 ≤ base + 24576 → number_at 8 m₆ at ≡ number_at 8 m₄ at =
        λ at h.
        clear 8 m₅ (n ∷ []) at (base + 25600 + i) (λ j a b x. omega arith) ∙ clear 8 m₄ (code_of e.op ∷ []) at (base + 24576 + i) (λ j a b x. omega arith) in
        let e₃ : number_at 8 m₆ (base + 16384 + i * 8) ≡ id_of e.op =
        past (base + 16384 + i * 8) (omega arith) ∙ number-stored 8 (id_of e.op) m₃ (base + 16384 + i * 8) fit.id (omega arith) in
        let e₂ : number_at 8 m₆ (base + 8192 + i * 8) ≡ e.offset =
        past (base + 8192 + i * 8) (omega arith)
        ∙ clear 8 m₃ (bytes_of 8 (id_of e.op)) (base + 8192 + i * 8) (base + 16384 + i * 8) (λ j a b x. omega arith)
        ∙ number-stored 8 e.offset m₂ (base + 8192 + i * 8) fit.offset (omega arith) in
        let e₁ : number_at 8 m₆ (base + i * 8) ≡ e.epoch =
        past (base + i * 8) (omega arith)
        ∙ clear 8 m₃ (bytes_of 8 (id_of e.op)) (base + i * 8) (base + 16384 + i * 8) (λ j a b x. omega arith)
        ∙ clear 8 m₂ (bytes_of 8 e.offset) (base + i * 8) (base + 8192 + i * 8) (λ j a b x. omega arith)
        ∙ number-stored 8 e.epoch m₁ (base + i * 8) fit.epoch (omega arith) in
        let e₄ : get_or m₆ (base + 24576 + i) 0 ≡ code_of e.op =
        apart (n ∷ []) m₅ (base + 25600 + i) (base + 24576 + i) (λ x. omega arith) ∙ get_or-set_same m₄ (base + 24576 + i) (code_of e.op) 0 (omega arith) in
        let e₅ : get_or m₆ (base + 25600 + i) 0 ≡ n = get_or-set_same m₅ (base + 25600 + i) n 0 (omega arith) in
        let at = base + 26624 + i * 128 in
        let e₆ : words 4 n m₆ at ≡ bits =
        words-clear 4 n m₅ (n ∷ []) at (base + 25600 + i) (λ j a b x. omega arith)
        ∙ words-clear 4 n m₄ (code_of e.op ∷ []) at (base + 24576 + i) (λ j a b x. omega arith)
        ∙ words-clear 4 n m₃ (bytes_of 8 (id_of e.op)) at (base + 16384 + i * 8) (λ j a b x. omega arith)
        ∙ words-clear 4 n m₂ (bytes_of 8 e.offset) at (base + 8192 + i * 8) (λ j a b x. omega arith)
        ∙ words-clear 4 n m₁ (bytes_of 8 e.epoch) at (base + i * 8) (λ j a b x. omega arith)
        ∙ ap (λ (k : ℕ). words 4 k m₁ at) (sym z)
        ∙ words-stored 4 bits s at (op-back e.op fit.formed).1 (omega arith) in
        rw (e₁, e₂, e₃, e₄, e₅, e₆, (op-back e.op fit.formed).0)
