-- Numbers of 8 bytes moved where they stand: what is left is the column written anew. Assumes nothing.
use Prim.Native.Nat.{ℕ, zero, suc, ◌+◌, ◌-◌, ◌*◌, ◌/◌, ◌%◌, ◌≤◌, ◌<◌}
use mathlib.Core.Path.{◌≡◌, refl, sym, ap, ◌∙◌}
use mathlib.Core.List.{List, [], ◌∷◌, ◌++◌, append_assoc}
use native.Mathlib.Omega.{arith}
use native.Mathlib.Numerals.{add-one}
use native.Mathlib.Nat.{add-zero}
use lib.ListN.{length, get_or, take, drop, set, length-append, length-drop, drop_of_length-le, take-append-drop}
use lib.Seq.{sets, set_comm, set-get_or, drop-cons, take-suc, take_all, get_or-drop, set_split, length-take-le}
use Rattle.spec.specs.Layout.Format.{Bytes, bytes_of, number_at, concat_map}
use Rattle.spec_laws.proofs.Wire.Bytes.{length-bytes}
use Rattle.image_store.specs.Image.{words}
use Rattle.image_store.proofs.Stored.{apart, number_same, words_take}
use Rattle.image_store.proofs.Words.{words-length, words-at}
use Rattle.image_store_append.specs.Put.{words_put}

-- ---- stores side by side, of any element

module _ {ℓ} {A : Type ℓ} where
  pub sets_join : (a b s : List A) (at : ℕ) → sets (sets s at a) (at + length a) b ≡ sets s at (a ++ b)
  sets_join [] b s at = ap (λ (k : ℕ). sets s k b) (add-zero at)
  sets_join (v ∷ a) b s at =
      let q : at + suc (length a) ≡ suc at + length a = omega arith in
      ap (λ (k : ℕ). sets (sets (set s at v) (suc at) a) k b) q ∙ sets_join a b (set s at v) (suc at)

  set-sets : (b s : List A) (at to : ℕ) (v : A) → at < to → set (sets s to b) at v ≡ sets (set s at v) to b
  set-sets [] s at to v h = refl
  set-sets (x ∷ b) s at to v h =
      set-sets b (set s to x) at (suc to) v (omega arith)
      ∙ ap (λ (l : List A). sets l (suc to) b) (set_comm s to at x v (λ e. omega arith))

  -- in front of what is stored already
  pub sets-before : (a b s : List A) (at : ℕ) → sets (sets s (at + length a) b) at a ≡ sets s at (a ++ b)
  sets-before [] b s at = ap (λ (k : ℕ). sets s k b) (add-zero at)
  sets-before (v ∷ a) b s at =
      let q : at + suc (length a) ≡ suc at + length a = omega arith in
      ap (λ (l : List A). sets l (suc at) a)
      (set-sets b s at (at + suc (length a)) v (omega arith) ∙ ap (λ (k : ℕ). sets (set s at v) k b) q)
      ∙ sets-before a b (set s at v) (suc at)

-- ---- columns

abbrev pub bytes8 : List ℕ → List ℕ
bytes8 ws = concat_map (bytes_of 8) ws

pub bytes8-append : (a b : List ℕ) → bytes8 (a ++ b) ≡ bytes8 a ++ bytes8 b
bytes8-append [] b = refl
bytes8-append (x ∷ a) b =
    ap (λ (l : List ℕ). bytes_of 8 x ++ l) (bytes8-append a b) ∙ sym (append_assoc (bytes_of 8 x) (bytes8 a) (bytes8 b))

pub bytes8-length : (a : List ℕ) → length (bytes8 a) ≡ 8 * length a
bytes8-length [] = refl
bytes8-length (x ∷ a) =
    length-append (bytes_of 8 x) (bytes8 a) ∙ omega (arith, length-bytes 8 x, bytes8-length a)

-- a number put back where it stands, and several
number-back : (k : ℕ) (s : List ℕ) (at : ℕ) → Bytes s → sets s at (bytes_of k (number_at k s at)) ≡ s
number-back zero s at b = refl
number-back (suc k) s at b =
    let m : (get_or s at 0 + 256 * number_at k s (at + 1)) % 256 ≡ get_or s at 0 = omega (arith, b at) in
    let d : (get_or s at 0 + 256 * number_at k s (at + 1)) / 256 ≡ number_at k s (at + 1) = omega (arith, b at) in
    ap (λ (x : ℕ). sets (set s at x) (suc at) (bytes_of k ((get_or s at 0 + 256 * number_at k s (at + 1)) / 256))) m
    ∙ ap (λ (l : List ℕ). sets l (suc at) (bytes_of k ((get_or s at 0 + 256 * number_at k s (at + 1)) / 256))) (set-get_or s at 0)
    ∙ ap (λ (x : ℕ). sets s (suc at) (bytes_of k x)) d
    ∙ ap (λ (p : ℕ). sets s p (bytes_of k (number_at k s (at + 1)))) (sym (add-one at))
    ∙ number-back k s (at + 1) b

pub words_back : (n : ℕ) (s : List ℕ) (at : ℕ) → Bytes s → words_put s at (words 8 n s at) ≡ s
unfolding words
words_back zero s at b = refl
words_back (suc n) s at b =
    let x = number_at 8 s at in
    sym (sets_join (bytes_of 8 x) (bytes8 (words 8 n s (at + 8))) s at)
    ∙ ap (λ (l : List ℕ). sets l (at + length (bytes_of 8 x)) (bytes8 (words 8 n s (at + 8)))) (number-back 8 s at b)
    ∙ ap (λ (k : ℕ). sets s (at + k) (bytes8 (words 8 n s (at + 8)))) (length-bytes 8 x)
    ∙ words_back n s (at + 8) b

module _ (s : List ℕ) (at n : ℕ) where
  abbrev ws : List ℕ
  ws = words 8 n s at

  wsl : length ws ≡ n
  wsl = words-length 8 n s at

  -- only what follows place i is written: what stands before it is as it was
  pub behind : (i : ℕ) (l : List ℕ) → i ≤ n → Bytes s → sets s (at + 8 * i) (bytes8 l) ≡ words_put s at (take i ws ++ l)
  behind i l h b =
      let t : take i ws ≡ words 8 i s at = words_take 8 i n s at h in
      let k : length (bytes8 (take i ws)) ≡ 8 * i =
      bytes8-length (take i ws) ∙ ap (λ (m : ℕ). 8 * m) (length-take-le i ws (omega (arith, wsl))) in
      sym (
      ap (sets s at) (bytes8-append (take i ws) l)
      ∙ sym (sets_join (bytes8 (take i ws)) (bytes8 l) s at)
      ∙ ap (λ (m : ℕ). sets (sets s at (bytes8 (take i ws))) (at + m) (bytes8 l)) k
      ∙ ap (λ (v : List ℕ). sets (sets s at (bytes8 v)) (at + 8 * i) (bytes8 l)) t
      ∙ ap (λ (v : List ℕ). sets v (at + 8 * i) (bytes8 l)) (words_back i s at b)
      )

  -- a number before what is written is as it was
  before : (l : List ℕ) (p to : ℕ) → p + 8 ≤ to → number_at 8 (sets s to l) p ≡ number_at 8 s p
  before l p to h = number_same (sets s to l) s 8 p (λ j a b. apart l s to j (λ c. omega arith))

  -- ---- moving up: all from place k on stand one higher

  abbrev pub Up : List ℕ → ℕ → Type 0
  Up out k = out ≡ sets s (at + 8 * (k + 1)) (bytes8 (drop k ws))

  pub up_start : Up s n
  up_start = sym (ap (λ (l : List ℕ). sets s (at + 8 * (n + 1)) (bytes8 l)) (drop_of_length-le ws {i = n} (omega (arith, wsl))))

  pub up_on : (out : List ℕ) (k j x : ℕ) → j + 1 ≡ k → j < n → Up out k → x ≡ number_at 8 out (at + 8 * j) → Up (sets out (at + 8 * (j + 1)) (bytes_of 8 x)) j
  up_on out k j x e h u q =
      let f : x ≡ get_or ws j 0 =
      q ∙ ap (λ (l : List ℕ). number_at 8 l (at + 8 * j)) u ∙ before (bytes8 (drop k ws)) (at + 8 * j) (at + 8 * (k + 1)) (omega arith)
      ∙ sym (words-at 8 n s at j h) in
      let p : at + 8 * (k + 1) ≡ at + 8 * (j + 1) + length (bytes_of 8 x) = omega (arith, length-bytes 8 x) in
      let d : drop j ws ≡ x ∷ drop k ws =
      drop-cons ws j 0 (omega (arith, wsl)) ∙ ap (λ (y : ℕ). y ∷ drop (suc j) ws) (sym f) ∙ ap (λ (m : ℕ). x ∷ drop m ws) (sym (add-one j) ∙ e) in
      ap (λ (l : List ℕ). sets l (at + 8 * (j + 1)) (bytes_of 8 x)) (u ∙ ap (λ (m : ℕ). sets s m (bytes8 (drop k ws))) p)
      ∙ sets-before (bytes_of 8 x) (bytes8 (drop k ws)) s (at + 8 * (j + 1))
      ∙ ap (λ (l : List ℕ). sets s (at + 8 * (j + 1)) (bytes8 l)) (sym d)

  pub up_end : (out : List ℕ) (k i v : ℕ) → k ≡ i → i ≤ n → Bytes s → Up out k → sets out (at + 8 * i) (bytes_of 8 v) ≡ words_put s at (take i ws ++ v ∷ drop i ws)
  up_end out k i v e h b u =
      let p : at + 8 * (k + 1) ≡ at + 8 * i + length (bytes_of 8 v) = omega (arith, length-bytes 8 v) in
      ap (λ (l : List ℕ). sets l (at + 8 * i) (bytes_of 8 v))
      (u ∙ ap (λ (m : ℕ). sets s m (bytes8 (drop k ws))) p ∙ ap (λ (m : ℕ). sets s (at + 8 * i + length (bytes_of 8 v)) (bytes8 (drop m ws))) e)
      ∙ sets-before (bytes_of 8 v) (bytes8 (drop i ws)) s (at + 8 * i)
      ∙ behind i (v ∷ drop i ws) h b

  -- ---- moving down: those behind place i, up to k, stand one lower

  module _ (i : ℕ) where
    abbrev pub Down : List ℕ → ℕ → Type 0
    Down out k = out ≡ sets s (at + 8 * i) (bytes8 (take (k - i) (drop (i + 1) ws)))

    pub down_start : Down s i
    down_start =
        let z : i - i ≡ 0 = omega arith in
        sym (ap (λ (m : ℕ). sets s (at + 8 * i) (bytes8 (take m (drop (i + 1) ws)))) z)

    pub down_on : (out : List ℕ) (k x : ℕ) → i ≤ k → k + 1 < n → Down out k → x ≡ number_at 8 out (at + 8 * (k + 1)) → Down (sets out (at + 8 * k) (bytes_of 8 x)) (k + 1)
    down_on out k x g h u q =
        let D = drop (i + 1) ws in
        let ld : length D ≡ n - (i + 1) = length-drop (i + 1) ws ∙ ap (λ (m : ℕ). m - (i + 1)) wsl in
        let lt : length (bytes8 (take (k - i) D)) ≡ 8 * (k - i) =
        bytes8-length (take (k - i) D) ∙ ap (λ (m : ℕ). 8 * m) (length-take-le (k - i) D (omega arith)) in
        let w : i + 1 + (k - i) ≡ k + 1 = omega arith in
        let f : x ≡ get_or D (k - i) 0 =
        q ∙ ap (λ (l : List ℕ). number_at 8 l (at + 8 * (k + 1))) u
        ∙ number_same (sets s (at + 8 * i) (bytes8 (take (k - i) D))) s 8 (at + 8 * (k + 1)) (λ j a b. apart (bytes8 (take (k - i) D)) s (at + 8 * i) j (λ c. omega arith))
        ∙ sym (words-at 8 n s at (k + 1) h)
        ∙ ap (λ (m : ℕ). get_or ws m 0) (sym w) ∙ sym (get_or-drop (i + 1) ws (k - i) 0) in
        let p : at + 8 * k ≡ at + 8 * i + length (bytes8 (take (k - i) D)) = omega arith in
        let c : k + 1 - i ≡ suc (k - i) = omega arith in
        let t : take (k + 1 - i) D ≡ take (k - i) D ++ (x ∷ []) =
        ap (λ (m : ℕ). take m D) c ∙ take-suc D (k - i) 0 (omega arith) ∙ ap (λ (y : ℕ). take (k - i) D ++ (y ∷ [])) (sym f) in
        ap (λ (l : List ℕ). sets l (at + 8 * k) (bytes_of 8 x)) u
        ∙ ap (λ (m : ℕ). sets (sets s (at + 8 * i) (bytes8 (take (k - i) D))) m (bytes_of 8 x)) p
        ∙ sets_join (bytes8 (take (k - i) D)) (bytes_of 8 x) s (at + 8 * i)
        ∙ ap (sets s (at + 8 * i)) (sym (ap bytes8 t ∙ bytes8-append (take (k - i) D) (x ∷ [])))

    pub down_end : (out : List ℕ) (k : ℕ) → i ≤ k → k + 1 ≡ n → Bytes s → Down out k → out ≡ words_put s at (take i ws ++ drop (i + 1) ws)
    down_end out k g h b u =
        let D = drop (i + 1) ws in
        let ld : length D ≡ n - (i + 1) = length-drop (i + 1) ws ∙ ap (λ (m : ℕ). m - (i + 1)) wsl in
        u ∙ ap (λ (l : List ℕ). sets s (at + 8 * i) (bytes8 l)) (take_all (k - i) D (omega arith)) ∙ behind i D (omega arith) b

  -- ---- one number set

  pub set_word : (i v : ℕ) → i < n → Bytes s → sets s (at + 8 * i) (bytes_of 8 v) ≡ words_put s at (set ws i v)
  set_word i v h b =
      let back : sets s (at + 8 * (i + 1)) (bytes8 (drop (suc i) ws)) ≡ s =
      behind (i + 1) (drop (suc i) ws) (omega arith) b
      ∙ ap (λ (m : ℕ). words_put s at (take m ws ++ drop (suc i) ws)) (add-one i)
      ∙ ap (words_put s at) (take-append-drop (suc i) ws) ∙ words_back n s at b in
      let p : at + 8 * (i + 1) ≡ at + 8 * i + length (bytes_of 8 v) = omega (arith, length-bytes 8 v) in
      ap (λ (l : List ℕ). sets l (at + 8 * i) (bytes_of 8 v)) (sym back)
      ∙ ap (λ (m : ℕ). sets (sets s m (bytes8 (drop (suc i) ws))) (at + 8 * i) (bytes_of 8 v)) p
      ∙ sets-before (bytes_of 8 v) (bytes8 (drop (suc i) ws)) s (at + 8 * i)
      ∙ behind i (v ∷ drop (suc i) ws) (omega arith) b
      ∙ ap (words_put s at) (sym (set_split ws i v (omega (arith, wsl))))
