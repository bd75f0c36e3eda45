-- The rows of a table changed where they stand: what is left is the table written anew. Assumes nothing.
use Prim.Native.Nat.{ℕ, zero, suc, ◌+◌, ◌-◌, ◌*◌, ◌≤◌, ◌<◌}
use mathlib.Core.Path.{◌≡◌, refl, sym, ap, ◌∙◌, subst}
use mathlib.Core.Bool.{Bool, true, false}
use mathlib.Core.List.{List, [], ◌∷◌, ◌++◌, map}
use native.Mathlib.Omega.{arith}
use lib.Dec.{ltb, eqb}
use borrow.Author.Tests.{lt-ltb, le-ltb, eqb-true, eqb-false}
use lib.ListN.{length, get_or, take, drop, set, length-append, length-drop}
use lib.Seq.{sets, get_or-take, take-set-lt, length-take-le}
use lib.ListN.{length-set}
use Rattle.spec.specs.Lists.{lead, put, filter, rising}
use Rattle.spec.specs.Layout.Format.{Bytes, bytes_of, number_at, concat_map}
use Rattle.log_store.specs.Table.{Row, zipped, rows_of, row_below, other_row, inserted, removed}
use Rattle.log_store.proofs.Put.{lead_true, lead_false}
use Rattle.log_store.proofs.Rows.{zipped-length, inserted-take, removed-take, set-level, set-between}
use Rattle.log_store.proofs.Without.{drop-level, drop-absent}
use Rattle.log_check.specs.Conditions.{Decides, Rises, Parted}
use Rattle.log_check.proofs.Answers.{grant, deny}
use Rattle.log_check.proofs.Lookup.{rises-rows}
use Rattle.image_store.specs.Image.{words, keys_in, places_in, rows_at}
use Rattle.image_store.specs.Write.{rows_put}
use Rattle.image_store.proofs.Stored.{apart, words_same, words_take}
use Rattle.image_store.proofs.Words.{words-length, words-at}
use Rattle.image_store_append.specs.Put.{words_put, Tables}
use Rattle.image_store_append.proofs.WordLaws.{bytes8-length, words_back, set_word}

lead-by : (p : ℕ → Bool) (l : List ℕ) (r : ℕ) → r ≤ length l → ((j : ℕ) → j < r → p (get_or l j 0) ≡ true) → (r < length l → p (get_or l r 0) ≡ false) → r ≡ lead p l
unfolding lead
lead-by p [] r h f g = omega arith
lead-by p (x ∷ l) zero h f g = sym (lead_false p x l (g (omega arith)))
lead-by p (x ∷ l) (suc r) h f g =
    ap suc (lead-by p l r (omega arith) (λ j k. f (suc j) (omega arith)) (λ k. g (omega arith))) ∙ sym (lead_true p x l (f 0 (omega arith)))

zipped-ids : (a b : List ℕ) → length a ≡ length b → map (λ (r : Row). r.id) (zipped a b) ≡ a
unfolding zipped
zipped-ids [] b e = refl
zipped-ids (x ∷ a) [] e = absurd (omega arith)
zipped-ids (x ∷ a) (y ∷ b) e = ap (λ (l : List ℕ). x ∷ l) (zipped-ids a b (omega arith))

zipped-offsets : (a b : List ℕ) → length a ≡ length b → map (λ (r : Row). r.offset) (zipped a b) ≡ b
unfolding zipped
zipped-offsets [] [] e = refl
zipped-offsets [] (y ∷ b) e = absurd (omega arith)
zipped-offsets (x ∷ a) [] e = absurd (omega arith)
zipped-offsets (x ∷ a) (y ∷ b) e = ap (λ (l : List ℕ). y ∷ l) (zipped-offsets a b (omega arith))

module _ (s : List ℕ) (base stored at id : ℕ) (most : stored ≤ 1024) where
  pub past_at : stored ≤ at → Decides false ((at < stored) × (get_or (keys_in s base) at 0 ≡ id))
  past_at h = deny (λ w. let k = w.0 in omega arith)

  pub key-at : at < stored → (x : ℕ) → x ≡ number_at 8 s (base + 157696 + 8 * at) → Decides (eqb x id) ((at < stored) × (get_or (keys_in s base) at 0 ≡ id))
  key-at h x q = go (eqb x id) refl
    where
      e : get_or (keys_in s base) at 0 ≡ x
      e = words-at 8 1024 s (base + 157696) at (omega arith) ∙ sym q

      go : (b : Bool) → eqb x id ≡ b → Decides b ((at < stored) × (get_or (keys_in s base) at 0 ≡ id))
      go true b = grant (h, e ∙ eqb-true x id b)
      go false b = deny (λ w. eqb-false x id b (sym e ∙ w.1))

module _ (s : List ℕ) (base n : ℕ) (bytes : Bytes s) (most : n ≤ 1024) (f : Rises (keys_in s base) n) (id at : ℕ) (w : Parted (keys_in s base) n id at) where
  abbrev ka : ℕ
  ka = base + 157696

  abbrev pa : ℕ
  pa = base + 165888

  abbrev K : List ℕ
  K = words 8 n s ka

  abbrev P : List ℕ
  P = words 8 n s pa

  kt : take n (keys_in s base) ≡ K
  kt = words_take 8 n 1024 s ka most

  pt : take n (places_in s base) ≡ P
  pt = words_take 8 n 1024 s pa most

  lk : length (keys_in s base) ≡ 1024
  lk = words-length 8 1024 s ka

  lp : length (places_in s base) ≡ 1024
  lp = words-length 8 1024 s pa

  hk : n ≤ length (keys_in s base)
  hk = omega (arith, lk)

  hp : n ≤ length (places_in s base)
  hp = omega (arith, lp)

  is_at : at ≡ lead (λ k. ltb k id) (take n (keys_in s base))
  is_at =
      let l : length (take n (keys_in s base)) ≡ n = length-take-le n (keys_in s base) hk in
      let m = w.most in
      lead-by (λ k. ltb k id) (take n (keys_in s base)) at (omega arith)
      (λ j h. lt-ltb (get_or (take n (keys_in s base)) j 0) id
      (subst (λ (x : ℕ). x < id) (sym (get_or-take n (keys_in s base) j 0 (omega arith))) (w.below j h)))
      (λ h. le-ltb (get_or (take n (keys_in s base)) at 0) id
      (subst (λ (x : ℕ). id ≤ x) (sym (get_or-take n (keys_in s base) at 0 (omega arith))) (w.above at (omega arith) (omega arith))))

  -- a table of two columns, written
  rows-put : (k p : List ℕ) → length k ≡ length p → rows_put s base (zipped k p) ≡ words_put (words_put s ka k) pa p
  unfolding rows_put
  rows-put k p e =
      ap (λ (l : List ℕ). sets (sets s ka (concat_map (bytes_of 8) l)) pa (concat_map (bytes_of 8) (map (λ (r : Row). r.offset) (zipped k p)))) (zipped-ids k p e)
      ∙ ap (λ (l : List ℕ). sets (sets s ka (concat_map (bytes_of 8) k)) pa (concat_map (bytes_of 8) l)) (zipped-offsets k p e)

  -- the places, after the keys were written
  places-kept : (k : List ℕ) → length k ≤ 1024 → words 8 n (words_put s ka k) pa ≡ P
  places-kept k h =
      words_same (words_put s ka k) s 8 n pa
      (λ j a b. apart (concat_map (bytes_of 8) k) s ka j (λ c. omega (arith, bytes8-length k)))

  abbrev Goal : List ℕ → List Row → ℕ → Type 0
  Goal t rs r = Tables s t base rs r

  of_columns : (t : List ℕ) (k p : List ℕ) (rs : List Row) (r : ℕ) → rs ≡ zipped k p → length k ≡ r → length p ≡ r → t ≡ words_put (words_put s ka k) pa p → Goal t rs r
  of_columns t k p rs r e a b q = record {
    image = q ∙ sym (rows-put k p (a ∙ sym b)) ∙ ap (rows_put s base) (sym e);
    count = sym a ∙ sym (ap length e ∙ zipped-length k p (a ∙ sym b));
  }

  kl : length K ≡ n
  kl = words-length 8 n s ka

  pl : length P ≡ n
  pl = words-length 8 n s pa

  -- ---- set in the place of its old one

  module _ (o : ℕ) where
    abbrev new : Row
    new = record { id = id; offset = o }

    pub put-level : (at < n) × (get_or (keys_in s base) at 0 ≡ id) → (t : List ℕ) → t ≡ sets s (pa + 8 * at) (bytes_of 8 o)
        → Tables s t base (put row_below new (rows_at s base n)) n
    unfolding rows_of
    put-level q t ts =
        let h = q.0 in
        of_columns t K (set P at o) (put row_below new (rows_at s base n)) n
        (sym (set-level (keys_in s base) (places_in s base) n hk hp id o at is_at h q.1)
        ∙ ap (λ (l : List ℕ). zipped l (take n (set (places_in s base) at o))) kt
        ∙ ap (zipped K) (take-set-lt n (places_in s base) at o h ∙ ap (λ (l : List ℕ). set l at o) pt))
        kl (length-set P at o ∙ pl)
        (ts ∙ set_word s pa n at o h bytes
        ∙ ap (λ (l : List ℕ). words_put l pa (set P at o)) (sym (words_back n s ka bytes)))

    -- ---- put in

    abbrev K⁺ : List ℕ
    K⁺ = take at K ++ id ∷ drop at K

    abbrev P⁺ : List ℕ
    P⁺ = take at P ++ o ∷ drop at P

    grown : (l : List ℕ) (x : ℕ) → length l ≡ n → at ≤ n → length (take at l ++ x ∷ drop at l) ≡ n + 1
    grown l x e h =
        length-append (take at l) (x ∷ drop at l) ∙ omega (arith, length-take-le at l (omega arith), length-drop at l)

    pub put-between : n < 1024 → ((at < n) × (get_or (keys_in s base) at 0 ≡ id) → ⊥) → (t u : List ℕ)
        → t ≡ words_put s ka K⁺ → u ≡ words_put t pa (take at (words 8 n t pa) ++ o ∷ drop at (words 8 n t pa))
        → Tables s u base (put row_below new (rows_at s base n)) (n + 1)
    unfolding rows_of
    put-between h q t u ts us =
        let m = w.most in
        let e : words 8 n t pa ≡ P =
        ap (λ (l : List ℕ). words 8 n l pa) ts ∙ places-kept K⁺ (omega (arith, grown K id kl m)) in
        of_columns u K⁺ P⁺ (put row_below new (rows_at s base n)) (n + 1)
        (sym (set-between (keys_in s base) (places_in s base) n hk hp id o at is_at m (omega (arith, lk)) (omega (arith, lp))
        (λ l. strict id (get_or (keys_in s base) at 0) (w.above at (omega arith) l) (λ e. q (l, sym e))))
        ∙ ap (λ (l : List ℕ). zipped l (take (n + 1) (inserted at n o (places_in s base))))
        (inserted-take at n id (keys_in s base) m (omega (arith, lk)) ∙ ap (λ (l : List ℕ). take at l ++ id ∷ drop at l) kt)
        ∙ ap (zipped K⁺) (inserted-take at n o (places_in s base) m (omega (arith, lp)) ∙ ap (λ (l : List ℕ). take at l ++ o ∷ drop at l) pt))
        (grown K id kl m) (grown P o pl m)
        (us ∙ ap (λ (l : List ℕ). words_put t pa (take at l ++ o ∷ drop at l)) e ∙ ap (λ (l : List ℕ). words_put l pa P⁺) ts)
      where
        strict : (a b : ℕ) → a ≤ b → (a ≡ b → ⊥) → a < b
        strict a b h n = omega (arith, n)

  -- ---- taken out

  rise : rising row_below (rows_at s base n) ≡ true
  rise = rises-rows (keys_in s base) (places_in s base) n hk hp f

  pub drop-none : ((at < n) × (get_or (keys_in s base) at 0 ≡ id) → ⊥) → Tables s s base (filter (other_row id) (rows_at s base n)) n
  unfolding rows_of
  drop-none q =
      of_columns s K P (filter (other_row id) (rows_at s base n)) n
      (sym (drop-absent (keys_in s base) (places_in s base) n hk hp rise id at is_at (λ a b. q (a, b)))
      ∙ ap (λ (l : List ℕ). zipped l (take n (places_in s base))) kt ∙ ap (zipped K) pt)
      kl pl
      (sym (ap (λ (l : List ℕ). words_put l pa P) (words_back n s ka bytes) ∙ words_back n s pa bytes))

  shrunk : (l : List ℕ) → length l ≡ n → at < n → length (take at l ++ drop (at + 1) l) ≡ n - 1
  shrunk l e h =
      length-append (take at l) (drop (at + 1) l) ∙ omega (arith, length-take-le at l (omega arith), length-drop (at + 1) l)

  pub drop-one : (at < n) × (get_or (keys_in s base) at 0 ≡ id) → (t u : List ℕ)
      → t ≡ words_put s ka (take at K ++ drop (at + 1) K) → u ≡ words_put t pa (take at (words 8 n t pa) ++ drop (at + 1) (words 8 n t pa))
      → Tables s u base (filter (other_row id) (rows_at s base n)) (n - 1)
  unfolding rows_of
  drop-one q t u ts us =
      let h = q.0 in
      let e : words 8 n t pa ≡ P =
      ap (λ (l : List ℕ). words 8 n l pa) ts ∙ places-kept (take at K ++ drop (at + 1) K) (omega (arith, shrunk K kl h)) in
      of_columns u (take at K ++ drop (at + 1) K) (take at P ++ drop (at + 1) P) (filter (other_row id) (rows_at s base n)) (n - 1)
      (sym (drop-level (keys_in s base) (places_in s base) n hk hp rise id at is_at h q.1)
      ∙ ap (λ (l : List ℕ). zipped l (take (n - 1) (removed at n (places_in s base))))
      (removed-take at n (keys_in s base) h hk ∙ ap (λ (l : List ℕ). take at l ++ drop (at + 1) l) kt)
      ∙ ap (zipped (take at K ++ drop (at + 1) K)) (removed-take at n (places_in s base) h hp ∙ ap (λ (l : List ℕ). take at l ++ drop (at + 1) l) pt))
      (shrunk K kl h) (shrunk P pl h)
      (us ∙ ap (λ (l : List ℕ). words_put t pa (take at l ++ drop (at + 1) l)) e
      ∙ ap (λ (l : List ℕ). words_put l pa (take at P ++ drop (at + 1) P)) ts)
