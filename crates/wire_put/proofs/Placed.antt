-- The lists of 10 from columns: steps of the loops, and the operands before them. Assumes nothing.
use Prim.Native.Nat.{ℕ, zero, suc, ◌+◌, ◌-◌, ◌*◌, ◌≤◌, ◌<◌}
use mathlib.Core.Path.{◌≡◌, refl, sym, ap, ◌∙◌}
use mathlib.Core.Bool.{true}
use mathlib.Core.List.{List, [], ◌∷◌, ◌++◌}
use lib.ListN.{length, get_or, take, drop, set, length-drop, length-append}
use lib.Seq.{sets, length-take-le}
use lib.Dec.{leb}
use native.Mathlib.Omega.{arith}
use borrow.Author.Tests.{leb-true}
use Rattle.spec.specs.Lists.{◌and◌}
use Rattle.spec.specs.Layout.Format.{text, many, bytes_of, encode}
use Rattle.spec.specs.Layout.Parts.{u64, metric_code}
use Rattle.spec.specs.declared.Metric.{Metric}
use Rattle.spec_laws.proofs.Wire.Tests.{and_left, and_right}
use Rattle.wire_put.specs.Placed.{lists_fit, lists_size, lists_long, lists_given, lists_bytes, create_head}
use Rattle.wire_put.proofs.Writes.{sets_then, length-text, length-words}

module _ (cs : List ℕ) where
  pub fit-step : (n i : ℕ) → i < n → lists_fit cs (n - i) i ≡ (leb (get_or cs i 0) 8 and lists_fit cs (n - (i + 1)) (i + 1))
  fit-step n i h = let e : n - i ≡ suc (n - (i + 1)) = omega arith in ap (λ (m : ℕ). lists_fit cs m i) e

  pub size_step : (n i : ℕ) → i < n → lists_size cs (n - i) i ≡ 1 + 8 * get_or cs i 0 + lists_size cs (n - (i + 1)) (i + 1)
  size_step n i h = let e : n - i ≡ suc (n - (i + 1)) = omega arith in ap (λ (m : ℕ). lists_size cs m i) e

  -- the i-th list fits where all that are left do
  pub list_count : (n i : ℕ) → i < n → lists_fit cs (n - i) i ≡ true → get_or cs i 0 ≤ 8
  list_count n i h e = leb-true _ _ (and_left _ _ (sym (fit-step n i h) ∙ e))

  pub lists_later : (n i : ℕ) → i < n → lists_fit cs (n - i) i ≡ true → lists_fit cs (n - (i + 1)) (i + 1) ≡ true
  lists_later n i h e = and_right _ _ (sym (fit-step n i h) ∙ e)

  pub lists_small : (n i : ℕ) → lists_fit cs n i ≡ true → lists_size cs n i ≤ 65 * n
  lists_small zero i e = omega arith
  lists_small (suc n) i e =
      let r = lists_small n (i + 1) (and_right _ _ e) in
      let s : get_or cs i 0 ≤ 8 = leb-true _ _ (and_left _ _ e) in
      omega arith

module _ (cs ns : List ℕ) where
  pub long_counts : (n : ℕ) → lists_long cs ns n ≡ true → n ≤ length cs
  long_counts n e = leb-true _ _ (and_left _ _ e)

  pub long_nodes : (n : ℕ) → lists_long cs ns n ≡ true → 8 * n ≤ length ns
  long_nodes n e = leb-true _ _ (and_right _ _ e)

  -- ---- one list more

  -- the part of the nodes that the code lends on
  abbrev pub part_list : ℕ → List ℕ
  part_list i = take (8 * i + get_or cs i 0 - 8 * i) (drop (8 * i) ns)

  abbrev pub list_bytes : ℕ → List ℕ
  list_bytes i = encode (many 1 0 8 u64) (take (get_or cs i 0) (drop (8 * i) ns))

  part-is : (i : ℕ) → part_list i ≡ take (get_or cs i 0) (drop (8 * i) ns)
  part-is i =
      let k : 8 * i + get_or cs i 0 - 8 * i ≡ get_or cs i 0 = omega arith in
      ap (λ (m : ℕ). take m (drop (8 * i) ns)) k

  list_length : (i : ℕ) → 8 * i + get_or cs i 0 ≤ length ns → length (take (get_or cs i 0) (drop (8 * i) ns)) ≡ get_or cs i 0
  list_length i h = length-take-le (get_or cs i 0) (drop (8 * i) ns) (rw length-drop (omega arith))

  pub part_length : (i : ℕ) → 8 * i + get_or cs i 0 ≤ length ns → length (part_list i) ≡ get_or cs i 0
  part_length i h = ap length (part-is i) ∙ list_length i h

  list-size : (i : ℕ) → 8 * i + get_or cs i 0 ≤ length ns → length (list_bytes i) ≡ 1 + 8 * get_or cs i 0
  list-size i h =
      omega (arith, length-words 8 (take (get_or cs i 0) (drop (8 * i) ns)), list_length i h)

  pub lists_next : (l : List ℕ) (p q n i : ℕ) → i < n → 8 * i + get_or cs i 0 ≤ length ns → q ≡ p + (1 + 8 * get_or cs i 0)
      → sets (sets l p (encode (many 1 0 8 u64) (part_list i))) q (lists_bytes cs ns (n - (i + 1)) (i + 1)) ≡ sets l p (lists_bytes cs ns (n - i) i)
  lists_next l p q n i h b e =
      let r : List ℕ = lists_bytes cs ns (n - (i + 1)) (i + 1) in
      let k : n - i ≡ suc (n - (i + 1)) = omega arith in
      ap (λ (x : List ℕ). sets (sets l p (encode (many 1 0 8 u64) x)) q r) (part-is i)
      ∙ sets_then l p q (list_bytes i) r (e ∙ ap (λ (m : ℕ). p + m) (sym (list-size i b)))
      ∙ ap (λ (m : ℕ). sets l p (lists_bytes cs ns m i)) (sym k)

  -- all lists take as many bytes as was counted
  pub lists_length : (n i : ℕ) → lists_fit cs n i ≡ true → 8 * (i + n) ≤ length ns → length (lists_bytes cs ns n i) ≡ lists_size cs n i
  lists_length zero i e h = refl
  lists_length (suc n) i e h =
      let k : get_or cs i 0 ≤ 8 = leb-true _ _ (and_left _ _ e) in
      let r = lists_length n (i + 1) (and_right _ _ e) (omega arith) in
      let s = list-size i (omega arith) in
      length-append (list_bytes i) (lists_bytes cs ns n (i + 1)) ∙ omega arith

  pub given-length : (n i : ℕ) → length (lists_given cs ns n i) ≡ n
  given-length zero i = refl
  given-length (suc n) i = ap suc (given-length n (i + 1))

-- ---- the operands before the lists

module _ (name : List ℕ) (d : ℕ) (m : Metric) (s r n : ℕ) where
  pub head-length : length name ≤ 32 → length (create_head name d m s r n) ≡ 47
  head-length h =
      length-append (encode (text 32) name) (bytes_of 4 d ++ (metric_code m ∷ (bytes_of 4 s ++ (bytes_of 4 r ++ (n ∷ [])))))
      ∙ omega (arith, length-text 32 name h)

  pub head-put : (l : List ℕ) → length name ≤ 32
      → set (sets (sets (set (sets (sets l 26 (encode (text 32) name)) 59 (bytes_of 4 d)) 63 (metric_code m)) 64 (bytes_of 4 s)) 68 (bytes_of 4 r)) 72 n
      ≡ sets l 26 (create_head name d m s r n)
  head-put l h =
      sets_then l 26 59 (encode (text 32) name) (bytes_of 4 d ++ (metric_code m ∷ (bytes_of 4 s ++ (bytes_of 4 r ++ (n ∷ []))))) (omega (arith, length-text 32 name h))
