-- The digits of a number from the last one on: what is spelled, and what is left to spell. Assumes nothing.
use Prim.Native.Nat.{ℕ, suc, ◌+◌, ◌-◌, ◌/◌, ◌%◌, ◌^◌, ◌≤◌, ◌<◌}
use mathlib.Core.Path.{◌≡◌, sym, ap, ◌∙◌}
use mathlib.Core.List.{List, [], ◌∷◌, ◌++◌, append_assoc}
use native.Mathlib.Omega.{arith}
use lib.ListN.{length, drop, set, length-append, length-drop}
use lib.Seq.{drop-cons, get_or-set_same, drop-set-lt, lt-length-set}
use Rattle.spec_words.specs.Decimal.{digit, decimal}
use Rattle.spec_words.proofs.Decimal.{decimal-one, decimal-more, by_digits, decimal_64}

pub some_digit : (n : ℕ) → 0 < length (decimal n)
some_digit = by_digits (λ n l. 0 < length l) (λ n h. omega arith) (λ n h e. omega (arith, length-append (decimal (n / 10)) (digit (n % 10) ∷ [])))

module _ (n left from : ℕ) (bytes : List ℕ) (fits : n < 2 ^ 64) (size : length bytes ≡ 20) (within : from ≤ 20)
    (spelt : decimal left ++ drop from bytes ≡ decimal n) where
  pub place-left : 1 ≤ from
  place-left =
      omega (arith, decimal_64 n fits, ap length spelt, length-append (decimal left) (drop from bytes), length-drop from bytes, some_digit left)

  -- one digit more
  put_front : (b : ℕ) → drop (from - 1) (set bytes (from - 1) b) ≡ b ∷ drop from bytes
  put_front b =
      let i : ℕ = from - 1 in
      let r : suc i ≡ from = omega (arith, place-left) in
      let h : i < length bytes = omega (arith, place-left) in
      drop-cons (set bytes i b) i 0 (lt-length-set bytes i b h)
      ∙ ap (λ (x : ℕ). x ∷ drop (suc i) (set bytes i b)) (get_or-set_same bytes i b 0 h)
      ∙ ap (λ (l : List ℕ). b ∷ l) (drop-set-lt (suc i) bytes i b (omega arith))
      ∙ ap (λ (k : ℕ). b ∷ drop k bytes) r

  pub next-digit : 10 ≤ left → (b : ℕ) → b ≡ 48 + left % 10 → decimal (left / 10) ++ drop (from - 1) (set bytes (from - 1) b) ≡ decimal n
  next-digit h b e =
      ap (λ (l : List ℕ). decimal (left / 10) ++ l) (put_front b) ∙ ap (λ (d : ℕ). decimal (left / 10) ++ (d ∷ drop from bytes)) e
      ∙ sym (append_assoc (decimal (left / 10)) (digit (left % 10) ∷ []) (drop from bytes))
      ∙ ap (λ (l : List ℕ). l ++ drop from bytes) (sym (decimal-more left h)) ∙ spelt

  pub last-digit : left < 10 → (b : ℕ) → b ≡ 48 + left → drop (from - 1) (set bytes (from - 1) b) ≡ decimal n
  last-digit h b e =
      put_front b ∙ ap (λ (d : ℕ). d ∷ drop from bytes) e ∙ ap (λ (l : List ℕ). l ++ drop from bytes) (sym (decimal-one left h)) ∙ spelt
