-- One turn of a loop that copies bytes out of a message. Assumes nothing.
use Prim.Native.Nat.{ℕ, ◌+◌, ◌<◌}
use mathlib.Core.Path.{◌≡◌, sym, ap, ◌∙◌}
use mathlib.Core.List.{List, [], ◌∷◌, ◌++◌}
use native.Mathlib.Omega.{arith}
use native.Mathlib.Numerals.{add-one}
use lib.ListN.{length, get_or, take, drop, set, length-drop}
use lib.Seq.{take-suc, take-suc-set, get_or-drop}

module _ (s : List ℕ) (at i : ℕ) (bytes : List ℕ) where
  pub byte_more : take i bytes ≡ take i (drop at s) → i < length bytes → at + i < length s
      → take (i + 1) (set bytes i (get_or s (at + i) 0)) ≡ take (i + 1) (drop at s)
  byte_more e h l =
      let k : i < length (drop at s) = rw length-drop (omega arith) in
      ap (λ (n : ℕ). take n (set bytes i (get_or s (at + i) 0))) (add-one i)
      ∙ take-suc-set bytes i (get_or s (at + i) 0) h
      ∙ ap (λ (r : List ℕ). r ++ (get_or s (at + i) 0 ∷ [])) e
      ∙ ap (λ (y : ℕ). take i (drop at s) ++ (y ∷ [])) (sym (get_or-drop at s i 0))
      ∙ sym (ap (λ (n : ℕ). take n (drop at s)) (add-one i) ∙ take-suc (drop at s) i 0 k)
