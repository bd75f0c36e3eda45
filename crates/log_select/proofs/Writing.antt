-- Hits written out, one after the other, into a column of their ids and one of their distances. Assumes nothing.
use Prim.Native.Nat.{ℕ, suc, ◌+◌, ◌≤◌, ◌<◌}
use mathlib.Core.Path.{◌≡◌, refl, sym, ap, ◌∙◌}
use mathlib.Core.List.{List, [], ◌∷◌, ◌++◌, map, append_assoc}
use native.Mathlib.Numerals.{add-one}
use native.Mathlib.Omega.{arith}
use lib.ListN.{length, take, drop, get_or, set, length-append, length-drop, length-map}
use lib.Seq.{take-suc, drop-cons, set_at, length-take-le}

module _ {ℓ κ} {A : Type ℓ} {B : Type κ} (f : A → B) where
  map_snoc : (l : List A) (x : A) → map f (l ++ (x ∷ [])) ≡ map f l ++ (f x ∷ [])
  map_snoc [] x = refl
  map_snoc (y ∷ l) x = ap (λ (t : List B). f y ∷ t) (map_snoc l x)

  module _ (items : List A) (l : List B) (i : ℕ) (d : A) (b : B) (hi : i < length items) (hl : i < length l) where
    pub write-next : set (map f (take i items) ++ drop i l) i (f (get_or items i d)) ≡ map f (take (i + 1) items) ++ drop (i + 1) l
    write-next =
        let n : length (map f (take i items)) ≡ i = length-map (take i items) f ∙ length-take-le i items (omega arith) in
        ap (λ (t : List B). set (map f (take i items) ++ t) i (f (get_or items i d))) (drop-cons l i b hl)
        ∙ set_at (map f (take i items)) (get_or l i b) (drop (suc i) l) (f (get_or items i d)) i n
        ∙ sym
        (ap (λ (k : ℕ). map f (take k items) ++ drop k l) (add-one i)
        ∙ ap (λ (t : List A). map f t ++ drop (suc i) l) (take-suc items i d hi)
        ∙ ap (λ (t : List B). t ++ drop (suc i) l) (map_snoc (take i items) (get_or items i d))
        ∙ append_assoc (map f (take i items)) (f (get_or items i d) ∷ []) (drop (suc i) l))

  pub written-length : (items : List A) (l : List B) (i : ℕ) → i ≤ length items → i ≤ length l → length (map f (take i items) ++ drop i l) ≡ length l
  written-length items l i hi hl =
      length-append (map f (take i items)) (drop i l)
      ∙ omega (arith, length-map (take i items) f, length-take-le i items hi, length-drop i l)
