-- For the crates above: the bytes of names and the items of vectors, tables, lists and entries, where a message was
-- read. A part's place and length come from Decoded.antt, its items from here. Assumes nothing.
use Rattle.std.proofs.Common.{◌≡◌, ℕ, zero, suc, ◌+◌, ◌*◌, ◌<◌, ◌≤◌, true, List, ◌∷◌, map, length, get_or, take, drop, sym, refl, ap, ◌∙◌, mul-le-mul_right, suc-mul, zero-mul, arith, leb-true}
use Rattle.spec.specs.Log.{End}
use Rattle.spec.specs.Layout.Format.{Format, Value, word, text, ◌▸◌, fits, fits_n, next, value, value_n, number_at}
use Rattle.spec.specs.Layout.Parts.{u64, end_of}
use Rattle.spec_laws.proofs.Wire.Tests.{and_left, and_right}
use Rattle.wire_shape.proofs.Skips.{fixed_fits}
use Rattle.wire_read.proofs.Places.{text-length}

-- a name or an address: as many bytes after the length byte as it has
pub text-bytes : (c : ℕ) (s : List ℕ) (at : ℕ) → fits (text c) s at ≡ true
    → take (length (value (text c) s at)) (drop (at + 1) s) ≡ value (text c) s at
text-bytes c s at e = ap (λ (n : ℕ). take n (drop (at + 1) s)) (text-length c s at e)

-- ---- numbers of w bytes, one after the other

module _ (w : ℕ) (s : List ℕ) where
  pub word_item : (n p i : ℕ) → i < n → get_or (value_n (value (word w) s) (next (word w) s) n p) i 0 ≡ number_at w s (p + i * w)
  word_item zero p i h = absurd (omega arith)
  word_item (suc n) p zero h = ap (number_at w s) (omega (arith, zero-mul w))
  word_item (suc n) p (suc i) h = word_item n (p + w) i (omega arith) ∙ ap (number_at w s) (omega (arith, suc-mul i w))

  pub word_room : (n p i : ℕ) → p ≤ length s → fits_n (fits (word w) s) (next (word w) s) n p ≡ true → i < n → p + i * w + w ≤ length s
  word_room n p i l e h =
      let a : p + n * w ≤ length s = leb-true _ _ (sym (fixed_fits s w n p l) ∙ e) in
      let b : suc i * w ≤ n * w = mul-le-mul_right w h in
      omega (arith, suc-mul i w)

-- ---- items of any format, one after the other

module _ {A : Type 0} (f : Format) (of : Value f → A) (s : List ℕ) where
  -- the items from a place on
  abbrev pub items_from : ℕ → ℕ → List A
  items_from n p = map of (value_n (value f s) (next f s) n p)

  -- the first of them, and the others
  pub items-step : (n p : ℕ) → items_from (suc n) p ≡ of (value f s p) ∷ items_from n (next f s p)
  items-step n p = refl

  pub item_fits : (n p : ℕ) → fits_n (fits f s) (next f s) (suc n) p ≡ true → fits f s p ≡ true
  item_fits n p e = and_left _ _ e

  pub items-fit : (n p : ℕ) → fits_n (fits f s) (next f s) (suc n) p ≡ true → fits_n (fits f s) (next f s) n (next f s p) ≡ true
  items-fit n p e = and_right _ _ e

-- an epoch table's pair at an index
pub end_item : (s : List ℕ) (n p i : ℕ) (d : End) → i < n
    → get_or (map end_of (value_n (value (u64 ▸ u64) s) (next (u64 ▸ u64) s) n p)) i d
    ≡ record { epoch = number_at 8 s (p + i * 16); end = number_at 8 s (p + i * 16 + 8) }
end_item s zero p i d h = absurd (omega arith)
end_item s (suc n) p zero d h =
    let e : p ≡ p + 0 * 16 = omega arith in
    ap (λ (q : ℕ). record { epoch = number_at 8 s q; end = number_at 8 s (q + 8) }) e
end_item s (suc n) p (suc i) d h =
    let e : p + 8 + 8 + i * 16 ≡ p + suc i * 16 = omega arith in
    end_item s n (p + 8 + 8) i d (omega arith)
    ∙ ap (λ (q : ℕ). record { epoch = number_at 8 s q; end = number_at 8 s (q + 8) }) e
