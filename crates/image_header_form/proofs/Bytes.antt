-- What is read of two lists that agree from a position on, and what a store leaves behind it. Assumes nothing.
use Prim.Native.Nat.{ℕ, zero, suc, ◌+◌, ◌≤◌}
use mathlib.Core.Path.{◌≡◌, refl, sym, ap, ◌∙◌}
use mathlib.Core.List.{List, [], ◌∷◌}
use lib.ListN.{length, get_or, drop}
use lib.Seq.{sets, drop-drop}
use Rattle.spec.specs.Layout.Format.{number_at}
use Rattle.spec_laws.proofs.Wire.Bytes.{cut-append}
use Rattle.image_parts.specs.Shape.{Shape, byte, word, ◌▸◌, rep, size, items, value, Stored}
use Rattle.image_parts.proofs.Back.{drop-sets}

first_of : (s : List ℕ) (at : ℕ) → get_or s at 0 ≡ get_or (drop at s) 0 0
first_of [] zero = refl
first_of [] (suc n) = refl
first_of (x ∷ s) zero = refl
first_of (x ∷ s) (suc n) = first_of s n

pub drop-on : (s t : List ℕ) (at k : ℕ) → drop at s ≡ drop at t → drop (at + k) s ≡ drop (at + k) t
drop-on s t at k e = sym (drop-drop k at s) ∙ ap (drop k) e ∙ drop-drop k at t

byte_past : (s t : List ℕ) (at : ℕ) → drop at s ≡ drop at t → get_or s at 0 ≡ get_or t at 0
byte_past s t at e = first_of s at ∙ ap (λ (l : List ℕ). get_or l 0 0) e ∙ sym (first_of t at)

number_past : (k : ℕ) (s t : List ℕ) (at : ℕ) → drop at s ≡ drop at t → number_at k s at ≡ number_at k t at
number_past zero s t at e = refl
number_past (suc k) s t at e = rw (byte_past s t at e, number_past k s t (at + 1) (drop-on s t at 1 e))

items_past : {A : Type 0} (n : ℕ) (get put : ℕ → A) (w at : ℕ) (s t : List ℕ) → ((p : ℕ) → drop p s ≡ drop p t → get p ≡ put p)
    → drop at s ≡ drop at t → items n get w at ≡ items n put w at
items_past zero get put w at s t law e = refl
items_past (suc n) get put w at s t law e = rw (law at e, items_past n get put w (at + w) s t law (drop-on s t at w e))

pub value_past : (f : Shape) (s t : List ℕ) (at : ℕ) → drop at s ≡ drop at t → value f s at ≡ value f t at
value_past byte s t at e = byte_past s t at e
value_past (word k) s t at e = number_past k s t at e
value_past (f ▸ g) s t at e = rw (value_past f s t at e, value_past g s t (at + size f) (drop-on s t at (size f) e))
value_past (rep n f) s t at e = items_past n (value f s) (value f t) (size f) at s t (λ p q. value_past f s t p q) e

pub drop-after : {s t : List ℕ} {at : ℕ} {b : List ℕ} {n : ℕ} → Stored s t at b n → at + n ≤ length s → drop (at + n) t ≡ drop (at + n) s
drop-after {s} {t} {at} {b} {n} p h =
    let k : at + length b ≤ length s = rw p.long h in
    let e : drop (at + length b) (sets s at b) ≡ drop (at + length b) s = cut-append (sets s at b) at b (drop (at + length b) s) (drop-sets s at b k) in
    ap (drop (at + n)) p.image ∙ (rw p.long at e)
