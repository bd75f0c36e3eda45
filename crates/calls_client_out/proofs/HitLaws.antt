-- Neighbours written one after the other. Assumes nothing.
use Prim.Native.Nat.{ℕ, zero, suc, ◌+◌, ◌*◌}
use mathlib.Core.Path.{◌≡◌, refl, sym, ap, ◌∙◌}
use mathlib.Core.Bool.{Bool, true, false, not, beq}
use mathlib.Core.List.{List, [], ◌∷◌, ◌++◌, append_assoc, append-nil}
use native.Mathlib.Omega.{arith}
use lib.Dec.{T}
use lib.Ieee.{Float, nan, inf, fin, eq, level, up, down, is_nan, to_bits}
use lib.ListN.{length, get_or, length-append}
use lib.Seq.{sets}
use Rattle.spec.specs.Layout.Format.{bytes_of, concat_map}
use Rattle.spec.specs.Node.Wire.{bits_of}
use Rattle.spec_laws.proofs.Lists.{not_both}
use Rattle.spec_laws.proofs.Wire.Bytes.{length-bytes}
use borrow.Author.Tests.{eq-eqb}
use Rattle.log_store.specs.View.{firsts}
use Rattle.log_store.proofs.Firsts.{firsts-next}
use Rattle.wire_write.proofs.Writes.{sets_then}
use Rattle.calls_client_out.specs.Hits.{hit_at, hit_bytes, hits_bytes}

-- ---- the bits of a float

-- what equals itself is a number
pub self_number : (x : Float) → eq x x ≡ true → T (not (is_nan x))
unfolding eq is_nan
self_number nan e = not_both false e refl
self_number (inf t) e = tt
self_number (fin t m d) e = tt

beq_same : (s : Bool) → beq s s ≡ true
beq_same true = refl
beq_same false = refl

level-same : (s : Bool) (a : ℕ) → level s a s a ≡ true
level-same s a = rw (eq-eqb a a refl, beq_same s) refl

-- what does not is the NaN
pub other_nan : (x : Float) → eq x x ≡ false → 2143289344 ≡ bits_of x
unfolding eq to_bits
other_nan nan e = refl
other_nan (inf t) e = not_both (beq t t) (beq_same t) e
other_nan (fin t m d) e = not_both _ (level-same t (m * up d * down d)) e

-- ---- neighbours one after the other

concat_snoc : {A : Type 0} (f : A → List ℕ) (l : List A) (x : A) → concat_map f (l ++ (x ∷ [])) ≡ concat_map f l ++ f x
concat_snoc f [] x = append-nil (f x)
concat_snoc f (y ∷ l) x = ap (λ (z : List ℕ). f y ++ z) (concat_snoc f l x) ∙ sym (append_assoc (f y) (concat_map f l) (f x))

module _ (is : List ℕ) (ds : List Float) where
  hits_next : (n : ℕ) → hits_bytes is ds (n + 1) ≡ hits_bytes is ds n ++ hit_bytes (hit_at is ds n)
  unfolding hits_bytes
  hits_next n = ap (concat_map hit_bytes) (firsts-next (hit_at is ds) n) ∙ concat_snoc hit_bytes (firsts (hit_at is ds) n) (hit_at is ds n)

  hit-length : (i : ℕ) → length (hit_bytes (hit_at is ds i)) ≡ 12
  hit-length i =
      let b = bytes_of 4 (bits_of (get_or ds i nan)) in
      length-append (bytes_of 8 (get_or is i 0)) b
      ∙ ap (λ (n : ℕ). n + length b) (length-bytes 8 (get_or is i 0))
      ∙ ap (λ (n : ℕ). 8 + n) (length-bytes 4 (bits_of (get_or ds i nan)))

  pub hits-length : (n : ℕ) → length (hits_bytes is ds n) ≡ 12 * n
  unfolding hits_bytes firsts
  hits-length zero = refl
  hits-length (suc n) =
      ap length (concat_snoc hit_bytes (firsts (hit_at is ds) n) (hit_at is ds n))
      ∙ length-append (concat_map hit_bytes (firsts (hit_at is ds) n)) (hit_bytes (hit_at is ds n))
      ∙ ap (λ (k : ℕ). k + length (hit_bytes (hit_at is ds n))) (hits-length n)
      ∙ ap (λ (k : ℕ). 12 * n + k) (hit-length n)
      ∙ omega arith

  -- nothing is written yet
  pub hits-none : (l : List ℕ) → l ≡ sets l 0 (hits_bytes is ds 0)
  unfolding hits_bytes firsts
  hits-none l = refl

  -- one more
  pub hits-put : (l : List ℕ) (i : ℕ) → sets (sets (sets l 0 (hits_bytes is ds i)) (12 * i) (bytes_of 8 (get_or is i 0))) (12 * i + 8) (bytes_of 4 (bits_of (get_or ds i nan)))
      ≡ sets l 0 (hits_bytes is ds (i + 1))
  hits-put l i =
      sets_then (sets l 0 (hits_bytes is ds i)) (12 * i) (12 * i + 8) (bytes_of 8 (get_or is i 0)) (bytes_of 4 (bits_of (get_or ds i nan)))
      (ap (λ (k : ℕ). 12 * i + k) (sym (length-bytes 8 (get_or is i 0))))
      ∙ sets_then l 0 (12 * i) (hits_bytes is ds i) (hit_bytes (hit_at is ds i)) (omega (arith, hits-length i))
      ∙ ap (sets l 0) (sym (hits_next i))
