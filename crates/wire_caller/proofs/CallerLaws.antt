-- What a caller is shown as, by the first nine bytes. Assumes nothing.
use Prim.Native.Nat.{ℕ, ◌+◌, ◌-◌, ◌≤◌, ◌<◌}
use mathlib.Core.Path.{◌≡◌, refl, sym, ap, ◌∙◌}
use mathlib.Core.Bool.{Bool, true, false, not}
use mathlib.Core.List.{List, [], ◌∷◌, append-nil}
use native.Mathlib.Omega.{arith}
use lib.Dec.{eqb}
use lib.ListN.{length, get_or, take, drop, set, length-drop}
use lib.Seq.{sets, sets-eq, take_at}
use borrow.Author.Tests.{le-leb, lt-leb, ne_eqb, eq-eqb}
use Rattle.spec.specs.Lists.{◌and◌, ◌or◌}
use Rattle.spec.specs.Layout.Format.{number_at}
use Rattle.spec_callers.specs.Editions.{is_second, first_code, plain}
use Rattle.wire_put.proofs.Writes.{sets_then}
use Rattle.wire_caller.specs.Callers.{caller_shown}
use Rattle.wire_caller.specs.declared.Caller.TheVariants.{First, By, Nobody}

pub empty : (s : List ℕ) → length s ≡ 0 → First ≡ caller_shown s
unfolding caller_shown is_second ◌or◌
empty [] e = refl
empty (x ∷ xs) e = absurd (omega (arith, e))

-- the test of the first byte, as the code makes it
module _ (s : List ℕ) (b : Bool) (is : b ≡ (eqb (get_or s 0 0) 0x28 or eqb (get_or s 0 0) 0x29)) where
  unlisted : not b ≡ true → is_second s ≡ false
  unfolding is_second
  unlisted e = sym is ∙ go b e
    where
      go : (x : Bool) → not x ≡ true → x ≡ false
      go true q = sym q
      go false q = refl

  listed : not b ≡ false → is_second s ≡ true
  unfolding is_second
  listed e = sym is ∙ go b e
    where
      go : (x : Bool) → not x ≡ false → x ≡ true
      go true q = refl
      go false q = sym q

  pub first : not b ≡ true → First ≡ caller_shown s
  unfolding caller_shown
  first e = rw (unlisted e)

  module _ (e : not b ≡ false) where
    pub short : length s < 9 → Nobody ≡ caller_shown s
    unfolding caller_shown ◌and◌
    short l = rw (listed e, lt-leb 9 (length s) l)

    module _ (l : 9 ≤ length s) (w : ℕ) (is-w : w ≡ number_at 8 s 1) where
      pub nobody : w ≡ 0 → Nobody ≡ caller_shown s
      unfolding caller_shown ◌and◌
      nobody z = rw (listed e, le-leb 9 (length s) l, ← is-w, eq-eqb w 0 z)

      pub somebody : (w ≡ 0 → ⊥) → By w ≡ caller_shown s
      unfolding caller_shown ◌and◌
      somebody d = rw (listed e, le-leb 9 (length s) l, ← is-w, ne_eqb w 0 d)

-- ---- the caller taken off

first-bytes : (bs out : List ℕ) → length bs ≤ length out → take (length bs) (sets out 0 bs) ≡ bs
first-bytes bs out l = ap (take (length bs)) (sets-eq bs out 0 (omega (arith, l))) ∙ take_at bs (drop (0 + length bs) out) (length bs) refl

pub plain-put : (s o : List ℕ) (c : ℕ) → is_second s ≡ true → 9 ≤ length s → length s ≤ 192 → length o ≡ 184 → c ≡ first_code (get_or s 0 0)
    → take (length s - 8) (sets (set o 0 c) 1 (drop 9 s)) ≡ plain s
unfolding plain
plain-put s o c e l m n k =
    let d = length-drop 9 s in
    let j : length s - 8 ≡ length (c ∷ drop 9 s) = omega (arith, d, l) in
    rw e
    (ap (λ (v : List ℕ). take (length s - 8) v) (sets_then o 0 1 (c ∷ []) (drop 9 s) refl)
    ∙ ap (λ (i : ℕ). take i (sets o 0 (c ∷ drop 9 s))) j ∙ first-bytes (c ∷ drop 9 s) o (omega (arith, d, l, m, n)) ∙ ap (λ (i : ℕ). i ∷ drop 9 s) k)

-- as the code leaves it: p the buffer with the code, q with the rest behind it
pub plain-left : (s o : List ℕ) → (is_second s ≡ true) × (9 ≤ length s) × (length s ≤ 192) × (length o ≡ 184) → (c : ℕ) → c ≡ first_code (get_or s 0 0)
    → (p : List ℕ) → p ≡ set o 0 c → (q : List ℕ) → q ≡ sets p 1 (take (length s - 9) (drop 9 s)) → take (length s - 8) q ≡ plain s
plain-left s o r c k p e q f =
    let w : take (length s - 9) (drop 9 s) ≡ drop 9 s =
    ap (take (length s - 9)) (sym (append-nil (drop 9 s))) ∙ take_at (drop 9 s) [] (length s - 9) (length-drop 9 s) in
    ap (take (length s - 8)) (f ∙ ap (λ (v : List ℕ). sets v 1 (take (length s - 9) (drop 9 s))) e ∙ ap (sets (set o 0 c) 1) w) ∙ plain-put s o c r.0 r.1 r.2 r.3 k
