-- An epoch table, read pair by pair into two columns. Assumes nothing.
use Prim.Native.Nat.{ℕ, zero, suc, ◌+◌, ◌*◌, ◌≤◌, ◌<◌}
use mathlib.Core.Path.{◌≡◌, refl, ap, subst, ◌∙◌}
use mathlib.Core.Bool.{Bool, true, false}
use mathlib.Core.List.{List, [], ◌∷◌, map}
use lib.ListN.{length, get_or, take, set}
use lib.Seq.{get_or-set_same, get_or-set_other}
use lib.Dec.{eqb}
use borrow.Author.Tests.{eqb-true, eqb-false}
use native.Mathlib.Omega.{arith}
use Rattle.spec.specs.Log.{End}
use Rattle.spec.specs.Layout.Format.{◌▸◌, next, value, value_n, number_at}
use Rattle.spec.specs.Layout.Parts.{u64, end_of}
use Rattle.log_store.specs.Align.{paired, table_of, Aligned}
use Rattle.log_store.specs.Store.{Store}
use Rattle.log_store.specs.declared.replica.Adoption.{Adoption}
use Rattle.wire_read.specs.declared.Part.{Part}
use Rattle.log_domain.specs.Parts.{table_in}

-- the pairs from a place of the message on are those of the columns from a place on
unfoldable pub PairsFrom : List ℕ → (froms ends : List ℕ) → (at n : ℕ) → Type 0
PairsFrom s fs es at n = (i : ℕ) → i < n → (get_or fs i 0 ≡ number_at 8 s (at + i * 16)) × (get_or es i 0 ≡ number_at 8 s (at + i * 16 + 8))

read_pairs : (s fs es : List ℕ) (n at : ℕ) → n ≤ length fs → n ≤ length es → PairsFrom s fs es at n
    → paired (take n fs) (take n es) ≡ map end_of (value_n (value (u64 ▸ u64) s) (next (u64 ▸ u64) s) n at)
unfolding PairsFrom paired
read_pairs s fs es zero at h k p = refl
read_pairs s [] es (suc n) at h k p = absurd (omega arith)
read_pairs s (f ∷ fs) [] (suc n) at h k p = absurd (omega arith)
read_pairs s (f ∷ fs) (e ∷ es) (suc n) at h k p =
    let z = p 0 (omega arith) in
    let a : at + 0 * 16 ≡ at = omega arith in
    let q : f ≡ number_at 8 s at = rw a at z.0 in
    let r : e ≡ number_at 8 s (at + 8) = rw a at z.1 in
    rw (q, r) (ap (λ (t : List End). record { epoch = number_at 8 s at; end = number_at 8 s (at + 8) } ∷ t)
    (read_pairs s fs es n (at + 8 + 8) (omega arith) (omega arith) (λ i l.
    let b : at + suc i * 16 ≡ at + 8 + 8 + i * 16 = omega arith in
    let y = p (suc i) (omega arith) in
    (rw b at y.0, rw b at y.1))))

below : (n i : ℕ) → i < n + 1 → (i ≡ n → ⊥) → i < n
below n i h d = omega (arith, d)

pub table-read : (s fs es : List ℕ) (p : Part) → p.len ≤ length fs → p.len ≤ length es → PairsFrom s fs es p.at p.len
    → table_of fs es p.len ≡ table_in s p
unfolding table_of table_in
table-read s fs es p h k q = read_pairs s fs es p.len p.at h k q

pub pairs-none : (s fs es : List ℕ) (at : ℕ) → PairsFrom s fs es at 0
unfolding PairsFrom
pairs-none s fs es at i h = absurd (omega arith)

-- one pair more
pub pairs-on : (s fs es : List ℕ) (at n x y : ℕ) → n < length fs → n < length es → x ≡ number_at 8 s (at + n * 16) → y ≡ number_at 8 s (at + n * 16 + 8)
    → PairsFrom s fs es at n → PairsFrom s (set fs n x) (set es n y) at (n + 1)
unfolding PairsFrom
pairs-on s fs es at n x y h k q r p i l = by (eqb i n) refl
  where
    by : (b : Bool) → eqb i n ≡ b
        → (get_or (set fs n x) i 0 ≡ number_at 8 s (at + i * 16)) × (get_or (set es n y) i 0 ≡ number_at 8 s (at + i * 16 + 8))
    by true e =
        let d : i ≡ n = eqb-true i n e in
        rw d (get_or-set_same fs n x 0 h ∙ q, get_or-set_same es n y 0 k ∙ r)
    by false e =
        let d = eqb-false i n e in
        let z = p i (below n i l d) in
        (get_or-set_other fs n i x 0 d ∙ z.0, get_or-set_other es n i y 0 d ∙ z.1)

pub aligned-by : (own epoch end : ℕ) (t t' : List End) (s s' : Store) (a : Adoption) → t ≡ t' → Aligned own epoch end t s s' a
    → Aligned own epoch end t' s s' a
aligned-by own epoch end t t' s s' a e d = subst (λ (x : List End). Aligned own epoch end x s s' a) e d
