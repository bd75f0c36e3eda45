-- Paper 02, 2.14: the six counts cover all placements, Create has no further ending, and 35 is a total beyond 64 bits. Assumes nothing.
use Prim.Native.Nat.{ℕ, ◌+◌, ◌^◌, ◌≤◌, ◌<◌}
use mathlib.Core.Path.{◌≡◌, refl, sym, ap, ◌∙◌, subst}
use mathlib.Core.Bool.{Bool, true, false, cond}
use mathlib.Core.Logic.{◌↔◌}
use mathlib.Core.List.{List, [], ◌∷◌}
use native.Mathlib.Omega.{arith}
use lib.ListN.{length}
use lib.Dec.{eqb, ltb}
use borrow.Author.Tests.{ltb-true, lt-ltb}
use Rattle.spec.specs.Lists.{any, filter}
use Rattle.spec.specs.Limits.{max_u64}
use Rattle.spec.specs.Keys.{Name}
use Rattle.spec.specs.Map.Tables.{Spec, Map}
use Rattle.spec.specs.Map.Create.{Placement, has_collection, zero_in, matches, create_answer}
use Rattle.spec.specs.Map.Calls.{reason_number}
use Rattle.spec.specs.Map.WellFormed.{well_formed_map}
use Rattle.spec_count.specs.Tuples.{how_many}
use Rattle.spec_count.specs.Counts.{Six, Counts, six, beyond, too_wide, placements_of, ends_in, counted, six_of, is_wide, is_beyond, count_by, count_placements}
use Rattle.spec_count.specs.Closed.{room_for, total_of}
use Rattle.spec_count.proofs.HowMany.{one, many_cons}
use Rattle.spec_count.proofs.Endings.{all_alive, ending, number_of}
use Rattle.spec_count.proofs.Closed.{all_of}

abbrev pub sum_of : Six → ℕ
sum_of x = x.accepted + x.two + x.three + x.four + x.five + x.full

abbrev endings : List ℕ
endings = 0 ∷ 2 ∷ 3 ∷ 4 ∷ 5 ∷ 23 ∷ []

-- a fact of each of the six, and so of Create's number
by-ending : (P : ℕ → Type 0) → P 0 → P 2 → P 3 → P 4 → P 5 → P 23 → (a b t l r : Bool) → P (cond a 2 (cond b 3 (ending r t l)))
by-ending P p0 p2 p3 p4 p5 p23 true b t l r = p2
by-ending P p0 p2 p3 p4 p5 p23 false true t l r = p3
by-ending P p0 p2 p3 p4 p5 p23 false false false l r = p4
by-ending P p0 p2 p3 p4 p5 p23 false false true false r = p5
by-ending P p0 p2 p3 p4 p5 p23 false false true true true = p0
by-ending P p0 p2 p3 p4 p5 p23 false false true true false = p23

module _ (m : Map) (name : Name) (spec : Spec) where
  of_answer : (P : ℕ → Type 0) → P 0 → P 2 → P 3 → P 4 → P 5 → P 23 → (p : Placement) → P (reason_number (create_answer m name spec p))
  of_answer P p0 p2 p3 p4 p5 p23 p =
      subst P (sym (number_of m name spec p))
      (by-ending P p0 p2 p3 p4 p5 p23 (has_collection name m.collections) (zero_in spec) (matches spec p) (all_alive m.nodes p) (room_for m name spec.shards))

  -- Create has no further ending
  pub no_other : (p : Placement) → any (λ (n : ℕ). ends_in m name spec n p) endings ≡ true
  unfolding any ends_in
  no_other p = of_answer (λ (k : ℕ). any (λ (n : ℕ). eqb k n) endings ≡ true) refl refl refl refl refl refl p

  one_each : (p : Placement) → one (ends_in m name spec 0 p) + one (ends_in m name spec 2 p) + one (ends_in m name spec 3 p)
      + one (ends_in m name spec 4 p) + one (ends_in m name spec 5 p) + one (ends_in m name spec 23 p) ≡ 1
  unfolding ends_in
  one_each p =
      of_answer (λ (k : ℕ). one (eqb k 0) + one (eqb k 2) + one (eqb k 3) + one (eqb k 4) + one (eqb k 5) + one (eqb k 23) ≡ 1)
      refl refl refl refl refl refl p

  pub cover : (ps : List Placement) → sum_of (six_of m name spec ps) ≡ length ps
  unfolding six_of counted how_many filter
  cover [] = refl
  cover (p ∷ ps) =
      omega (
        arith,
        cover ps,
        one_each p,
        many_cons (ends_in m name spec 0) p ps,
        many_cons (ends_in m name spec 2) p ps,
        many_cons (ends_in m name spec 3) p ps,
        many_cons (ends_in m name spec 4) p ps,
        many_cons (ends_in m name spec 5) p ps,
        many_cons (ends_in m name spec 23) p ps,
      )

-- ---- 35

module _ (m : Map) (name : Name) (spec : Spec) (ids : List ℕ) (lists nodes : ℕ) where
  -- of the total alone, whatever is counted
  pub beyond_iff : well_formed_map m ≡ true → is_wide ids lists nodes ≡ false
      → (count_placements m name spec ids lists nodes ≡ beyond) ↔ (2 ^ 64 ≤ length (placements_of lists nodes ids))
  unfolding count_placements count_by is_beyond
  beyond_iff f w = (
    λ e. go (ltb max_u64 (length (placements_of lists nodes ids))) refl (rw (f, w) at e),
    λ h. rw (f, w, lt-ltb max_u64 (length (placements_of lists nodes ids)) h),
  )
    where
      go : (b : Bool) → ltb max_u64 (length (placements_of lists nodes ids)) ≡ b
          → cond b beyond (six (six_of m name spec (placements_of lists nodes ids))) ≡ beyond → 2 ^ 64 ≤ length (placements_of lists nodes ids)
      go true t e = ltb-true max_u64 (length (placements_of lists nodes ids)) t
      go false t e = let z : ◌≡◌ {A = ℕ} 0 1 = cc in absurd (omega arith)

  -- the same by the closed form
  pub beyond_closed : is_beyond (placements_of lists nodes ids) ≡ ltb max_u64 (total_of (length ids) lists nodes)
  unfolding is_beyond
  beyond_closed = ap (ltb max_u64) (all_of ids lists nodes)

  -- 36 before 35
  pub wide-first : well_formed_map m ≡ true → is_wide ids lists nodes ≡ true → count_placements m name spec ids lists nodes ≡ too_wide
  unfolding count_placements count_by
  wide-first f w = rw (f, w)
