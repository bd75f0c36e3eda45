-- Laws of the ids in use: what is left of them from a place on, and 36. Assumes nothing.
use Prim.Native.Nat.{ℕ, ◌+◌, ◌≤◌, ◌<◌}
use mathlib.Core.Path.{◌≡◌, refl, sym, ap, ◌∙◌}
use mathlib.Core.Bool.{Bool, true, false}
use mathlib.Core.List.{List, [], ◌∷◌}
use native.Mathlib.Numerals.{add-one}
use native.Mathlib.Omega.{arith}
use lib.Dec.{eqb, ltb}
use lib.ListN.{length, take, drop, get_or, drop_of_length-le}
use lib.Seq.{drop-cons, get_or-take, length-take-le}
use borrow.Author.Tests.{lt-ltb, le-ltb, ltb-false}
use Rattle.spec.specs.Lists.{◌or◌, any, filter}
use Rattle.spec.specs.Limits.{max_lists, max_listed}
use Rattle.spec_count.specs.Tuples.{how_many}
use Rattle.spec_count.specs.Counts.{max_ids, repeats, is_wide}
use Rattle.image_map_count.specs.Read.{view_ids, wide_lent}
use Rattle.image_map_count.specs.declared.IdSet.{IdSet}
use Rattle.spec_count.proofs.HowMany.{one, many_cons}

module _ (items : List ℕ) (n : ℕ) (fits : n ≤ length items) where
  module _ (i : ℕ) (h : i < n) where
    -- the next id, then the rest
    ids_next : drop i (take n items) ≡ get_or items i 0 ∷ drop (i + 1) (take n items)
    ids_next =
        drop-cons (take n items) i 0 (omega (arith, length-take-le n items fits))
        ∙ rw (add-one, get_or-take n items i 0 h)

    pub any_goes : (p : ℕ → Bool) (whole : Bool) → whole ≡ any p (drop i (take n items)) → p (get_or items i 0) ≡ false
        → whole ≡ any p (drop (i + 1) (take n items))
    unfolding any
    any_goes p whole e f = e ∙ ap (any p) ids_next ∙ rw f

    pub any_stops : (p : ℕ → Bool) (whole : Bool) → whole ≡ any p (drop i (take n items)) → p (get_or items i 0) ≡ true → true ≡ whole
    unfolding any
    any_stops p whole e f = sym (e ∙ ap (any p) ids_next ∙ rw f)

    pub twice_goes : (whole : Bool) → whole ≡ repeats (drop i (take n items)) → any (eqb (get_or items i 0)) (drop (i + 1) (take n items)) ≡ false
        → whole ≡ repeats (drop (i + 1) (take n items))
    unfolding repeats ◌or◌
    twice_goes whole e f = e ∙ ap repeats ids_next ∙ rw f

    pub twice_stops : (whole : Bool) → whole ≡ repeats (drop i (take n items)) → any (eqb (get_or items i 0)) (drop (i + 1) (take n items)) ≡ true
        → true ≡ whole
    unfolding repeats ◌or◌
    twice_stops whole e f = sym (e ∙ ap repeats ids_next ∙ rw f)

    pub many_goes : (p : ℕ → Bool) (so whole : ℕ) → so + how_many p (drop i (take n items)) ≡ whole → p (get_or items i 0) ≡ false
        → so + how_many p (drop (i + 1) (take n items)) ≡ whole
    many_goes p so whole e f =
        omega
        (arith, e, ap (how_many p) ids_next, many_cons p (get_or items i 0) (drop (i + 1) (take n items)), ap one f)

    pub many_adds : (p : ℕ → Bool) (so whole : ℕ) → so + how_many p (drop i (take n items)) ≡ whole → p (get_or items i 0) ≡ true
        → so + 1 + how_many p (drop (i + 1) (take n items)) ≡ whole
    many_adds p so whole e f =
        omega
        (arith, e, ap (how_many p) ids_next, many_cons p (get_or items i 0) (drop (i + 1) (take n items)), ap one f)

  module _ (i : ℕ) (h : n ≤ i) where
    ids-done : drop i (take n items) ≡ []
    ids-done = drop_of_length-le (take n items) {i = i} (omega (arith, length-take-le n items fits))

    pub any-ends : (p : ℕ → Bool) (whole : Bool) → whole ≡ any p (drop i (take n items)) → false ≡ whole
    unfolding any
    any-ends p whole e = sym (e ∙ ap (any p) ids-done)

    pub twice_ends : (whole : Bool) → whole ≡ repeats (drop i (take n items)) → false ≡ whole
    unfolding repeats
    twice_ends whole e = sym (e ∙ ap repeats ids-done)

    pub many-ends : (p : ℕ → Bool) (so whole : ℕ) → so + how_many p (drop i (take n items)) ≡ whole → so ≡ whole
    unfolding how_many filter
    many-ends p so whole e = omega (arith, e, ap (how_many p) ids-done)

-- 36, test by test in any order
module _ (ids : List ℕ) (lists nodes : ℕ) where
  pub wide_lists : max_lists < lists → is_wide ids lists nodes ≡ true
  unfolding is_wide ◌or◌
  wide_lists h = rw (lt-ltb max_lists lists h) (go (ltb max_ids (length ids)) (repeats ids))
    where
      go : (a b : Bool) → a or b or true or ltb max_listed nodes ≡ true
      go true b = refl
      go false true = refl
      go false false = refl

  pub wide-nodes : max_listed < nodes → is_wide ids lists nodes ≡ true
  unfolding is_wide ◌or◌
  wide-nodes h = rw (lt-ltb max_listed nodes h) (go (ltb max_ids (length ids)) (repeats ids) (ltb max_lists lists))
    where
      go : (a b c : Bool) → a or b or c or true ≡ true
      go true b c = refl
      go false true c = refl
      go false false true = refl
      go false false false = refl

  pub wide-twice : length ids ≤ max_ids → lists ≤ max_lists → nodes ≤ max_listed → is_wide ids lists nodes ≡ repeats ids
  unfolding is_wide ◌or◌
  wide-twice h k l = rw (le-ltb max_ids (length ids) h, le-ltb max_lists lists k, le-ltb max_listed nodes l) (go (repeats ids))
    where
      go : (b : Bool) → b or false or false ≡ b
      go true = refl
      go false = refl

-- .. and of a lent set
module _ (s : IdSet) (lists nodes : ℕ) where
  pub lent-count : max_ids < s.count → true ≡ wide_lent s lists nodes
  unfolding wide_lent ◌or◌
  lent-count h = rw (lt-ltb max_ids s.count h)

  pub lent-few : s.count ≤ max_ids → wide_lent s lists nodes ≡ is_wide (view_ids s) lists nodes
  unfolding wide_lent ◌or◌
  lent-few h = rw (le-ltb max_ids s.count h)

  or_left : (a b : Bool) → a or b ≡ false → a ≡ false
  unfolding ◌or◌
  or_left true b e = e
  or_left false b e = refl

  or_right : (a b : Bool) → a or b ≡ false → b ≡ false
  unfolding ◌or◌
  or_right true b e = let z : ◌≡◌ {A = ℕ} 0 1 = cc in absurd (omega arith)
  or_right false b e = e

  pub record Narrow : Type 0 where
    pub few : s.count ≤ max_ids
    pub listed : lists ≤ max_lists
    pub held : nodes ≤ max_listed

  pub narrow : wide_lent s lists nodes ≡ false → Narrow
  unfolding wide_lent is_wide
  narrow e =
      let a = or_right _ _ e in
      let b = or_right _ _ a in
      let c = or_right _ _ b in
      record {
        few = ltb-false max_ids s.count (or_left _ _ e);
        listed = ltb-false max_lists lists (or_left _ _ c);
        held = ltb-false max_listed nodes (or_right _ _ c);
      }
