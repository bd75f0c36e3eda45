-- Laws of ids and counts side by side, and of the loops over them. Assumes nothing.
use Prim.Native.Nat.{ℕ, zero, suc, ◌+◌, ◌≤◌, ◌<◌}
use mathlib.Core.Path.{◌≡◌, refl, sym, ap, ◌∙◌}
use mathlib.Core.Bool.{Bool, true, false, not}
use mathlib.Core.List.{List, [], ◌∷◌, map}
use mathlib.Core.Option.{Option, some}
use lib.Dec.{leb}
use lib.ListN.{length, take, drop, get_or, set}
use borrow.Author.Tests.{leb-true, eq-eqb, ne_eqb}
use native.Mathlib.Omega.{arith}
use Rattle.spec.specs.Lists.{filter, lead}
use Rattle.spec.specs.Map.Apply.{update}
use Rattle.spec.specs.Map.Place as place
use Rattle.spec.specs.Map.Place.{is_load, raised}
use Rattle.map_tables.proofs.Tables.{used-size, scan_on, scan_stop, scan_end, kept-rows, changed_row}
use Rattle.map_place.specs.Read.{view_load, load_of, pairs, loads_in, Columns, Light, better}
use Rattle.map_place.specs.declared.Load.{Load}
use Rattle.map_place.proofs.Collecting.{used-drop, used-at}
use Rattle.map_place.proofs.Choosing.{lightest_after, after_next, pick_end}

-- the load that stands for a place past the end
abbrev pub no_load : Load
no_load = load_of 0 0

pub pairs_long : (xs ys : List ℕ) → length xs ≡ length ys → length (pairs xs ys) ≡ length xs
unfolding pairs
pairs_long [] ys e = refl
pairs_long (x ∷ xs) [] e = absurd (omega arith)
pairs_long (x ∷ xs) (y ∷ ys) e = ap suc (pairs_long xs ys (omega arith))

pub pair_row : (xs ys : List ℕ) (i : ℕ) → i < length xs → i < length ys → get_or (pairs xs ys) i no_load ≡ load_of (get_or xs i 0) (get_or ys i 0)
unfolding pairs
pair_row [] ys i h k = absurd (omega arith)
pair_row (x ∷ xs) [] i h k = absurd (omega arith)
pair_row (x ∷ xs) (y ∷ ys) zero h k = refl
pair_row (x ∷ xs) (y ∷ ys) (suc i) h k = pair_row xs ys i (omega arith) (omega arith)

-- a load put at a place
pub pairs_set : (xs ys : List ℕ) (i x y : ℕ) → pairs (set xs i x) (set ys i y) ≡ set (pairs xs ys) i (load_of x y)
unfolding pairs
pairs_set [] ys i x y = refl
pairs_set (a ∷ xs) [] zero x y = refl
pairs_set (a ∷ xs) [] (suc i) x y = refl
pairs_set (a ∷ xs) (b ∷ ys) zero x y = refl
pairs_set (a ∷ xs) (b ∷ ys) (suc i) x y = ap (λ (l : List Load). load_of a b ∷ l) (pairs_set xs ys i x y)

-- another count at a place
pub pairs-count : (xs ys : List ℕ) (i y : ℕ) → pairs xs (set ys i y) ≡ set (pairs xs ys) i (load_of (get_or xs i 0) y)
unfolding pairs
pairs-count [] ys i y = refl
pairs-count (a ∷ xs) [] i y = refl
pairs-count (a ∷ xs) (b ∷ ys) zero y = refl
pairs-count (a ∷ xs) (b ∷ ys) (suc i) y = ap (λ (l : List Load). load_of a b ∷ l) (pairs-count xs ys i y)

-- ---- the loads in use, of arrays that are long enough

module _ (ids counts : List ℕ) (n : ℕ) (k : Columns ids counts n) where
  pub in_pairs : n ≤ length (pairs ids counts)
  in_pairs = let q = pairs_long ids counts (k.named ∙ sym k.counted) in omega arith

  pub loads_size : length (loads_in ids counts n) ≡ n
  loads_size = used-size view_load (pairs ids counts) n in_pairs

  module _ (i : ℕ) where
    abbrev pub there : place.Load
    there = record { node = get_or ids i 0; count = get_or counts i 0 }

    module _ (h : i < n) where
      pub row_is : view_load (get_or (pairs ids counts) i no_load) ≡ there
      row_is = ap view_load (pair_row ids counts i (omega arith) (omega arith))

      pub row_next : drop i (loads_in ids counts n) ≡ there ∷ drop (i + 1) (loads_in ids counts n)
      row_next =
          used-drop view_load (pairs ids counts) n in_pairs i no_load h ∙ ap (λ (x : place.Load). x ∷ drop (i + 1) (loads_in ids counts n)) row_is

      pub count_light : (most : ℕ) → Light most (loads_in ids counts n) → get_or counts i 0 ≤ most
      count_light most l =
          leb-true (get_or counts i 0) most
          (ap (λ (x : place.Load). leb x.count most) (sym row_is) ∙ used-at view_load (λ (x : place.Load). leb x.count most) (pairs ids counts) n i no_load in_pairs l h)

  -- the lightest so far, held against the rest
  module _ (p : place.Load → Bool) (i : ℕ) (o t : Option place.Load) (inv : t ≡ lightest_after o (filter p (drop i (loads_in ids counts n)))) where
    pub turn_on : i < n → (b : Option place.Load) → p (there i) ≡ true → b ≡ some (better o (there i))
        → t ≡ lightest_after b (filter p (drop (i + 1) (loads_in ids counts n)))
    unfolding filter
    turn_on h b e q =
        inv ∙ ap (λ (l : List place.Load). lightest_after o (filter p l)) (row_next i h) ∙ rw e (after_next o (there i) _)
        ∙ ap (λ (c : Option place.Load). lightest_after c (filter p (drop (i + 1) (loads_in ids counts n)))) (sym q)

    pub turn_past : i < n → p (there i) ≡ false → t ≡ lightest_after o (filter p (drop (i + 1) (loads_in ids counts n)))
    unfolding filter
    turn_past h e = inv ∙ ap (λ (l : List place.Load). lightest_after o (filter p l)) (row_next i h) ∙ rw e

    pub turn_end : n ≤ i → o ≡ t
    turn_end h = pick_end view_load p (pairs ids counts) n in_pairs i o t inv h

  -- one replica more on a node
  module _ (node i : ℕ)
      (inv : lead (λ x. not (is_load node x)) (loads_in ids counts n) ≡ i + lead (λ x. not (is_load node x)) (drop i (loads_in ids counts n))) where
    pub raise_on : i < n → (get_or ids i 0 ≡ node → ⊥)
        → lead (λ x. not (is_load node x)) (loads_in ids counts n) ≡ (i + 1) + lead (λ x. not (is_load node x)) (drop (i + 1) (loads_in ids counts n))
    raise_on h ne =
        scan_on view_load (pairs ids counts) n in_pairs (λ x. not (is_load node x)) i inv no_load h
        (ap (λ (x : place.Load). not (is_load node x)) (row_is i h) ∙ ap not (ne_eqb (get_or ids i 0) node ne))

    pub raise_stop : i < n → get_or ids i 0 ≡ node
        → loads_in ids (set counts i (get_or counts i 0 + 1)) n ≡ update (is_load node) raised (loads_in ids counts n)
    raise_stop h e =
        let is = scan_stop view_load (pairs ids counts) n in_pairs (λ x. not (is_load node x)) i inv no_load h
        (ap (λ (x : place.Load). not (is_load node x)) (row_is i h) ∙ ap not (eq-eqb (get_or ids i 0) node e)) in
        ap (λ (l : List Load). map view_load (take n l)) (pairs-count ids counts i (get_or counts i 0 + 1))
        ∙ changed_row view_load (pairs ids counts) n in_pairs (is_load node) i is raised no_load (load_of (get_or ids i 0) (get_or counts i 0 + 1)) h
        (ap raised (sym (row_is i h)))

    pub raise_end : n ≤ i → loads_in ids counts n ≡ update (is_load node) raised (loads_in ids counts n)
    raise_end h =
        kept-rows view_load (pairs ids counts) n in_pairs (is_load node) i
        (scan_end view_load (pairs ids counts) n in_pairs (λ x. not (is_load node x)) i inv h) raised h
