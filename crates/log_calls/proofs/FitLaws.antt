-- Laws of the test of a lent store, of a search behind it and of its ids. Assumes nothing.
use Prim.Native.Nat.{ℕ, ◌<◌, ◌≤◌}
use mathlib.Core.Path.{◌≡◌, refl, sym, ap, ◌∙◌, subst}
use mathlib.Core.Bool.{Bool, true, false, not, cond}
use mathlib.Core.List.{List, [], ◌∷◌, map}
use lib.Dec.{eqb, ltb}
use lib.Ieee.{Float}
use lib.ListN.{length, take}
use lib.Seq.{length-take-le}
use native.Mathlib.Omega.{arith}
use borrow.Author.Tests.{eqb-true, eq-eqb, ne_eqb}
use Rattle.spec.specs.Lists.{◌and◌}
use Rattle.spec.specs.Refusals.{outside_domain, malformed, no_room}
use Rattle.spec.specs.Nearest.Search.{Vector, hits}
use Rattle.spec.specs.Log.{Log}
use Rattle.spec.specs.Node.WellFormed.{well_formed_vector}
use Rattle.spec.specs.Node.Client.{SearchAnswer, found, search_refused}
use Rattle.spec.specs.declared.Metric.{Metric}
use Rattle.spec_laws.proofs.Lists.{and_left, and_right}
use Rattle.spec_laws.proofs.Wire.Tests.{and_true, and_false}
use Rattle.log_store.specs.Table.{zipped, rows_of, vector_of, vectors_of}
use Rattle.log_store.specs.Store.{Store, Sized, store_log, store_rows, well_formed_store}
use Rattle.log_store.proofs.Facts.{facts}
use Rattle.log_search.specs.declared.answer.Found.{Found}
use Rattle.log_search.specs.declared.answer.Found.TheVariants.{Refused}
use Rattle.log_search.specs.Search.{search_store, Searched}
use Rattle.log_calls.specs.Fits.{all_whole, sized, lent_fits, search_lent, ids_lent}

-- a length that passes leaves the rest to decide; one that does not decides
pub whole-step : (n : ℕ) (x y : Bool) → n ≡ 1024 → x ≡ y → x ≡ (eqb n 1024 and y)
whole-step n x y h e = e ∙ sym (ap (λ (b : Bool). b and y) (eq-eqb n 1024 h) ∙ and_true y)

pub whole_stop : (n : ℕ) (y : Bool) → (n ≡ 1024 → ⊥) → false ≡ (eqb n 1024 and y)
whole_stop n y h = sym (ap (λ (b : Bool). b and y) (ne_eqb n 1024 h) ∙ and_false y)

module _ (s : Store) where
  -- the lengths of the columns
  abbrev pub lengths_whole : Bool
  lengths_whole =
      all_whole
      (length s.columns.epochs) (length s.columns.offsets) (length s.columns.ids) (length s.columns.codes)
      (length s.columns.lengths) (length s.keys) (length s.places)

  pub whole-sized : lengths_whole ≡ true → Sized s
  whole-sized e =
      let e2 = and_right _ _ e in
      let e3 = and_right _ _ e2 in
      let e4 = and_right _ _ e3 in
      let e5 = and_right _ _ e4 in
      let e6 = and_right _ _ e5 in
      record {
        epochs = eqb-true _ _ (and_left _ _ e);
        offsets = eqb-true _ _ (and_left _ _ e2);
        ids = eqb-true _ _ (and_left _ _ e3);
        codes = eqb-true _ _ (and_left _ _ e4);
        lengths = eqb-true _ _ (and_left _ _ e5);
        keys = eqb-true _ _ (and_left _ _ e6);
        places = eqb-true _ _ (and_right _ _ e6);
      }

  sized-whole : Sized s → lengths_whole ≡ true
  sized-whole z =
      sym (whole-step _ true _ z.epochs (whole-step _ true _ z.offsets (whole-step _ true _ z.ids (whole-step _ true _ z.codes
      (whole-step _ true _ z.lengths (whole-step _ true _ z.keys (sym (eq-eqb _ _ z.places))))))))

  -- columns of other lengths are no store
  pub fits_not : lengths_whole ≡ false → false ≡ lent_fits s
  unfolding lent_fits sized
  fits_not e = sym (ap (λ (b : Bool). b and well_formed_store s) e ∙ and_false (well_formed_store s))

  pub fits_so : (r : Bool) → lengths_whole ≡ true → r ≡ well_formed_store s → r ≡ lent_fits s
  unfolding lent_fits sized
  fits_so r e w = w ∙ sym (ap (λ (b : Bool). b and well_formed_store s) e ∙ and_true (well_formed_store s))

  pub fits-sized : lent_fits s ≡ true → Sized s
  unfolding lent_fits sized
  fits-sized e = whole-sized (and_left _ _ e)

  pub fits-well : lent_fits s ≡ true → well_formed_store s ≡ true
  unfolding lent_fits
  fits-well e = and_right (sized s) _ e

  -- a log that is not full has room
  pub count_room : lent_fits s ≡ true → (s.count ≡ 1024 → ⊥) → s.count < 1024
  count_room f n = let most = (facts s (fits-well f)).count in omega (arith, n)

  pub fits-from : Sized s → well_formed_store s ≡ true → lent_fits s ≡ true
  fits-from z w = sym (fits_so true (sized-whole z) (sym w))

-- ---- search

module _ (s : Store) (m : Metric) (q : List Float) (k room : ℕ) (is : List ℕ) (ds : List Float) where
  abbrev short : SearchAnswer
  short =
      let h = hits m q (vectors_of (store_log s) (store_rows s)) k in
      cond (ltb room (length h)) (search_refused no_room) (found h)

  lent_by : (a b : Bool) → well_formed_vector q ≡ a → lent_fits s ≡ b
      → search_lent s m q k room ≡ cond (not a) (search_refused outside_domain) (cond (not b) (search_refused malformed) short)
  unfolding search_lent
  lent_by a b e f =
      ap (λ (x : Bool). cond (not x) (search_refused outside_domain) (cond (not (lent_fits s)) (search_refused malformed) short)) e
      ∙ ap (λ (x : Bool). cond (not a) (search_refused outside_domain) (cond (not x) (search_refused malformed) short)) f

  pub search_outside : well_formed_vector q ≡ false → Searched (search_lent s m q k room) (Refused 22) is is ds ds
  search_outside e =
      subst (λ (a : SearchAnswer). Searched a (Refused 22) is is ds ds) (sym (lent_by false (lent_fits s) e refl)) (refl, refl, refl)

  pub search_malformed : well_formed_vector q ≡ true → lent_fits s ≡ false → Searched (search_lent s m q k room) (Refused 24) is is ds ds
  search_malformed e f = subst (λ (a : SearchAnswer). Searched a (Refused 24) is is ds ds) (sym (lent_by true false e f)) (refl, refl, refl)

  -- past the tests it is the search of a tested store
  pub search_same : (r : Found) (is' : List ℕ) (ds' : List Float) → well_formed_vector q ≡ true → lent_fits s ≡ true
      → Searched (search_store s m q k room) r is is' ds ds' → Searched (search_lent s m q k room) r is is' ds ds'
  unfolding search_store
  search_same r is' ds' e f d =
      let p : search_store s m q k room ≡ short =
      ap (λ (x : Bool). cond (not x) (search_refused outside_domain) (cond (not (well_formed_store s)) (search_refused malformed) short)) e
      ∙ ap (λ (x : Bool). cond (not x) (search_refused malformed) short) (fits-well s f) in
      subst (λ (a : SearchAnswer). Searched a r is is' ds ds') (p ∙ sym (lent_by true true e f)) d

-- ---- ids

ids-zipped : (l : Log) (ks ps : List ℕ) → length ks ≡ length ps → map (λ (v : Vector). v.id) (vectors_of l (zipped ks ps)) ≡ ks
unfolding vectors_of vector_of zipped
ids-zipped l [] ps e = refl
ids-zipped l (k ∷ ks) [] e = absurd (omega arith)
ids-zipped l (k ∷ ks) (p ∷ ps) e = ap (λ (r : List ℕ). k ∷ r) (ids-zipped l ks ps (omega arith))

module _ (s : Store) (f : lent_fits s ≡ true) where
  pub stored-fits : s.stored ≤ length s.keys
  stored-fits = let z = fits-sized s f in let h = (facts s (fits-well s f)).stored in omega (arith, z.keys)

  pub ids-there : take s.stored s.keys ≡ ids_lent s
  unfolding ids_lent rows_of
  ids-there =
      let z = fits-sized s f in
      let h = (facts s (fits-well s f)).stored in
      let k = length-take-le s.stored s.keys stored-fits in
      let p = length-take-le s.stored s.places (omega (arith, z.places)) in
      sym (ids-zipped (store_log s) (take s.stored s.keys) (take s.stored s.places) (omega arith))
      ∙ sym (ap (λ (b : Bool). cond b (map (λ (v : Vector). v.id) (vectors_of (store_log s) (store_rows s))) []) f)

pub ids-none : (s : Store) → lent_fits s ≡ false → [] ≡ ids_lent s
unfolding ids_lent
ids-none s f = sym (ap (λ (b : Bool). cond b (map (λ (v : Vector). v.id) (vectors_of (store_log s) (store_rows s))) []) f)
