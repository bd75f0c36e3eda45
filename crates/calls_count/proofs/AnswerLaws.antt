-- The answer of the call, case by case: what is given, and what is put. Assumes nothing.
use Prim.Native.Nat.{ℕ, zero, suc, ◌+◌, ◌/◌, ◌%◌, ◌≤◌, ◌<◌}
use mathlib.Core.Path.{◌≡◌, refl, sym, ap, subst, ◌∙◌}
use mathlib.Core.Bool.{Bool, true, false, cond}
use mathlib.Core.List.{List, [], ◌∷◌}
use native.Mathlib.Omega.{arith}
use lib.Dec.{leb, ltb}
use lib.ListN.{length, get_or, take}
use lib.Seq.{sets}
use borrow.Author.Tests.{lt-ltb, le-ltb, le-leb, lt-leb, leb-true, leb-false, eq-eqb, ne_eqb}
use Rattle.spec.specs.Lists.{◌and◌, ◌or◌}
use Rattle.spec.specs.Layout.Format.{bytes_of, concat_map, number_at}
use Rattle.spec.specs.Limits.{max_name}
use Rattle.spec.specs.Refusals as said
use Rattle.spec.specs.Map.Tables as tables
use Rattle.spec.specs.Map.Create.{Placement}
use Rattle.wire_put.specs.Fields.{text_fits}
use Rattle.map_tables.specs.Names.{view_name}
use Rattle.map_tables.specs.View.{view_map, view_spec}
use Rattle.map_tables.specs.declared.Name.{Name}
use Rattle.map_tables.specs.declared.Spec.{Spec}
use Rattle.map_check.specs.Lent.{well_formed_lent}
use Rattle.image_map.specs.Image.{map_at, map_lent}
use Rattle.spec_count.specs.Counts.{Counts, six, not_counted, max_ids, is_wide, placements_of, count_by}
use Rattle.image_map_count.specs.Answers.{count_lent}
use Rattle.image_map_count.specs.Read.{view_ids, view_six, wide_lent}
use Rattle.image_map_count.specs.declared.IdSet.{IdSet}
use Rattle.calls_count.specs.Calls.{ids_from, ids_in, Loaded, tally_of, six_bytes, Answers}

-- ---- ids

-- n ids are n
ids-size : (n : ℕ) (s : List ℕ) (at : ℕ) → length (ids_from n s at) ≡ n
unfolding ids_from
ids-size zero s at = refl
ids-size (suc n) s at = ap suc (ids-size n s (at + 8))

module _ (s : List ℕ) where
  cell : (x at : ℕ) → x ≡ cond (leb (at + 8) (length s)) (number_at 8 s at) 0 → at + 8 ≤ length s → x ≡ number_at 8 s at
  cell x at e h = e ∙ ap (λ (b : Bool). cond b (number_at 8 s at) 0) (le-leb (at + 8) (length s) h)

  pub id-there : (x at : ℕ) → at + 8 ≤ length s → x ≡ number_at 8 s at → x ≡ cond (leb (at + 8) (length s)) (number_at 8 s at) 0
  id-there x at h e = e ∙ sym (ap (λ (b : Bool). cond b (number_at 8 s at) 0) (le-leb (at + 8) (length s) h))

  pub id-none : (at : ℕ) → length s < at + 8 → 0 ≡ cond (leb (at + 8) (length s)) (number_at 8 s at) 0
  id-none at h = sym (ap (λ (b : Bool). cond b (number_at 8 s at) 0) (lt-leb (at + 8) (length s) h))

  module _ (a b c d : ℕ) (ea : a ≡ cond (leb 8 (length s)) (number_at 8 s 0) 0) (eb : b ≡ cond (leb 16 (length s)) (number_at 8 s 8) 0)
      (ec : c ≡ cond (leb 24 (length s)) (number_at 8 s 16) 0) (ed : d ≡ cond (leb 32 (length s)) (number_at 8 s 24) 0) where
    read-ids : (n : ℕ) → length s / 8 ≡ n → n ≤ 4 → take n (a ∷ b ∷ c ∷ d ∷ []) ≡ ids_from n s 0
    unfolding ids_from
    read-ids zero e h = refl
    read-ids (suc zero) e h = let p = cell a 0 ea (omega arith) in cc
    read-ids (suc (suc zero)) e h = let p = cell a 0 ea (omega arith) in let q = cell b 8 eb (omega arith) in cc
    read-ids (suc (suc (suc zero))) e h = let p = cell a 0 ea (omega arith) in let q = cell b 8 eb (omega arith) in let r = cell c 16 ec (omega arith) in cc
    read-ids (suc (suc (suc (suc zero)))) e h =
        let p = cell a 0 ea (omega arith) in
        let q = cell b 8 eb (omega arith) in
        let r = cell c 16 ec (omega arith) in
        let t = cell d 24 ed (omega arith) in
        cc
    read-ids (suc (suc (suc (suc (suc n))))) e h = absurd (omega arith)

    pub loaded : Loaded s (record { items = a ∷ b ∷ c ∷ d ∷ []; count = length s / 8 })
    unfolding ids_in
    loaded = record { count = refl; ids = λ h. read-ids (length s / 8) refl h }

ids-many : (s : List ℕ) → length (ids_in s) ≡ length s / 8
unfolding ids_in
ids-many s = ids-size (length s / 8) s 0

-- of more than 4 ids the placements do not matter
wide-many : (ids : List ℕ) (lists nodes : ℕ) → max_ids < length ids → is_wide ids lists nodes ≡ true
unfolding is_wide ◌or◌
wide-many ids lists nodes h = rw (lt-ltb max_ids (length ids) h)

any-wide : (f : Bool) (x : tables.Map) (name : List ℕ) (spec : tables.Spec) (ps qs : List Placement)
    → count_by f true x name spec ps ≡ count_by f true x name spec qs
unfolding count_by
any-wide true x name spec ps qs = refl
any-wide false x name spec ps qs = refl

-- ---- the counts

exact : (xs : List ℕ) → length xs ≡ 6
    → xs ≡ get_or xs 0 0 ∷ get_or xs 1 0 ∷ get_or xs 2 0 ∷ get_or xs 3 0 ∷ get_or xs 4 0 ∷ get_or xs 5 0 ∷ []
exact [] e = absurd (omega arith)
exact (a ∷ []) e = absurd (omega arith)
exact (a ∷ b ∷ []) e = absurd (omega arith)
exact (a ∷ b ∷ c ∷ []) e = absurd (omega arith)
exact (a ∷ b ∷ c ∷ d ∷ []) e = absurd (omega arith)
exact (a ∷ b ∷ c ∷ d ∷ f ∷ []) e = absurd (omega arith)
exact (a ∷ b ∷ c ∷ d ∷ f ∷ g ∷ []) e = refl
exact (a ∷ b ∷ c ∷ d ∷ f ∷ g ∷ h ∷ t) e = absurd (omega arith)

module _ (xs : List ℕ) (s : List ℕ) where
  pub six_short : length s < 48 → Answers (six (view_six xs)) s s 23
  six_short h =
      let g = lt-ltb (length s) 48 h in
      record {
        number = sym (ap (λ (b : Bool). cond b 23 0) g);
        bytes = sym (ap (λ (b : Bool). cond b s (sets s 0 (six_bytes (view_six xs)))) g);
      }

  pub six_put : (t : List ℕ) → 48 ≤ length s → length xs ≡ 6 → t ≡ sets s 0 (concat_map (bytes_of 8) xs) → Answers (six (view_six xs)) s t 0
  unfolding six_bytes
  six_put t h e q =
      let g = le-ltb (length s) 48 h in
      record {
        number = sym (ap (λ (b : Bool). cond b 23 0) g);
        bytes =
            q ∙ ap (λ (z : List ℕ). sets s 0 (concat_map (bytes_of 8) z)) (exact xs e)
            ∙ sym (ap (λ (b : Bool). cond b s (sets s 0 (six_bytes (view_six xs)))) g);
      }

-- ---- the call

module _ (m name : List ℕ) (spec : tables.Spec) (ids : List ℕ) (lists nodes : ℕ) (s : List ℕ) where
  said_as : (x : Counts) (t : List ℕ) (r : ℕ) → tally_of m name spec ids lists nodes ≡ x → Answers x s t r
      → Answers (tally_of m name spec ids lists nodes) s t r
  said_as x t r e p = subst (λ (z : Counts). Answers z s t r) (sym e) p

  pub unnamed : text_fits max_name name ≡ false → Answers (tally_of m name spec ids lists nodes) s s 21
  unfolding tally_of ◌and◌
  unnamed e = said_as (not_counted said.undecodable) s 21 (rw e) (record { number = refl; bytes = refl })

  module _ (fits : text_fits max_name name ≡ true) where
    pub broken : (length ids % 8 ≡ 0 → ⊥) → Answers (tally_of m name spec ids lists nodes) s s 21
    unfolding tally_of ◌and◌
    broken ne = said_as (not_counted said.undecodable) s 21 (rw (fits, ne_eqb (length ids % 8) 0 ne)) (record { number = refl; bytes = refl })

    module _ (whole : length ids % 8 ≡ 0) where
      pub unlent : map_lent m ≡ false → Answers (tally_of m name spec ids lists nodes) s s 24
      unfolding tally_of ◌and◌ count_by
      unlent e = said_as (not_counted said.malformed) s 24 (rw (fits, eq-eqb (length ids % 8) 0 whole, e)) (record { number = refl; bytes = refl })

      same : (f : Bool) (x : tables.Map) (set : IdSet) → Loaded ids set
          → count_by f (wide_lent set lists nodes) x name spec (placements_of lists nodes (view_ids set))
          ≡ count_by f (is_wide (ids_in ids) lists nodes) x name spec (placements_of lists nodes (ids_in ids))
      unfolding wide_lent ◌or◌
      same f x set l = go (leb set.count max_ids) refl
        where
          go : (b : Bool) → leb set.count max_ids ≡ b
              → count_by f (ltb max_ids set.count or is_wide (view_ids set) lists nodes) x name spec (placements_of lists nodes (view_ids set))
              ≡ count_by f (is_wide (ids_in ids) lists nodes) x name spec (placements_of lists nodes (ids_in ids))
          go true e =
              let h = leb-true set.count max_ids e in
              rw (le-ltb max_ids set.count h) (ap (λ (z : List ℕ). count_by f (is_wide z lists nodes) x name spec (placements_of lists nodes z)) (l.ids h))
          go false e =
              let h = leb-false set.count max_ids e in
              rw (lt-ltb max_ids set.count h, wide-many (ids_in ids) lists nodes (omega (arith, h, l.count, ids-many ids)))
              (any-wide f x name spec (placements_of lists nodes (view_ids set)) (placements_of lists nodes (ids_in ids)))

      pub lent : (n : Name) (sp : Spec) (set : IdSet) (a : Counts) (t : List ℕ) (r : ℕ) → map_lent m ≡ true
          → view_name n ≡ name → view_spec sp ≡ spec → Loaded ids set → a ≡ count_lent (map_at m) n sp set lists nodes → Answers a s t r
          → Answers (tally_of m name spec ids lists nodes) s t r
      unfolding tally_of ◌and◌ count_lent
      lent n sp set a t r e v w l p k =
          said_as a t r
          (rw (fits, eq-eqb (length ids % 8) 0 whole, e)
          (sym
          (p
          ∙ ap (λ (z : List ℕ). count_by (well_formed_lent (map_at m)) (wide_lent set lists nodes) (view_map (map_at m)) z (view_spec sp) (placements_of lists nodes (view_ids set))) v
          ∙ ap (λ (z : tables.Spec). count_by (well_formed_lent (map_at m)) (wide_lent set lists nodes) (view_map (map_at m)) name z (placements_of lists nodes (view_ids set))) w
          ∙ same (well_formed_lent (map_at m)) (view_map (map_at m)) set l)))
          k
