-- A Delete's row: in rows by rising id, at most one is taken out, at the place behind those below. Assumes nothing.
use Prim.Native.Nat.{ℕ, suc, ◌-◌, ◌≤◌, ◌<◌}
use mathlib.Core.Path.{◌≡◌, refl, sym, ap, ◌∙◌, subst}
use mathlib.Core.Bool.{Bool, true, false}
use mathlib.Core.List.{List, [], ◌∷◌, ◌++◌}
use native.Mathlib.Numerals.{add-one}
use native.Mathlib.Omega.{arith}
use lib.Dec.{ltb}
use borrow.Author.Tests.{ltb-true, ltb-false, lt-ltb, eq-eqb, ne_eqb}
use lib.ListN.{length, take, drop, get_or}
use Rattle.spec.specs.Lists.{lead, filter, rising}
use Rattle.spec_laws.proofs.Rising.{ByKey, Below, rising_tail, rising-head}
use Rattle.log_store.specs.Table.{Row, rows_of, row_below, other_row, removed}
use Rattle.log_store.proofs.Put.{lead_true, lead_false, filter_true, filter_false}
use Rattle.log_store.proofs.Rows.{rows-length, rows_at, rows-lead, taken_out, no_row}

pub rows_by_id : ByKey row_below
rows_by_id = record {
  through = λ a b c p q. (let h = ltb-true a.id b.id p in let g = ltb-true b.id c.id q in lt-ltb a.id c.id (omega arith));
  level =
      λ a b c p q r.
      (let h = ltb-false a.id b.id p in let g = ltb-false b.id a.id q in let f = ltb-true c.id b.id r in
      lt-ltb c.id a.id (omega arith));
  level' =
      λ a b c p q r.
      (let h = ltb-false a.id b.id p in let g = ltb-false b.id a.id q in let f = ltb-true b.id c.id r in
      lt-ltb a.id c.id (omega arith));
}

other : (id : ℕ) (r : Row) → (r.id ≡ id → ⊥) → other_row id r ≡ true
other id r n = rw (ne_eqb r.id id n)

own : (id : ℕ) (r : Row) → r.id ≡ id → other_row id r ≡ false
own id r e = rw (eq-eqb r.id id e)

abbrev HeadAbove : ℕ → List Row → Type 0
HeadAbove id [] = Unit
HeadAbove id (y ∷ ys) = id < y.id

head_above : (id : ℕ) (y : Row) (ys : List Row) → id ≤ y.id → Below row_below rows_by_id y ys → HeadAbove id ys
head_above id y [] h b = tt
head_above id y (z ∷ zs) h b = let l = ltb-true y.id z.id b in omega arith

-- none of the rows that begin above the id is its own
above : (id : ℕ) (l : List Row) → rising row_below l ≡ true → HeadAbove id l → filter (other_row id) l ≡ l
unfolding filter
above id [] r h = refl
above id (y ∷ ys) r h =
    filter_true (other_row id) y ys (other id y (λ e. omega arith))
    ∙ ap (λ (t : List Row). y ∷ t)
    (above id ys (rising_tail row_below rows_by_id y ys r)
    (head_above id y ys (omega arith) (rising-head row_below rows_by_id y ys r)))

module _ (id : ℕ) where
  abbrev below : Row → Bool
  below y = ltb y.id id

  abbrev Gone : List Row → ℕ → Type 0
  Gone l k = k < length l → (get_or l k no_row).id ≡ id → filter (other_row id) l ≡ take k l ++ drop (suc k) l

  nothing-below : (n : ℕ) → n < 0 → ⊥
  nothing-below n h = omega arith

  gone : (l : List Row) → rising row_below l ≡ true → Gone l (lead below l)
  gone [] r = λ h q. absurd (nothing-below (lead below []) h)
  gone (y ∷ ys) r = go (ltb y.id id) refl (gone ys (rising_tail row_below rows_by_id y ys r))
    where
      go : (b : Bool) → ltb y.id id ≡ b → Gone ys (lead below ys) → Gone (y ∷ ys) (lead below (y ∷ ys))
      go true e ih =
          subst (Gone (y ∷ ys)) (sym (lead_true below y ys e))
          (λ h q.
          let l = ltb-true y.id id e in
          filter_true (other_row id) y ys (other id y (λ e. omega arith))
          ∙ ap (λ (t : List Row). y ∷ t) (ih (omega arith) q))
      go false e ih =
          subst (Gone (y ∷ ys)) (sym (lead_false below y ys e))
          (λ h q.
          filter_false (other_row id) y ys (own id y q)
          ∙ above id ys (rising_tail row_below rows_by_id y ys r)
          (head_above id y ys (omega arith) (rising-head row_below rows_by_id y ys r)))

  abbrev Absent : List Row → ℕ → Type 0
  Absent l k = (k < length l → (get_or l k no_row).id ≡ id → ⊥) → filter (other_row id) l ≡ l

  absent : (l : List Row) → rising row_below l ≡ true → Absent l (lead below l)
  unfolding filter
  absent [] r = λ q. refl
  absent (y ∷ ys) r = go (ltb y.id id) refl (absent ys (rising_tail row_below rows_by_id y ys r))
    where
      go : (b : Bool) → ltb y.id id ≡ b → Absent ys (lead below ys) → Absent (y ∷ ys) (lead below (y ∷ ys))
      go true e ih =
          subst (Absent (y ∷ ys)) (sym (lead_true below y ys e))
          (λ q.
          let l = ltb-true y.id id e in
          filter_true (other_row id) y ys (other id y (λ e. omega arith))
          ∙ ap (λ (t : List Row). y ∷ t) (ih (λ h. q (omega arith))))
      go false e ih =
          subst (Absent (y ∷ ys)) (sym (lead_false below y ys e))
          (λ q. above id (y ∷ ys) r (strict id y.id (ltb-false y.id id e) (λ p. q (omega arith) (sym p))))
        where
          strict : (a b : ℕ) → a ≤ b → (a ≡ b → ⊥) → a < b
          strict a b h n = omega (arith, n)

-- ---- the columns

module _ (keys places : List ℕ) (n : ℕ) (hk : n ≤ length keys) (hp : n ≤ length places)
    (rise : rising row_below (rows_of keys places n) ≡ true)
    (id at : ℕ) (is_at : at ≡ lead (λ k. ltb k id) (take n keys)) where
  place_of : at ≡ lead (below id) (rows_of keys places n)
  place_of = is_at ∙ sym (rows-lead keys places n hk hp id)

  pub drop-level : at < n → get_or keys at 0 ≡ id
      → rows_of (removed at n keys) (removed at n places) (n - 1) ≡ filter (other_row id) (rows_of keys places n)
  drop-level h q =
      taken_out keys places n hk hp id 0 at is_at h
      ∙ ap (λ (m : ℕ). take at (rows_of keys places n) ++ drop m (rows_of keys places n)) (add-one at)
      ∙ sym
      (subst (Gone id (rows_of keys places n)) (sym place_of) (gone id (rows_of keys places n) rise)
      (subst (λ (m : ℕ). at < m) (sym (rows-length keys places n hk hp)) h)
      (ap (λ (r : Row). r.id) (rows_at keys places n hk hp at no_row h) ∙ q))

  pub drop-absent : (at < n → get_or keys at 0 ≡ id → ⊥)
      → rows_of keys places n ≡ filter (other_row id) (rows_of keys places n)
  drop-absent f =
      sym
      (subst (Absent id (rows_of keys places n)) (sym place_of) (absent id (rows_of keys places n) rise)
      (λ l q.
      let l' : at < n = subst (λ (m : ℕ). at < m) (rows-length keys places n hk hp) l in
      f l' (sym (ap (λ (r : Row). r.id) (rows_at keys places n hk hp at no_row l')) ∙ q)))
