-- A table in its bytes after a row was put over another, put in, or taken out: of any table. Assumes nothing.
use Prim.Native.Nat.{ℕ, zero, suc, ◌+◌, ◌-◌, ◌*◌, ◌^◌, ◌≤◌, ◌<◌}
use mathlib.Core.Path.{◌≡◌, refl, sym, ap, subst, ◌∙◌}
use mathlib.Core.Bool.{Bool, true, false}
use mathlib.Core.List.{List, [], ◌∷◌, ◌++◌}
use lib.Dec.{ltb, eqb}
use lib.ListN.{length, get_or, take, drop, set, length-set, length-append, length-drop, get_or-append}
use lib.Seq.{sets, length-sets, ext_get_or, get_or-set_same, get_or-set_other, get_or-take, get_or-drop, get_or_at, get_or-append-add, length-take-le}
use borrow.Author.Tests.{ltb-true, ltb-false, eqb-true, eqb-false}
use native.Mathlib.Omega.{arith}
use native.Mathlib.Nat.{mul-suc, mul-add}
use Rattle.spec.specs.Layout.Format.{number_at, bytes_of}
use Rattle.spec_laws.proofs.Wire.Bytes.{number-bytes, length-bytes}
use Rattle.image_parts.specs.Shape.{Stored, items}
use Rattle.image_parts.proofs.Back.{drop-sets}
use Rattle.image_parts.proofs.Images.{length-items, row_room}
use Rattle.image_map_check.proofs.RowLaws.{item_at}
use Rattle.image_move.proofs.Bytes.{Same, number_same}
use Rattle.image_move.specs.Moved.{Moved}
use Rattle.image_map_edit.specs.Becomes.{Apart}
use Rattle.image_move.proofs.Moves.{sets_below, sets_behind}
use Rattle.image_map_edit.proofs.Apart.{apart-then, apart_more, apart-stored, apart_moved, apart-count}

abbrev pub insert_at : {A : Type 0} → List A → ℕ → A → List A
insert_at l i x = take i l ++ x ∷ drop i l

module _ {A : Type 0} (l : List A) (i : ℕ) (x d : A) (h : i ≤ length l) where
  front : length (take i l) ≡ i
  front = length-take-le i l h

  pub insert_long : length (insert_at l i x) ≡ length l + 1
  insert_long = let a = front in let b = length-drop i l in length-append (take i l) (x ∷ drop i l) ∙ omega arith

  insert-before : (j : ℕ) → j < i → get_or (insert_at l i x) j d ≡ get_or l j d
  insert-before j k = let a = front in get_or-append (take i l) (x ∷ drop i l) d j (omega arith) ∙ get_or-take i l j d k

  insert_here : get_or (insert_at l i x) i d ≡ x
  insert_here = get_or_at (take i l) x (drop i l) d i front

  insert-after : (j : ℕ) → i ≤ j → get_or (insert_at l i x) (suc j) d ≡ get_or l j d
  insert-after j k =
      let a = front in
      let q : suc j ≡ length (take i l) + suc (j - i) = omega arith in
      let r : i + (j - i) ≡ j = omega arith in
      rw q (get_or-append-add (take i l) (x ∷ drop i l) (suc (j - i)) d) ∙ get_or-drop i l (j - i) d ∙ ap (λ (k : ℕ). get_or l k d) r

-- a count that was stored
pub counted : (r t : List ℕ) (x v : ℕ) → t ≡ sets r x (bytes_of 8 v) → x + 8 ≤ length r → v < 256 ^ 8 → number_at 8 t x ≡ v
counted r t x v e room h =
    let l = length-bytes 8 v in
    ap (λ (u : List ℕ). number_at 8 u x) e ∙ number-bytes 8 v (sets r x (bytes_of 8 v)) x (drop (x + length (bytes_of 8 v)) r) h (drop-sets r x (bytes_of 8 v) (omega arith))

module _ {A : Type 0} (get : List ℕ → ℕ → A) (w base x : ℕ) (free : A) (apart : x + 8 ≤ base)
    (same : (s t : List ℕ) (p q : ℕ) → Same s p t q w → get s p ≡ get t q) where
  abbrev pub Rows : List ℕ → ℕ → List A
  Rows s n = items n (get s) w base

  -- a table by its rows
  by_rows : (t : List ℕ) (n : ℕ) (l : List A) → length l ≡ n → ((i : ℕ) → i < n → get t (base + w * i) ≡ get_or l i free) → Rows t n ≡ l
  by_rows t n l e law =
      let k = length-items n (get t) w base in
      ext_get_or free (Rows t n) l (k ∙ sym e) (λ i h. item_at n (get t) w base i free (omega arith) ∙ law i (omega arith))

  row_is : (s : List ℕ) (n i : ℕ) → i < n → get s (base + w * i) ≡ get_or (Rows s n) i free
  row_is s n i h = sym (item_at n (get s) w base i free h)

  -- the count is none of the rows
  behind_count : (r t : List ℕ) (v p : ℕ) → t ≡ sets r x (bytes_of 8 v) → base ≤ p → get t p ≡ get r p
  behind_count r t v p e h =
      let l = length-bytes 8 v in
      same t r p p (λ i lt. ap (λ (u : List ℕ). get_or u (p + i) 0) e ∙ sets_behind r x (bytes_of 8 v) (p + i) (omega arith))

  module _ (s t : List ℕ) (n i : ℕ) (b : List ℕ) (row : A) (lt : i < n) (put : Stored s t (base + w * i) b w) (there : get t (base + w * i) ≡ row) where
    other_row_lem : (j : ℕ) → (j ≡ i → ⊥) → get t (base + w * j) ≡ get s (base + w * j)
    other_row_lem j ne =
        let l = put.long in
        same t s (base + w * j) (base + w * j) (λ k h. go k h (ltb j i) refl)
      where
        go : (k : ℕ) → k < w → (c : Bool) → ltb j i ≡ c → get_or t (base + w * j + k) 0 ≡ get_or s (base + w * j + k) 0
        go k h true e =
            let q = row_room w j i (ltb-true j i e) in
            ap (λ (u : List ℕ). get_or u (base + w * j + k) 0) put.image ∙ sets_below s (base + w * i) b (base + w * j + k) (omega arith)
        go k h false e =
            let g = ltb-false j i e in
            let q = row_room w i j (omega arith) in
            let l = put.long in
            ap (λ (u : List ℕ). get_or u (base + w * j + k) 0) put.image ∙ sets_behind s (base + w * i) b (base + w * j + k) (omega arith)

    over_rows : Rows t n ≡ set (Rows s n) i row
    over_rows =
        let l = length-items n (get s) w base in
        by_rows t n (set (Rows s n) i row) (length-set (Rows s n) i row ∙ l) (λ j h. go j h (eqb j i) refl)
      where
        go : (j : ℕ) → j < n → (c : Bool) → eqb j i ≡ c → get t (base + w * j) ≡ get_or (set (Rows s n) i row) j free
        go j h true e =
            let q = eqb-true j i e in
            let l = length-items n (get s) w base in
            rw q (there ∙ sym (get_or-set_same (Rows s n) i row free (omega arith)))
        go j h false e =
            let ne = eqb-false j i e in
            other_row_lem j ne ∙ row_is s n j h ∙ sym (get_or-set_other (Rows s n) i j row free ne)

    -- a row over another
    pub put_over : n ≡ number_at 8 s x → (Apart s t x base (base + w * n)) × (Rows t (number_at 8 t x) ≡ set (Rows s n) i row)
    put_over e =
        let q = row_room w i n lt in
        let a : Apart s t x base (base + w * n) = apart-stored x base (base + w * n) put (omega arith) (omega arith) (omega arith) in
        let f : number_at 8 t x ≡ n = number_same t s 8 x x (λ k h. ap (λ (u : List ℕ). get_or u (x + k) 0) put.image ∙ sets_below s (base + w * i) b (x + k) (omega arith)) ∙ sym e in
        (a, ap (Rows t) f ∙ over_rows)

  module _ (s m r t : List ℕ) (n i : ℕ) (b : List ℕ) (row : A) (le : i ≤ n) (move : Moved s m (base + w * i) (base + w * (i + 1)) (w * (n - i)))
      (put : Stored m r (base + w * i) b w) (there : get r (base + w * i) ≡ row) (count : t ≡ sets r x (bytes_of 8 (n + 1))) where
    next : w * (i + 1) ≡ w * i + w
    next = omega (arith, mul-suc w i)

    low-row : (j : ℕ) → j < i → get r (base + w * j) ≡ get s (base + w * j)
    low-row j lt =
        let q = row_room w j i lt in
        let z = next in
        same r s (base + w * j) (base + w * j)
        (λ k h. ap (λ (u : List ℕ). get_or u (base + w * j + k) 0) put.image ∙ sets_below m (base + w * i) b (base + w * j + k) (omega arith)
        ∙ move.below (base + w * j + k) (omega arith))

    high_row : (j : ℕ) → i ≤ j → j < n → get r (base + w * suc j) ≡ get s (base + w * j)
    high_row j ge lt =
        let l = put.long in
        let z = next in
        let a : w * suc j ≡ w * j + w = omega (arith, mul-suc w j) in
        let c : w * j ≡ w * i + w * (j - i) = let q : i + (j - i) ≡ j = omega arith in sym (ap (λ (k : ℕ). w * k) q) ∙ mul-add w i (j - i) in
        let d = row_room w (j - i) (n - i) (omega arith) in
        same r s (base + w * suc j) (base + w * j)
        (λ k h.
        let p : base + w * suc j + k ≡ base + w * (i + 1) + (w * (j - i) + k) = omega arith in
        let o : base + w * j + k ≡ base + w * i + (w * (j - i) + k) = omega arith in
        rw (p, o)
        (ap (λ (u : List ℕ). get_or u (base + w * (i + 1) + (w * (j - i) + k)) 0) put.image
        ∙ sets_behind m (base + w * i) b (base + w * (i + 1) + (w * (j - i) + k)) (omega arith)
        ∙ move.moved (w * (j - i) + k) (omega arith)))

    insert-rows : Rows r (n + 1) ≡ insert_at (Rows s n) i row
    insert-rows =
        let l = length-items n (get s) w base in
        by_rows r (n + 1) (insert_at (Rows s n) i row) (insert_long (Rows s n) i row free (omega arith) ∙ ap (λ (k : ℕ). k + 1) l) (λ j h. go j h (ltb j i) (eqb j i) refl refl)
      where
        go : (j : ℕ) → j < n + 1 → (c d : Bool) → ltb j i ≡ c → eqb j i ≡ d → get r (base + w * j) ≡ get_or (insert_at (Rows s n) i row) j free
        go j h true d e f =
            let lt = ltb-true j i e in
            let l = length-items n (get s) w base in
            low-row j lt ∙ row_is s n j (omega arith) ∙ sym (insert-before (Rows s n) i row free (omega arith) j lt)
        go j h false true e f =
            let q = eqb-true j i f in
            let l = length-items n (get s) w base in
            rw q (there ∙ sym (insert_here (Rows s n) i row free (omega arith)))
        go zero h false false e f = let g = ltb-false zero i e in absurd (eqb-false zero i f (omega arith))
        go (suc j) h false false e f =
            let g = ltb-false (suc j) i e in
            let ne = eqb-false (suc j) i f in
            let l = length-items n (get s) w base in
            let k : i ≤ j = go₂ ne g in
            high_row j k (omega arith) ∙ row_is s n j (omega arith) ∙ sym (insert-after (Rows s n) i row free (omega arith) j k)
          where
            go₂ : (suc j ≡ i → ⊥) → i ≤ suc j → i ≤ j
            go₂ ne g = omega arith

    -- a row put in
    pub put_in : base + w * (n + 1) ≤ length s → n + 1 < 256 ^ 8
        → (Apart s t x base (base + w * (n + 1))) × (Rows t (number_at 8 t x) ≡ insert_at (Rows s n) i row)
    put_in room small =
        let z = next in
        let l₁ = move.long in
        let l₂ : length r ≡ length m = ap length put.image ∙ length-sets m (base + w * i) b in
        let c : w * (n + 1) ≡ w * i + w * (n - i) + w = let q : i + (n - i) ≡ n = omega arith in omega (arith, mul-suc w n, mul-add w i (n - i), ap (λ (k : ℕ). w * k) q) in
        let a₁ : Apart s m x base (base + w * (n + 1)) = apart_moved x base (base + w * (n + 1)) move (omega arith) (omega arith) (omega arith) in
        let a₂ : Apart m r x base (base + w * (n + 1)) = apart-stored x base (base + w * (n + 1)) put (omega arith) (omega arith) (omega arith) in
        let a₃ : Apart r t x base (base + w * (n + 1)) = apart-count (n + 1) x base (base + w * (n + 1)) count (omega arith) in
        let f : number_at 8 t x ≡ n + 1 = counted r t x (n + 1) count (omega arith) small in
        let k = length-items (n + 1) (get r) w base in
        let u : Rows t (n + 1) ≡ Rows r (n + 1) = by_rows t (n + 1) (Rows r (n + 1)) k (λ j h. behind_count r t (n + 1) (base + w * j) count (omega arith) ∙ row_is r (n + 1) j h) in
        (apart-then a₁ (apart-then a₂ a₃), ap (Rows t) f ∙ u ∙ insert-rows)
