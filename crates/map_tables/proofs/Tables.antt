-- Laws of tables kept in arrays, over any row A that is read as B: scanning, finding, putting in, changing and leaving out rows.
-- Assumes nothing.
use mathlib.Core.Path.{◌≡◌, refl, sym, ap, ◌∙◌, subst, subst⁻¹}
use mathlib.Core.Bool.{Bool, true, false, cond, not}
use mathlib.Core.List.{List, [], ◌∷◌, ◌++◌, map}
use mathlib.Core.Option.{none, some}
use Prim.Native.Nat.{ℕ, zero, suc, ◌+◌, ◌-◌, ◌≤◌, ◌<◌}
use native.Mathlib.Numerals.{add-one}
use native.Mathlib.Omega.{arith}
use lib.ListN.{length, take, drop, get_or, set, length-map, length-append, drop_of_length-le, take-append-drop, get_or-map}
use lib.Seq.{drop-cons, take-suc, take-suc-set, drop-set-lt, append_snoc, length-take-le, get_or-take, take-add, take_at, drop_at, take-append-add, take-set-lt}
use Rattle.std.specs.List.{list_any}
use Rattle.std.specs.Prelude.{◌||◌}
use Rattle.spec.specs.Lists.{find, filter, any, every, lead, put}
use Rattle.spec.specs.Map.Apply.{update}
use Rattle.spec_laws.proofs.Lists.{by-test, not_both}
use Rattle.map_tables.specs.Find.{first_at, place_at}

-- ---- scanning a list

module _ {ℓ} {B : Type ℓ} (p : B → Bool) (l : List B) where
  pub lead-most : lead p l ≤ length l
  unfolding lead
  lead-most = go l
    where
      go : (l : List B) → lead p l ≤ length l
      go [] = omega arith
      go (y ∷ ys) = by-test (λ (v : ℕ). v ≤ suc (length ys)) (p y) {x = suc (lead p ys)} {y = zero} (λ e. omega (arith, go ys)) (λ e. omega arith)

-- a row that does not stop the scan, and one that does
module _ {ℓ} {B : Type ℓ} (p : B → Bool) (l : List B) (i : ℕ) (d : B) (h : i < length l) where
  pub lead-on : lead p l ≡ i + lead p (drop i l) → p (get_or l i d) ≡ true → lead p l ≡ (i + 1) + lead p (drop (i + 1) l)
  unfolding lead
  lead-on inv e = inv ∙ rw (add-one, drop-cons l i d h, e) (omega arith)

  pub lead_stop : lead p l ≡ i + lead p (drop i l) → p (get_or l i d) ≡ false → i ≡ lead p l
  unfolding lead
  lead_stop inv e = sym (inv ∙ rw (drop-cons l i d h, e) (omega arith))

pub lead-end {ℓ} : {B : Type ℓ} (p : B → Bool) (l : List B) (i : ℕ) → lead p l ≡ i + lead p (drop i l) → length l ≤ i → i ≡ lead p l
unfolding lead
lead-end p l i inv h = sym (inv ∙ rw (drop_of_length-le l {i = i} h) (omega arith))

-- ---- finding

module _ {ℓ} {B : Type ℓ} (p : B → Bool) where
  pub find_none : (l : List B) → length l ≤ first_at p l → find p l ≡ none
  unfolding find lead
  find_none [] = λ h. refl
  find_none (y ∷ ys) = go (p y) (find_none ys)
    where
      go : (b : Bool) → (length ys ≤ first_at p ys → find p ys ≡ none) → suc (length ys) ≤ cond (not b) (suc (first_at p ys)) zero
          → cond b (some y) (find p ys) ≡ none
      go true more h = absurd (omega arith)
      go false more h = more (omega arith)

  -- with no row to change
  pub update-none : (f : B → B) (l : List B) → length l ≤ first_at p l → update p f l ≡ l
  unfolding update lead
  update-none f [] = λ h. refl
  update-none f (y ∷ ys) = go (p y) (update-none f ys)
    where
      go : (b : Bool) → (length ys ≤ first_at p ys → update p f ys ≡ ys) → suc (length ys) ≤ cond (not b) (suc (first_at p ys)) zero
          → cond b (f y ∷ ys) (y ∷ update p f ys) ≡ y ∷ ys
      go true more h = absurd (omega arith)
      go false more h = ap (λ (v : List B). y ∷ v) (more (omega arith))

module _ {ℓ} {B : Type ℓ} (p : B → Bool) (d : B) where
  pub find_some : (l : List B) → first_at p l < length l → find p l ≡ some (get_or l (first_at p l) d)
  unfolding find lead
  find_some [] = λ h. absurd (omega arith)
  find_some (y ∷ ys) = go (p y) (find_some ys)
    where
      go : (b : Bool) → (first_at p ys < length ys → find p ys ≡ some (get_or ys (first_at p ys) d))
          → cond (not b) (suc (first_at p ys)) zero < suc (length ys)
          → cond b (some y) (find p ys) ≡ some (get_or (y ∷ ys) (cond (not b) (suc (first_at p ys)) zero) d)
      go true more h = refl
      go false more h = more (omega arith)

  -- one row changed in its place
  pub update-at : (f : B → B) (l : List B) → first_at p l < length l → update p f l ≡ set l (first_at p l) (f (get_or l (first_at p l) d))
  unfolding update lead
  update-at f [] = λ h. absurd (omega arith)
  update-at f (y ∷ ys) = go (p y) (update-at f ys)
    where
      go : (b : Bool) → (first_at p ys < length ys → update p f ys ≡ set ys (first_at p ys) (f (get_or ys (first_at p ys) d)))
          → cond (not b) (suc (first_at p ys)) zero < suc (length ys)
          → cond b (f y ∷ ys) (y ∷ update p f ys)
          ≡ set (y ∷ ys) (cond (not b) (suc (first_at p ys)) zero) (f (get_or (y ∷ ys) (cond (not b) (suc (first_at p ys)) zero) d))
      go true more h = refl
      go false more h = ap (λ (v : List B). y ∷ v) (more (omega arith))

-- ---- putting in

abbrev insert_at {ℓ} : {B : Type ℓ} → List B → ℕ → B → List B
insert_at l i x = take i l ++ x ∷ drop i l

module _ {ℓ} {B : Type ℓ} (lt : B → B → Bool) (x d : B) (apart : (y : B) → lt y x ≡ true → lt x y ≡ false) where
  -- in the place of a row that is level
  pub put_over : (l : List B) → place_at lt x l < length l → lt x (get_or l (place_at lt x l) d) ≡ false → put lt x l ≡ set l (place_at lt x l) x
  unfolding put lead
  put_over [] = λ h e. absurd (omega arith)
  put_over (y ∷ ys) = go (lt y x) refl (put_over ys)
    where
      go : (b : Bool) → lt y x ≡ b → (place_at lt x ys < length ys → lt x (get_or ys (place_at lt x ys) d) ≡ false → put lt x ys ≡ set ys (place_at lt x ys) x)
          → cond b (suc (place_at lt x ys)) zero < suc (length ys) → lt x (get_or (y ∷ ys) (cond b (suc (place_at lt x ys)) zero) d) ≡ false
          → cond (lt x y) (x ∷ y ∷ ys) (cond b (y ∷ put lt x ys) (x ∷ ys)) ≡ set (y ∷ ys) (cond b (suc (place_at lt x ys)) zero) x
      go true q more h e = rw (apart y q) (ap (λ (v : List B). y ∷ v) (more (omega arith) e))
      go false q more h e = rw e

  -- before the first row that stands above, or at the end
  pub put-new : (l : List B) → (place_at lt x l < length l → lt x (get_or l (place_at lt x l) d) ≡ true) → put lt x l ≡ insert_at l (place_at lt x l) x
  unfolding put lead
  put-new [] = λ e. refl
  put-new (y ∷ ys) = go (lt y x) refl (put-new ys)
    where
      go : (b : Bool) → lt y x ≡ b
          → ((place_at lt x ys < length ys → lt x (get_or ys (place_at lt x ys) d) ≡ true) → put lt x ys ≡ insert_at ys (place_at lt x ys) x)
          → (cond b (suc (place_at lt x ys)) zero < suc (length ys) → lt x (get_or (y ∷ ys) (cond b (suc (place_at lt x ys)) zero) d) ≡ true)
          → cond (lt x y) (x ∷ y ∷ ys) (cond b (y ∷ put lt x ys) (x ∷ ys)) ≡ insert_at (y ∷ ys) (cond b (suc (place_at lt x ys)) zero) x
      go true q more e = rw (apart y q) (ap (λ (v : List B). y ∷ v) (more (λ h. e (omega arith))))
      go false q more e = rw (e (omega arith))

-- the loop that puts in: what is carried, and what is already moved up
module _ {ℓ} {A : Type ℓ} where
  pub carry_on : (xs : List A) (i : ℕ) (c d : A) → i < length xs
      → take (i + 1) (set xs i c) ++ (get_or xs i d ∷ drop (i + 1) (set xs i c)) ≡ take i xs ++ c ∷ drop i xs
  carry_on xs i c d h = rw (add-one, take-suc-set xs i c h, drop-set-lt (suc i) xs i c (omega arith), ← drop-cons xs i d h, append_snoc)

  in_use_lem : (xs : List A) (at k : ℕ) (x : A) → at + k ≤ length xs → insert_at (take (at + k) xs) at x ≡ take at xs ++ x ∷ take k (drop at xs)
  in_use_lem xs at k x h =
      rw (
        take-add at k xs,
        take_at (take at xs) (take k (drop at xs)) at (length-take-le at xs (omega arith)),
        drop_at (take at xs) (take k (drop at xs)) at (length-take-le at xs (omega arith)),
      )

  cut : (xs : List A) (at k : ℕ) (x : A) → at + k ≤ length xs → take (at + k + 1) (take at xs ++ x ∷ drop at xs) ≡ take at xs ++ x ∷ take k (drop at xs)
  cut xs at k x h =
      let e : at + k + 1 ≡ length (take at xs) + suc k = rw (length-take-le at xs (omega arith)) (omega arith) in
      rw (e, take-append-add)

  carry_end : (xs ys : List A) (at k : ℕ) (c x : A) → take (at + k + 1) ys ++ c ∷ drop (at + k + 1) ys ≡ take at xs ++ x ∷ drop at xs
      → at + k + 1 ≤ length ys → at + k ≤ length xs → take (at + k + 1) ys ≡ insert_at (take (at + k) xs) at x
  carry_end xs ys at k c x e hy hx =
      sym (take_at (take (at + k + 1) ys) (c ∷ drop (at + k + 1) ys) (at + k + 1) (length-take-le (at + k + 1) ys hy))
      ∙ ap (take (at + k + 1)) e ∙ cut xs at k x hx ∙ sym (in_use_lem xs at k x hx)

  -- the loop's end, at a count n
  pub carried : (xs ys : List A) (at n i : ℕ) (c x : A) → take i ys ++ c ∷ drop i ys ≡ take at xs ++ x ∷ drop at xs → i ≡ n + 1 → at ≤ n
      → n + 1 ≤ length ys → n ≤ length xs → take (n + 1) ys ≡ insert_at (take n xs) at x
  carried xs ys at n i c x e hi h hy hx =
      let q : n ≡ at + (n - at) = omega arith in
      let e' : take (n + 1) ys ++ c ∷ drop (n + 1) ys ≡ take at xs ++ x ∷ drop at xs = rw hi at e in
      subst⁻¹ (λ (m : ℕ). take (m + 1) ys ≡ insert_at (take m xs) at x) q
      (carry_end xs ys at (n - at) c x (subst (λ (m : ℕ). take (m + 1) ys ++ c ∷ drop (m + 1) ys ≡ take at xs ++ x ∷ drop at xs) q e') (omega arith) (omega arith))

-- ---- rows read as something else

module _ {ℓ κ} {A : Type ℓ} {B : Type κ} (v : A → B) where
  pub map-take : (n : ℕ) (l : List A) → map v (take n l) ≡ take n (map v l)
  map-take zero l = refl
  map-take (suc n) [] = refl
  map-take (suc n) (y ∷ ys) = ap (λ (w : List B). v y ∷ w) (map-take n ys)

  pub map-drop : (n : ℕ) (l : List A) → map v (drop n l) ≡ drop n (map v l)
  map-drop zero l = refl
  map-drop (suc n) [] = refl
  map-drop (suc n) (y ∷ ys) = map-drop n ys

  map-append : (l m : List A) → map v (l ++ m) ≡ map v l ++ map v m
  map-append [] m = refl
  map-append (y ∷ ys) m = ap (λ (w : List B). v y ∷ w) (map-append ys m)

  pub map-insert : (l : List A) (i : ℕ) (x : A) → map v (insert_at l i x) ≡ insert_at (map v l) i (v x)
  map-insert l i x = map-append (take i l) (x ∷ drop i l) ∙ rw (map-take i l, map-drop i l)

  pub map-set : (l : List A) (i : ℕ) (x : A) → map v (set l i x) ≡ set (map v l) i (v x)
  map-set [] i x = refl
  map-set (y ∷ ys) zero x = refl
  map-set (y ∷ ys) (suc i) x = ap (λ (w : List B). v y ∷ w) (map-set ys i x)

  -- the rows in use: the first n of an array
  module _ (xs : List A) (n : ℕ) (le : n ≤ length xs) where
    pub used-size : length (map v (take n xs)) ≡ n
    used-size = length-map (take n xs) v ∙ length-take-le n xs le

    pub used-row : (i : ℕ) (d : A) → i < n → get_or (map v (take n xs)) i (v d) ≡ v (get_or xs i d)
    used-row i d h = get_or-map v (take n xs) i d ∙ ap v (get_or-take n xs i d h)

    module _ (p : B → Bool) (i : ℕ) (inv : lead p (map v (take n xs)) ≡ i + lead p (drop i (map v (take n xs)))) where
      pub scan_on : (d : A) → i < n → p (v (get_or xs i d)) ≡ true → lead p (map v (take n xs)) ≡ (i + 1) + lead p (drop (i + 1) (map v (take n xs)))
      scan_on d h e = lead-on p (map v (take n xs)) i (v d) (rw used-size h) inv (ap p (used-row i d h) ∙ e)

      pub scan_stop : (d : A) → i < n → p (v (get_or xs i d)) ≡ false → i ≡ lead p (map v (take n xs))
      scan_stop d h e = lead_stop p (map v (take n xs)) i (v d) (rw used-size h) inv (ap p (used-row i d h) ∙ e)

      pub scan_end : n ≤ i → i ≡ lead p (map v (take n xs))
      scan_end h = lead-end p (map v (take n xs)) i inv (rw used-size h)

    -- found, at a place that the scan gave
    module _ (p : B → Bool) (at : ℕ) (is : at ≡ first_at p (map v (take n xs))) where
      pub found : (d : A) → at < n → find p (map v (take n xs)) ≡ some (v (get_or xs at d))
      found d h =
          find_some p (v d) (map v (take n xs)) (rw (← is, used-size) h)
          ∙ ap some (ap (λ (i : ℕ). get_or (map v (take n xs)) i (v d)) (sym is) ∙ used-row at d h)

      pub missed : n ≤ at → find p (map v (take n xs)) ≡ none
      missed h = find_none p (map v (take n xs)) (rw (← is, used-size) h)

      pub kept-rows : (f : B → B) → n ≤ at → map v (take n xs) ≡ update p f (map v (take n xs))
      kept-rows f h = sym (update-none p f (map v (take n xs)) (rw (← is, used-size) h))

      pub changed_row : (f : B → B) (d y : A) → at < n → v y ≡ f (v (get_or xs at d)) → map v (take n (set xs at y)) ≡ update p f (map v (take n xs))
      changed_row f d y h e =
          ap (map v) (take-set-lt n xs at y h) ∙ map-set (take n xs) at y
          ∙ ap (set (map v (take n xs)) at) (e ∙ ap f (sym (used-row at d h)))
          ∙ sym (update-at p (v d) f (map v (take n xs)) (rw (← is, used-size) h)
          ∙ ap (λ (i : ℕ). set (map v (take n xs)) i (f (get_or (map v (take n xs)) i (v d)))) (sym is))

    -- put in, at a place that the scan gave
    module _ (lt : B → B → Bool) (x : A) (apart : (y : B) → lt y (v x) ≡ true → lt (v x) y ≡ false) (at : ℕ) (is : at ≡ place_at lt (v x) (map v (take n xs))) where
      pub put-row : (d : A) → at < n → lt (v x) (v (get_or xs at d)) ≡ false → map v (take n (set xs at x)) ≡ put lt (v x) (map v (take n xs))
      put-row d h e =
          ap (map v) (take-set-lt n xs at x h) ∙ map-set (take n xs) at x
          ∙ sym (put_over lt (v x) (v d) apart (map v (take n xs)) (rw (← is, used-size) h)
          (ap (λ (i : ℕ). lt (v x) (get_or (map v (take n xs)) i (v d))) (sym is) ∙ ap (lt (v x)) (used-row at d h) ∙ e)
          ∙ ap (λ (i : ℕ). set (map v (take n xs)) i (v x)) (sym is))

      pub insert-row : (d : A) → (at < n → lt (v x) (v (get_or xs at d)) ≡ true) → put lt (v x) (map v (take n xs)) ≡ map v (insert_at (take n xs) at x)
      insert-row d e =
          put-new lt (v x) (v d) apart (map v (take n xs))
          (λ h. let h' : at < n = rw (← is, used-size) at h in
          ap (λ (i : ℕ). lt (v x) (get_or (map v (take n xs)) i (v d))) (sym is) ∙ ap (lt (v x)) (used-row at d h') ∙ e h')
          ∙ ap (λ (i : ℕ). insert_at (map v (take n xs)) i (v x)) (sym is)
          ∙ sym (map-insert (take n xs) at x)

      -- how long the table is then
      pub insert-size : (d : A) → (at < n → lt (v x) (v (get_or xs at d)) ≡ true) → length (put lt (v x) (map v (take n xs))) ≡ n + 1
      insert-size d e =
          let q = ap length (insert-row d e) ∙ length-map (insert_at (take n xs) at x) v ∙ length-append (take at (take n xs)) (x ∷ drop at (take n xs)) in
          let s : length (take at (take n xs)) + length (x ∷ drop at (take n xs)) ≡ suc (length (take n xs)) = inserted-size (take n xs) at in
          omega (arith, length-take-le n xs le)
        where
          inserted-size : (l : List A) (i : ℕ) → length (take i l) + length (x ∷ drop i l) ≡ suc (length l)
          inserted-size l i =
              let q : length (take i l) + length (drop i l) ≡ length l = sym (length-append (take i l) (drop i l)) ∙ ap length (take-append-drop i l) in
              omega arith

      -- there is a place left, if that is short enough
      pub insert-room : (d : A) (limit : ℕ) → (at < n → lt (v x) (v (get_or xs at d)) ≡ true) → length (put lt (v x) (map v (take n xs))) ≤ limit → n + 1 ≤ limit
      insert-room d limit e h = omega (arith, insert-size d e)

-- ---- arrays of rows

-- the length of an array whose rows are known through a field
pub of_field : (X Y : Type 0) (f : X → Y) (l : List X) (n : ℕ) → length (map f l) ≡ n → length l ≡ n
of_field X Y f l n e = sym (length-map l f) ∙ e

-- ---- some row passes

module _ {ℓ} {A : Type ℓ} (p : A → Bool) (xs : List A) (n : ℕ) (le : n ≤ length xs) (i : ℕ) (inv : any p (take n xs) ≡ any p (drop i (take n xs))) where
  open_any : (d : A) → i < n → any p (drop i (take n xs)) ≡ cond (p (get_or xs i d)) true (any p (drop (i + 1) (take n xs)))
  unfolding any
  open_any d h = rw (drop-cons (take n xs) i d (rw (length-take-le n xs le) h), get_or-take n xs i d h, add-one)

  pub any-on : (d : A) → i < n → p (get_or xs i d) ≡ false → any p (take n xs) ≡ any p (drop (i + 1) (take n xs))
  any-on d h e = inv ∙ open_any d h ∙ rw e

  pub any_stop : (d : A) → i < n → p (get_or xs i d) ≡ true → any p (take n xs) ≡ true
  any_stop d h e = inv ∙ open_any d h ∙ rw e

  pub any-end : n ≤ i → any p (take n xs) ≡ false
  unfolding any
  any-end h = inv ∙ rw (drop_of_length-le (take n xs) {i = i} (rw (length-take-le n xs le) h))

-- as the library's test of a list
pub any-list : {A : Type 0} (p : A → Bool) (l : List A) → list_any p l ≡ any p l
unfolding any
any-list p [] = refl
any-list p (y ∷ ys) = go (p y) (any-list p ys)
  where
    go : (b : Bool) → list_any p ys ≡ any p ys → (b || list_any p ys) ≡ cond b true (any p ys)
    go true e = refl
    go false e = e

-- ---- rows left out

module _ {ℓ} {A : Type ℓ} (p : A → Bool) where
  filter_snoc : (l : List A) (x : A) → filter p (l ++ (x ∷ [])) ≡ cond (p x) (filter p l ++ (x ∷ [])) (filter p l)
  unfolding filter
  filter_snoc [] x = refl
  filter_snoc (y ∷ ys) x = go (p y) (filter_snoc ys x)
    where
      go : (b : Bool) → filter p (ys ++ (x ∷ [])) ≡ cond (p x) (filter p ys ++ (x ∷ [])) (filter p ys)
          → cond b (y ∷ filter p (ys ++ (x ∷ []))) (filter p (ys ++ (x ∷ [])))
          ≡ cond (p x) (cond b (y ∷ filter p ys) (filter p ys) ++ (x ∷ [])) (cond b (y ∷ filter p ys) (filter p ys))
      go true more = ap (λ (v : List A). y ∷ v) more ∙ by-test (λ (v : List A). y ∷ cond (p x) (filter p ys ++ (x ∷ [])) (filter p ys) ≡ v) (p x) (λ e. rw e) (λ e. rw e)
      go false more = more

  module _ (xs out : List A) (n i : ℕ) (d : A) (h : i < length xs) (inv : take n out ≡ filter p (take i xs)) where
    pub keep_row : n < length out → p (get_or xs i d) ≡ true → take (n + 1) (set out n (get_or xs i d)) ≡ filter p (take (i + 1) xs)
    keep_row k e =
        rw (add-one, take-suc-set out n (get_or xs i d) k, add-one, take-suc xs i d h, filter_snoc (take i xs) (get_or xs i d), e, inv)

    pub skip-row : p (get_or xs i d) ≡ false → take n out ≡ filter p (take (i + 1) xs)
    skip-row e = inv ∙ rw (add-one, take-suc xs i d h, filter_snoc (take i xs) (get_or xs i d), e)

pub map-filter {ℓ κ} : {A : Type ℓ} {B : Type κ} (v : A → B) (p : B → Bool) (l : List A) → map v (filter (λ x. p (v x)) l) ≡ filter p (map v l)
unfolding filter
map-filter v p [] = refl
map-filter {B = B} v p (y ∷ ys) = go (p (v y)) (map-filter v p ys)
  where
    go : (b : Bool) → map v (filter (λ x. p (v x)) ys) ≡ filter p (map v ys)
        → map v (cond b (y ∷ filter (λ x. p (v x)) ys) (filter (λ x. p (v x)) ys)) ≡ cond b (v y ∷ filter p (map v ys)) (filter p (map v ys))
    go true more = ap (λ (w : List B). v y ∷ w) more
    go false more = more

-- rows read as themselves
pub map_self {ℓ} : {A : Type ℓ} (l : List A) → map (λ (x : A). x) l ≡ l
map_self [] = refl
map_self {A = A} (y ∷ ys) = ap (λ (w : List A). y ∷ w) (map_self ys)

-- scanning, finding a place and putting in, of rows read as themselves
module _ {ℓ} {A : Type ℓ} (xs : List A) (n : ℕ) (le : n ≤ length xs) where
  module _ (p : A → Bool) (i : ℕ) (inv : lead p (take n xs) ≡ i + lead p (drop i (take n xs))) where
    pub row_on : (d : A) → i < n → p (get_or xs i d) ≡ true → lead p (take n xs) ≡ (i + 1) + lead p (drop (i + 1) (take n xs))
    row_on d h e = lead-on p (take n xs) i d (rw (length-take-le n xs le) h) inv (ap p (get_or-take n xs i d h) ∙ e)

    pub row_stop : (d : A) → i < n → p (get_or xs i d) ≡ false → i ≡ lead p (take n xs)
    row_stop d h e = lead_stop p (take n xs) i d (rw (length-take-le n xs le) h) inv (ap p (get_or-take n xs i d h) ∙ e)

    pub row-end : n ≤ i → i ≡ lead p (take n xs)
    row-end h = lead-end p (take n xs) i inv (rw (length-take-le n xs le) h)

  pub place-most : (p : A → Bool) → lead p (take n xs) ≤ n
  place-most p = rw (length-take-le n xs le) at (lead-most p (take n xs))

  module _ (lt : A → A → Bool) (x : A) (apart : (y : A) → lt y x ≡ true → lt x y ≡ false) (at : ℕ) (is : at ≡ place_at lt x (take n xs)) where
    is_self : at ≡ place_at lt x (map (λ (y : A). y) (take n xs))
    is_self = is ∙ ap (place_at lt x) (sym (map_self (take n xs)))

    pub put_self : (d : A) → at < n → lt x (get_or xs at d) ≡ false → take n (set xs at x) ≡ put lt x (take n xs)
    put_self d h e =
        sym (map_self (take n (set xs at x))) ∙ put-row (λ (y : A). y) xs n le lt x apart at is_self d h e ∙ ap (put lt x) (map_self (take n xs))

    pub insert_self : (d : A) → (at < n → lt x (get_or xs at d) ≡ true) → put lt x (take n xs) ≡ insert_at (take n xs) at x
    insert_self d e =
        ap (put lt x) (sym (map_self (take n xs))) ∙ insert-row (λ (y : A). y) xs n le lt x apart at is_self d e ∙ map_self (insert_at (take n xs) at x)

    pub room_self : (d : A) (limit : ℕ) → (at < n → lt x (get_or xs at d) ≡ true) → length (put lt x (take n xs)) ≤ limit → n + 1 ≤ limit
    room_self d limit e h =
        insert-room (λ (y : A). y) xs n le lt x apart at is_self d limit e (subst (λ (l : List A). length (put lt x l) ≤ limit) (sym (map_self (take n xs))) h)

-- one row more at the end
pub add_row {ℓ} : {A : Type ℓ} (xs : List A) (n : ℕ) (x : A) → n < length xs → take (n + 1) (set xs n x) ≡ take n xs ++ (x ∷ [])
add_row xs n x h = rw add-one (take-suc-set xs n x h)

-- ---- every row passes

module _ {ℓ} {B : Type ℓ} (p : B → Bool) (l : List B) (i : ℕ) (inv : every p l ≡ every p (drop i l)) where
  open_every : (d : B) → i < length l → every p (drop i l) ≡ cond (p (get_or l i d)) (every p (drop (i + 1) l)) false
  unfolding every
  open_every d h = rw (drop-cons l i d h, add-one)

  pub every-on : (d : B) → i < length l → p (get_or l i d) ≡ true → every p l ≡ every p (drop (i + 1) l)
  every-on d h e = inv ∙ open_every d h ∙ rw e

  pub every_stop : (d : B) → i < length l → p (get_or l i d) ≡ false → every p l ≡ false
  every_stop d h e = inv ∙ open_every d h ∙ rw e

  pub every-end : length l ≤ i → every p l ≡ true
  unfolding every
  every-end h = inv ∙ rw (drop_of_length-le l {i = i} h)

-- so each does
pub every-at {ℓ} : {A : Type ℓ} (p : A → Bool) (xs : List A) (n i : ℕ) (d : A) → n ≤ length xs → every p (take n xs) ≡ true → i < n → p (get_or xs i d) ≡ true
unfolding every
every-at p [] n i d le h k = absurd (omega arith)
every-at p (y ∷ ys) zero i d le h k = absurd (omega arith)
every-at p (y ∷ ys) (suc n) zero d le h k = by-test (λ (v : Bool). v ≡ true → p y ≡ true) (p y) (λ e w. e) (λ e w. not_both false w refl) h
every-at p (y ∷ ys) (suc n) (suc i) d le h k =
    every-at p ys n i d (omega arith) (by-test (λ (v : Bool). v ≡ true → every p (take n ys) ≡ true) (p y) (λ e w. w) (λ e w. not_both false w refl) h) (omega arith)

-- some row passes exactly where the scan stops before the end
pub any_at {ℓ} : {B : Type ℓ} (p : B → Bool) (l : List B) → first_at p l < length l → any p l ≡ true
unfolding any lead
any_at p [] = λ h. absurd (omega arith)
any_at p (y ∷ ys) = go (p y) (any_at p ys)
  where
    go : (b : Bool) → (first_at p ys < length ys → any p ys ≡ true) → cond (not b) (suc (first_at p ys)) zero < suc (length ys) → cond b true (any p ys) ≡ true
    go true more h = refl
    go false more h = more (omega arith)

pub any_none {ℓ} : {B : Type ℓ} (p : B → Bool) (l : List B) → length l ≤ first_at p l → any p l ≡ false
unfolding any lead
any_none p [] = λ h. refl
any_none p (y ∷ ys) = go (p y) (any_none p ys)
  where
    go : (b : Bool) → (length ys ≤ first_at p ys → any p ys ≡ false) → suc (length ys) ≤ cond (not b) (suc (first_at p ys)) zero → cond b true (any p ys) ≡ false
    go true more h = absurd (omega arith)
    go false more h = more (omega arith)
