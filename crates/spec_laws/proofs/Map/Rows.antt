-- Laws of tables, over any row: what `put`, `update`, `filter` and `find` do to their length, their order and a property of their rows.
-- Assumes nothing.
use mathlib.Core.Path.{◌≡◌, refl, sym, ap, ◌∙◌, subst}
use mathlib.Core.Bool.{Bool, true, false, cond, not}
use mathlib.Core.List.{List, [], ◌∷◌, ◌++◌}
use mathlib.Core.Option.{Option, none, some}
use Prim.Native.Nat.{ℕ, zero, suc, ◌+◌, ◌≤◌, ◌<◌}
use native.Mathlib.Omega.{arith}
use lib.ListN.{length}
use Rattle.spec.specs.Lists.{◌and◌, every, any, find, filter, rising, put}
use Rattle.spec.specs.Map.Apply.{update}
use Rattle.spec_laws.proofs.Lists.{by-test, not_both, and_true, and_left, and_right, none_some, some_same}
use Rattle.spec_laws.proofs.Rising.{ByKey, rising_tail}

module _ {ℓ} {A : Type ℓ} where
  -- ---- a property of every row

  pub every_tail : (row : A → Bool) (x : A) (xs : List A) → every row (x ∷ xs) ≡ true → (row x ≡ true) × (every row xs ≡ true)
  unfolding every
  every_tail row x xs h = go (row x) refl h
    where
      go : (b : Bool) → row x ≡ b → cond b (every row xs) false ≡ true → (row x ≡ true) × (every row xs ≡ true)
      go true e h = (e, h)
      go false e h = not_both false h refl

  pub every_cons : (row : A → Bool) (x : A) (xs : List A) → row x ≡ true → every row xs ≡ true → every row (x ∷ xs) ≡ true
  unfolding every
  every_cons row x xs p q = rw p q

  pub every-put : (row : A → Bool) (lt : A → A → Bool) (x : A) (l : List A) → row x ≡ true → every row l ≡ true → every row (put lt x l) ≡ true
  unfolding put
  every-put row lt x [] p h = every_cons row x [] p h
  every-put row lt x (y ∷ ys) p h =
      let t = every_tail row y ys h in
      let more = every-put row lt x ys p t.1 in
      by-test (λ v. every row v ≡ true) (lt x y)
      (λ q. every_cons row x (y ∷ ys) p h)
      (λ q. by-test (λ v. every row v ≡ true) (lt y x)
      (λ s. every_cons row y (put lt x ys) t.0 more)
      (λ s. every_cons row x ys p t.1))

  -- rows that pass one test and are kept by another pass a third
  pub every-kept : (row new p : A → Bool) → ((x : A) → p x ≡ true → row x ≡ true → new x ≡ true) → (l : List A)
      → every row l ≡ true → every new (filter p l) ≡ true
  unfolding filter every
  every-kept row new p f [] h = refl
  every-kept row new p f (y ∷ ys) h =
      let t = every_tail row y ys h in
      let more = every-kept row new p f ys t.1 in
      by-test (λ v. every new v ≡ true) (p y) (λ q. every_cons new y (filter p ys) (f y q t.0) more) (λ q. more)

  pub every-filter : (row p : A → Bool) (l : List A) → every row l ≡ true → every row (filter p l) ≡ true
  every-filter row p l h = every-kept row row p (λ x e r. r) l h

  pub every_to : (row new : A → Bool) → ((x : A) → row x ≡ true → new x ≡ true) → (l : List A) → every row l ≡ true → every new l ≡ true
  unfolding every
  every_to row new f [] h = refl
  every_to row new f (y ∷ ys) h = let t = every_tail row y ys h in every_cons new y ys (f y t.0) (every_to row new f ys t.1)

  pub every-find : (row p : A → Bool) (l : List A) (x : A) → every row l ≡ true → find p l ≡ some x → row x ≡ true
  unfolding find
  every-find row p [] x h = λ e. none_some e
  every-find row p (y ∷ ys) x h =
      let t = every_tail row y ys h in
      let more = every-find row p ys x t.1 in
      by-test (λ v. v ≡ some x → row x ≡ true) (p y) (λ q e. subst (λ (v : A). row v ≡ true) (some_same e) t.0) (λ q e. more e)

  -- ---- finding

  pub find_true : (p : A → Bool) (l : List A) (x : A) → find p l ≡ some x → p x ≡ true
  unfolding find
  find_true p [] x = λ e. none_some e
  find_true p (y ∷ ys) x =
      let more = find_true p ys x in
      by-test (λ v. v ≡ some x → p x ≡ true) (p y) (λ q e. subst (λ (v : A). p v ≡ true) (some_same e) q) (λ q e. more e)

  -- ---- one row changed

  module _ (p : A → Bool) (f : A → A) where
    pub length-update : (l : List A) → length (update p f l) ≡ length l
    unfolding update
    length-update [] = refl
    length-update (y ∷ ys) =
        by-test (λ (v : List A). length v ≡ suc (length ys)) (p y) {x = f y ∷ ys} {y = y ∷ update p f ys} (λ q. refl) (λ q. ap suc (length-update ys))

    pub every-update : (row : A → Bool) → ((x : A) → p x ≡ true → row x ≡ true → row (f x) ≡ true) → (l : List A)
        → every row l ≡ true → every row (update p f l) ≡ true
    unfolding update
    every-update row keeps [] h = h
    every-update row keeps (y ∷ ys) h =
        let t = every_tail row y ys h in
        let more = every-update row keeps ys t.1 in
        by-test (λ v. every row v ≡ true) (p y)
        (λ q. every_cons row (f y) ys (keeps y q t.0) t.1)
        (λ q. every_cons row y (update p f ys) t.0 more)

    -- the same, where the row that changes is known
    pub every_update_at : (row : A → Bool) (l : List A) (x : A) → find p l ≡ some x → row (f x) ≡ true → every row l ≡ true
        → every row (update p f l) ≡ true
    unfolding update find
    every_update_at row [] x = λ e g h. none_some e
    every_update_at row (y ∷ ys) x = go (p y) (every_update_at row ys x)
      where
        go : (b : Bool) → (find p ys ≡ some x → row (f x) ≡ true → every row ys ≡ true → every row (update p f ys) ≡ true)
            → cond b (some y) (find p ys) ≡ some x → row (f x) ≡ true → every row (y ∷ ys) ≡ true
            → every row (cond b (f y ∷ ys) (y ∷ update p f ys)) ≡ true
        go true more e g h =
            every_cons row (f y) ys (subst (λ (v : A). row (f v) ≡ true) (sym (some_same e)) g) (every_tail row y ys h).1
        go false more e g h = every_cons row y (update p f ys) (every_tail row y ys h).0 (more e g (every_tail row y ys h).1)

    -- a row found is the row changed
    pub find-update : (l : List A) (x : A) → p (f x) ≡ true → find p l ≡ some x → find p (update p f l) ≡ some (f x)
    unfolding update find
    find-update [] x h = λ e. none_some e
    find-update (y ∷ ys) x h = go (p y) refl (find-update ys x h)
      where
        go : (b : Bool) → p y ≡ b → (find p ys ≡ some x → find p (update p f ys) ≡ some (f x)) → cond b (some y) (find p ys) ≡ some x
            → find p (cond b (f y ∷ ys) (y ∷ update p f ys)) ≡ some (f x)
        go true q more e = let z : y ≡ x = some_same e in rw (z, h)
        go false q more e = rw q (more e)

    -- and every other row is as it was
    pub find-other : (q : A → Bool) → ((x : A) → p x ≡ true → q x ≡ false) → ((x : A) → p x ≡ true → q (f x) ≡ false) → (l : List A)
        → find q (update p f l) ≡ find q l
    unfolding update find
    find-other q off off' [] = refl
    find-other q off off' (y ∷ ys) = go (p y) refl (find-other q off off' ys)
      where
        go : (b : Bool) → p y ≡ b → find q (update p f ys) ≡ find q ys
            → find q (cond b (f y ∷ ys) (y ∷ update p f ys)) ≡ cond (q y) (some y) (find q ys)
        go true e more = rw (off y e, off' y e)
        go false e more = ap (λ (v : Option A). cond (q y) (some y) v) more

  -- ---- one row put in

  -- a row put in is found, if the rows that stand below it are others
  pub find-put : (p : A → Bool) (lt : A → A → Bool) (x : A) → p x ≡ true → ((y : A) → lt y x ≡ true → p y ≡ false) → (l : List A)
      → find p (put lt x l) ≡ some x
  unfolding put find
  find-put p lt x h low [] = rw h
  find-put p lt x h low (y ∷ ys) =
      let more = find-put p lt x h low ys in
      by-test (λ v. find p v ≡ some x) (lt x y)
      (λ q. rw h)
      (λ q. by-test (λ v. find p v ≡ some x) (lt y x) (λ s. rw (low y s) more) (λ s. rw h))

  -- and the others are found as before
  pub find_put_other : (q : A → Bool) (lt : A → A → Bool) (x : A) → q x ≡ false → ((y : A) → lt x y ≡ false → lt y x ≡ false → q y ≡ false)
      → (l : List A) → find q (put lt x l) ≡ find q l
  unfolding put find
  find_put_other q lt x h lev [] = rw h
  find_put_other q lt x h lev (y ∷ ys) =
      let more = find_put_other q lt x h lev ys in
      by-test (λ v. find q v ≡ find q (y ∷ ys)) (lt x y)
      (λ e. rw h)
      (λ e. by-test (λ v. find q v ≡ find q (y ∷ ys)) (lt y x)
      (λ s. ap (λ (v : Option A). cond (q y) (some y) v) more)
      (λ s. rw (h, lev y e s)))

  -- ---- lengths

  pub length-filter : (p : A → Bool) (l : List A) → length (filter p l) ≤ length l
  unfolding filter
  length-filter p [] = omega arith
  length-filter p (y ∷ ys) =
      let more = length-filter p ys in
      by-test (λ (v : List A). length v ≤ suc (length ys)) (p y) {x = y ∷ filter p ys} {y = filter p ys} (λ q. omega arith) (λ q. omega arith)

  pub put-most : (lt : A → A → Bool) (x : A) (l : List A) → length (put lt x l) ≤ suc (length l)
  unfolding put
  put-most lt x [] = omega arith
  put-most lt x (y ∷ ys) =
      let more = put-most lt x ys in
      by-test (λ (v : List A). length v ≤ suc (suc (length ys))) (lt x y) {x = x ∷ y ∷ ys} (λ q. omega arith)
      (λ q. by-test (λ (v : List A). length v ≤ suc (suc (length ys))) (lt y x) {x = y ∷ put lt x ys} {y = x ∷ ys} (λ s. omega arith) (λ s. omega arith))

  pub put_least : (lt : A → A → Bool) (x : A) (l : List A) → length l ≤ length (put lt x l)
  unfolding put
  put_least lt x [] = omega arith
  put_least lt x (y ∷ ys) =
      let more = put_least lt x ys in
      by-test (λ (v : List A). suc (length ys) ≤ length v) (lt x y) {x = x ∷ y ∷ ys} (λ q. omega arith)
      (λ q. by-test (λ (v : List A). suc (length ys) ≤ length v) (lt y x) {x = y ∷ put lt x ys} {y = x ∷ ys} (λ s. omega arith) (λ s. omega arith))

  -- ---- rising rows

  module _ (lt : A → A → Bool) (order : ByKey lt) where
    -- a row found stands above the first
    pub rising-find : (p : A → Bool) (x : A) (xs : List A) (y : A) → rising lt (x ∷ xs) ≡ true → find p xs ≡ some y → lt x y ≡ true
    unfolding find rising
    rising-find p x [] y h = λ e. none_some e
    rising-find p x (z ∷ zs) y h =
        let below = and_left (lt x z) (rising lt (z ∷ zs)) h in
        let rest = and_right (lt x z) (rising lt (z ∷ zs)) h in
        by-test (λ v. v ≡ some y → lt x y ≡ true) (p z)
        (λ q e. subst (λ (v : A). lt x v ≡ true) (some_same e) below)
        (λ q e. order.through x z y below (rising-find p z zs y rest e))

    -- a row put in the place of one that is level with it
    pub put-level : (apart : (a b : A) → lt a b ≡ true → lt b a ≡ false) (p : A → Bool) (x : A) (l : List A) (y : A)
        → ((z : A) → p z ≡ true → (lt x z ≡ false) × (lt z x ≡ false)) → rising lt l ≡ true → find p l ≡ some y
        → length (put lt x l) ≡ length l
    unfolding find put
    put-level apart p x [] y lev h = λ e. none_some e
    put-level apart p x (z ∷ zs) y lev h = go (p z) refl (put-level apart p x zs y lev (rising_tail lt order z zs h))
      where
        go : (b : Bool) → p z ≡ b → (find p zs ≡ some y → length (put lt x zs) ≡ length zs) → cond b (some z) (find p zs) ≡ some y
            → length (cond (lt x z) (x ∷ z ∷ zs) (cond (lt z x) (z ∷ put lt x zs) (x ∷ zs))) ≡ suc (length zs)
        go true q more e = rw ((lev z q).0, (lev z q).1)
        go false q more e =
            let l = lev y (find_true p zs y e) in
            let up : lt z x ≡ true = order.level x y z l.0 l.1 (rising-find p z zs y h e) in
            rw (apart z x up, up) (ap suc (more e))

    -- a change that leaves a row where it stands
    pub update-rising : (p : A → Bool) (f : A → A) → ((a b : A) → lt (f a) b ≡ lt a b) → ((a b : A) → lt a (f b) ≡ lt a b) → (l : List A)
        → rising lt l ≡ true → rising lt (update p f l) ≡ true
    unfolding update rising
    update-rising p f left right [] h = h
    update-rising p f left right (x ∷ []) h = by-test (λ v. rising lt v ≡ true) (p x) (λ q. refl) (λ q. refl)
    update-rising p f left right (x ∷ y ∷ ys) h =
        let below = and_left (lt x y) (rising lt (y ∷ ys)) h in
        let rest = and_right (lt x y) (rising lt (y ∷ ys)) h in
        by-test (λ v. rising lt v ≡ true) (p x)
        (λ q. and_true _ _ (left x y ∙ below) rest)
        (λ q. next below (update-rising p f left right (y ∷ ys) rest))
      where
        next : lt x y ≡ true → rising lt (update p f (y ∷ ys)) ≡ true → rising lt (x ∷ update p f (y ∷ ys)) ≡ true
        next b =
            by-test (λ v. rising lt v ≡ true → rising lt (x ∷ v) ≡ true) (p y)
            (λ q r. and_true _ _ (right x y ∙ b) r)
            (λ q r. and_true _ _ b r)
