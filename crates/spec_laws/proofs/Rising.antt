-- Tables by rising key, over any element and any strict order: what `put` and `filter` leave rises, and what two of them leave in
-- either order. Assumes nothing.
use Prim.Native.Nat.{ℕ}
use mathlib.Core.Path.{◌≡◌, refl, sym, ap, ◌∙◌, subst}
use mathlib.Core.Bool.{Bool, true, false, cond}
use mathlib.Core.List.{List, [], ◌∷◌}
use Rattle.spec.specs.Lists.{◌and◌, filter, rising, put}
use Rattle.spec_laws.proofs.Lists.{by-test, not_both, and_true, and_left, and_right}

-- a strict order by key: two that stand neither way are level, and stand alike to all others
pub record ByKey {ℓ} {A : Type ℓ} (lt : A → A → Bool) : Type ℓ where
  pub through : (a b c : A) → lt a b ≡ true → lt b c ≡ true → lt a c ≡ true
  pub level : (a b c : A) → lt a b ≡ false → lt b a ≡ false → lt c b ≡ true → lt c a ≡ true
  pub level' : (a b c : A) → lt a b ≡ false → lt b a ≡ false → lt b c ≡ true → lt a c ≡ true

module _ {ℓ} {A : Type ℓ} (lt : A → A → Bool) (order : ByKey lt) where
  -- x stands below the first of a list, if there is one
  abbrev pub Below : A → List A → Type 0
  Below x [] = Unit
  Below x (y ∷ ys) = lt x y ≡ true

  pub rising_tail : (x : A) (xs : List A) → rising lt (x ∷ xs) ≡ true → rising lt xs ≡ true
  unfolding rising
  rising_tail x [] h = refl
  rising_tail x (y ∷ ys) h = and_right (lt x y) (rising lt (y ∷ ys)) h

  pub rising-head : (x : A) (xs : List A) → rising lt (x ∷ xs) ≡ true → Below x xs
  unfolding rising
  rising-head x [] h = tt
  rising-head x (y ∷ ys) h = and_left (lt x y) (rising lt (y ∷ ys)) h

  pub rising_cons : (x : A) (xs : List A) → Below x xs → rising lt xs ≡ true → rising lt (x ∷ xs) ≡ true
  unfolding rising
  rising_cons x [] b h = refl
  rising_cons x (y ∷ ys) b h = and_true (lt x y) (rising lt (y ∷ ys)) b h

  below_put : (w x : A) (ys : List A) → lt w x ≡ true → Below w ys → Below w (put lt x ys)
  unfolding put
  below_put w x [] p b = p
  below_put w x (y ∷ ys) p b =
      by-test (Below w) (lt x y) (λ q. p) (λ q. by-test (Below w) (lt y x) (λ s. b) (λ s. p))

  below-level : (y x : A) (ys : List A) → lt x y ≡ false → lt y x ≡ false → Below y ys → Below x ys
  below-level y x [] p q b = tt
  below-level y x (z ∷ zs) p q b = order.level' x y z p q b

  pub put-rising : (x : A) (ys : List A) → rising lt ys ≡ true → rising lt (put lt x ys) ≡ true
  unfolding put
  put-rising x [] h = rising_cons x [] tt h
  put-rising x (y ∷ ys) h =
      let below = rising-head y ys h in
      let rest = rising_tail y ys h in
      let more = put-rising x ys rest in
      by-test (λ v. rising lt v ≡ true) (lt x y)
      (λ q. rising_cons x (y ∷ ys) q h)
      (λ q. by-test (λ v. rising lt v ≡ true) (lt y x)
      (λ s. rising_cons y (put lt x ys) (below_put y x ys s below) more)
      (λ s. rising_cons x ys (below-level y x ys q s below) rest))

  below_past : (w y : A) (ys : List A) → lt w y ≡ true → Below y ys → Below w ys
  below_past w y [] p b = tt
  below_past w y (z ∷ zs) p b = order.through w y z p b

  below-filter : (p : A → Bool) (w : A) (ys : List A) → rising lt ys ≡ true → Below w ys → Below w (filter p ys)
  unfolding filter
  below-filter p w [] h b = tt
  below-filter p w (y ∷ ys) h b =
      let more = below-filter p w ys (rising_tail y ys h) (below_past w y ys b (rising-head y ys h)) in
      by-test (Below w) (p y) (λ q. b) (λ q. more)

  pub filter-rising : (p : A → Bool) (ys : List A) → rising lt ys ≡ true → rising lt (filter p ys) ≡ true
  unfolding filter
  filter-rising p [] h = h
  filter-rising p (y ∷ ys) h =
      let rest = rising_tail y ys h in
      let more = filter-rising p ys rest in
      by-test (λ v. rising lt v ≡ true) (p y)
      (λ q. rising_cons y (filter p ys) (below-filter p y ys rest (rising-head y ys h)) more)
      (λ q. more)

-- ---- Filters: one element at a time, and two after each other

-- a test passes or fails
passes {κ} : {P : Type κ} (b : Bool) → (b ≡ true → P) → (b ≡ false → P) → P
passes true f g = f refl
passes false f g = g refl

module _ {ℓ} {A : Type ℓ} where
  filter_in : (p : A → Bool) (z : A) (zs : List A) → p z ≡ true → filter p (z ∷ zs) ≡ z ∷ filter p zs
  unfolding filter
  filter_in p z zs e = rw e

  filter-out : (p : A → Bool) (z : A) (zs : List A) → p z ≡ false → filter p (z ∷ zs) ≡ filter p zs
  unfolding filter
  filter-out p z zs e = rw e

  pub filter-filter : (p q : A → Bool) (zs : List A) → filter p (filter q zs) ≡ filter q (filter p zs)
  unfolding filter
  filter-filter p q [] = refl
  filter-filter p q (z ∷ zs) =
      let more = filter-filter p q zs in
      passes (q z)
      (λ f. ap (filter p) (filter_in q z zs f) ∙ passes (p z)
      (λ e. filter_in p z (filter q zs) e ∙ ap (λ (v : List A). z ∷ v) more
      ∙ sym (ap (filter q) (filter_in p z zs e) ∙ filter_in q z (filter p zs) f))
      (λ e. filter-out p z (filter q zs) e ∙ more ∙ sym (ap (filter q) (filter-out p z zs e))))
      (λ f. ap (filter p) (filter-out q z zs f) ∙ passes (p z)
      (λ e. more ∙ sym (ap (filter q) (filter_in p z zs e) ∙ filter-out q z (filter p zs) f))
      (λ e. more ∙ sym (ap (filter q) (filter-out p z zs e))))

  pub filter-again : (p : A → Bool) (zs : List A) → filter p (filter p zs) ≡ filter p zs
  unfolding filter
  filter-again p [] = refl
  filter-again p (z ∷ zs) =
      let more = filter-again p zs in
      passes (p z)
      (λ e. ap (filter p) (filter_in p z zs e) ∙ filter_in p z (filter p zs) e ∙ ap (λ (v : List A). z ∷ v) more ∙ sym (filter_in p z zs e))
      (λ e. ap (filter p) (filter-out p z zs e) ∙ more ∙ sym (filter-out p z zs e))

-- ---- Two changes of a rising list. Of two keys that differ, either may come first; of one key, the later alone counts

module _ {ℓ} {A : Type ℓ} (lt : A → A → Bool) (order : ByKey lt) (strict : (a b : A) → lt a b ≡ true → lt b a ≡ false) where
  put_here : (x z : A) (zs : List A) → lt x z ≡ true → put lt x (z ∷ zs) ≡ x ∷ z ∷ zs
  unfolding put
  put_here x z zs e = rw e

  put_past : (x z : A) (zs : List A) → lt z x ≡ true → put lt x (z ∷ zs) ≡ z ∷ put lt x zs
  unfolding put
  put_past x z zs e = let f = strict z x e in rw (f, e)

  put-level : (x z : A) (zs : List A) → lt x z ≡ false → lt z x ≡ false → put lt x (z ∷ zs) ≡ x ∷ zs
  unfolding put
  put-level x z zs e f = rw (e, f)

  put-below : (x : A) (zs : List A) → Below lt order x zs → put lt x zs ≡ x ∷ zs
  unfolding put
  put-below x [] b = refl
  put-below x (z ∷ zs) b = put_here x z zs b

  -- one stands below another, above it, or level with it
  stands {κ} : {P : Type κ} (x z : A) → (lt x z ≡ true → P) → (lt z x ≡ true → P) → (lt x z ≡ false → lt z x ≡ false → P) → P
  stands x z f g h = passes (lt x z) f (λ e. passes (lt z x) g (λ d. h e d))

  puts : (x y : A) (zs : List A) → lt x y ≡ true → put lt x (put lt y zs) ≡ put lt y (put lt x zs)
  unfolding put
  puts x y [] p = put_here x y [] p ∙ sym (put_past y x [] p)
  puts x y (z ∷ zs) p =
      let more = puts x y zs p in
      stands y z
      (λ b. ap (put lt x) (put_here y z zs b) ∙ put_here x y (z ∷ zs) p ∙ sym (ap (put lt y) (put_here x z zs (order.through x y z p b))
      ∙ put_past y x (z ∷ zs) p ∙ ap (λ (v : List A). x ∷ v) (put_here y z zs b)))
      (λ b. ap (put lt x) (put_past y z zs b) ∙ stands x z
      (λ c. put_here x z (put lt y zs) c
      ∙ sym (ap (put lt y) (put_here x z zs c) ∙ put_past y x (z ∷ zs) p ∙ ap (λ (v : List A). x ∷ v) (put_past y z zs b)))
      (λ c. put_past x z (put lt y zs) c ∙ ap (λ (v : List A). z ∷ v) more
      ∙ sym (ap (put lt y) (put_past x z zs c) ∙ put_past y z (put lt x zs) b))
      (λ c d. put-level x z (put lt y zs) c d ∙ sym (ap (put lt y) (put-level x z zs c d) ∙ put_past y x zs p)))
      (λ b c. ap (put lt x) (put-level y z zs b c) ∙ put_here x y zs p ∙ sym (ap (put lt y) (put_here x z zs (order.level z y x c b p))
      ∙ put_past y x (z ∷ zs) p ∙ ap (λ (v : List A). x ∷ v) (put-level y z zs b c)))

  -- two values of different keys
  pub put-put : (x y : A) (zs : List A) → (lt x y ≡ false → lt y x ≡ false → ⊥) → put lt x (put lt y zs) ≡ put lt y (put lt x zs)
  put-put x y zs n = stands x y (λ p. puts x y zs p) (λ p. sym (puts y x zs p)) (λ p q. absurd (n p q))

  -- two values of one key: the later
  pub put_over : (x y : A) (zs : List A) → lt x y ≡ false → lt y x ≡ false → put lt x (put lt y zs) ≡ put lt x zs
  unfolding put
  put_over x y [] p q = put-level x y [] p q
  put_over x y (z ∷ zs) p q =
      let more = put_over x y zs p q in
      stands y z
      (λ b. ap (put lt x) (put_here y z zs b) ∙ put-level x y (z ∷ zs) p q ∙ sym (put_here x z zs (order.level' x y z p q b)))
      (λ b. let c = order.level x y z p q b in
      ap (put lt x) (put_past y z zs b) ∙ put_past x z (put lt y zs) c ∙ ap (λ (v : List A). z ∷ v) more ∙ sym (put_past x z zs c))
      (λ b c. ap (put lt x) (put-level y z zs b c) ∙ put-level x y zs p q
      ∙ sym (stands x z
      (λ d. not_both (lt y z) (order.level' y x z q p d) b)
      (λ d. not_both (lt z y) (order.level y x z q p d) c)
      (λ d e. put-level x z zs d e)))

  module _ (p : A → Bool) (alike : (a b : A) → lt a b ≡ false → lt b a ≡ false → p a ≡ p b) (x : A) where
    -- a value that the filter lets pass
    pub put-filter : (zs : List A) → rising lt zs ≡ true → p x ≡ true → filter p (put lt x zs) ≡ put lt x (filter p zs)
    unfolding put filter
    put-filter [] h keep = filter_in p x [] keep
    put-filter (z ∷ zs) h keep =
        let more = put-filter zs (rising_tail lt order z zs h) keep in
        stands x z
        (λ b. ap (filter p) (put_here x z zs b) ∙ filter_in p x (z ∷ zs) keep
        ∙ sym (put-below x (filter p (z ∷ zs)) (below-filter lt order p x (z ∷ zs) h b)))
        (λ b. ap (filter p) (put_past x z zs b) ∙ passes (p z)
        (λ e. filter_in p z (put lt x zs) e ∙ ap (λ (v : List A). z ∷ v) more
        ∙ sym (ap (put lt x) (filter_in p z zs e) ∙ put_past x z (filter p zs) b))
        (λ e. filter-out p z (put lt x zs) e ∙ more ∙ sym (ap (put lt x) (filter-out p z zs e))))
        (λ b c. ap (filter p) (put-level x z zs b c) ∙ filter_in p x zs keep
        ∙ sym (ap (put lt x) (filter_in p z zs (sym (alike x z b c) ∙ keep)) ∙ put-level x z (filter p zs) b c))

    -- one that it does not: put, then filtered away
    pub put_away : (zs : List A) → p x ≡ false → filter p (put lt x zs) ≡ filter p zs
    unfolding put
    put_away [] gone = filter-out p x [] gone
    put_away (z ∷ zs) gone =
        let more = put_away zs gone in
        stands x z
        (λ b. ap (filter p) (put_here x z zs b) ∙ filter-out p x (z ∷ zs) gone)
        (λ b. ap (filter p) (put_past x z zs b) ∙ passes (p z)
        (λ e. filter_in p z (put lt x zs) e ∙ ap (λ (v : List A). z ∷ v) more ∙ sym (filter_in p z zs e))
        (λ e. filter-out p z (put lt x zs) e ∙ more ∙ sym (filter-out p z zs e)))
        (λ b c. ap (filter p) (put-level x z zs b c) ∙ filter-out p x zs gone ∙ sym (filter-out p z zs (sym (alike x z b c) ∙ gone)))

    -- a filter that lets every other key pass takes nothing away above x
    module _ (above : (z : A) → lt x z ≡ true → p z ≡ true) (under : (z : A) → lt z x ≡ true → p z ≡ true) where
      filter_above : (zs : List A) → rising lt zs ≡ true → Below lt order x zs → filter p zs ≡ zs
      unfolding filter
      filter_above [] h b = refl
      filter_above (z ∷ zs) h b =
          filter_in p z zs (above z b)
          ∙ ap (λ (v : List A). z ∷ v)
          (filter_above zs (rising_tail lt order z zs h) (below_past lt order x z zs b (rising-head lt order z zs h)))

      -- and filtered before, the value put last stands
      pub filter-put : (zs : List A) → rising lt zs ≡ true → put lt x (filter p zs) ≡ put lt x zs
      unfolding filter
      filter-put [] h = refl
      filter-put (z ∷ zs) h =
          let rest = rising_tail lt order z zs h in
          let more = filter-put zs rest in
          stands x z
          (λ b. ap (put lt x) (filter_above (z ∷ zs) h b))
          (λ b. ap (put lt x) (filter_in p z zs (under z b)) ∙ put_past x z (filter p zs) b ∙ ap (λ (v : List A). z ∷ v) more
          ∙ sym (put_past x z zs b))
          (λ b c. let low = below-level lt order z x zs b c (rising-head lt order z zs h) in
          let same = filter_above zs rest low in
          passes (p z)
          (λ e. ap (put lt x) (filter_in p z zs e ∙ ap (λ (v : List A). z ∷ v) same))
          (λ e. ap (put lt x) (filter-out p z zs e) ∙ more ∙ put-below x zs low ∙ sym (put-level x z zs b c)))
