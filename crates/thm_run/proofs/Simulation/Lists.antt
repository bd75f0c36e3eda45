-- What the simulation needs of lists: rows found after a change, what is under way seen through a map, lists side by side, and two
-- finite maps changed at one place. Over any element. Assumes nothing.
use Prim.Native.Nat.{ℕ, zero, suc, ◌+◌}
use mathlib.Core.Path.{◌≡◌, refl, sym, ap, ◌∙◌, subst}
use mathlib.Core.Bool.{Bool, true, false, cond}
use mathlib.Core.List.{List, [], ◌∷◌, ◌++◌, map}
use mathlib.Core.Option.{Option, none, some}
use lib.Dec.{eqb}
use borrow.Author.Tests.{eqb-true, eqb-false}
use Rattle.spec.specs.Lists.{nth, every, any, find, collect}
use Rattle.spec.specs.Map.Apply.{update}
use Rattle.spec_laws.proofs.Lists.{by-test, not_both, none_some, some_same, nth-nil}
use Rattle.spec_laws.proofs.Map.Rows.{every_tail, every_cons}
use Rattle.spec_laws.proofs.Node.Shards.{by_both}
use Rattle.spec_run.specs.State.{at}
use Rattle.spec_run.specs.Step.{removed, replaced}
use Rattle.thm_run.proofs.Protocol.Base.{All, upd, upd2, remove_at}

-- ---- finite maps, side by side

-- a fact of every place of two maps that change at one place
pub pair-all {ℓ κ μ} : {A : Type ℓ} {B : Type κ} (P : ℕ → A → B → Type μ) {f : ℕ → A} {g : ℕ → B} {n : ℕ} {x : A} {y : B}
    → P n x y → ((m : ℕ) → P m (f m) (g m)) → (m : ℕ) → P m (at f n x m) (upd g n y m)
unfolding at upd
pair-all P {f} {g} {n} {x} {y} hx hf m =
    by_both (P m) (eqb m n) (λ e. subst (λ (k : ℕ). P k x y) (sym (eqb-true m n e)) hx) (λ e. hf m)

-- of one map that changes at one place
pub one-all {ℓ μ} : {A : Type ℓ} (P : ℕ → A → Type μ) {f : ℕ → A} {n : ℕ} {x : A}
    → P n x → ((m : ℕ) → P m (f m)) → (m : ℕ) → P m (at f n x m)
unfolding at
one-all P {f} {n} {x} hx hf m = by-test (P m) (eqb m n) (λ e. subst (λ (k : ℕ). P k x) (sym (eqb-true m n e)) hx) (λ e. hf m)

-- of two maps of two numbers
pub pair2_all {ℓ κ μ} : {A : Type ℓ} {B : Type κ} (P : ℕ → ℕ → A → B → Type μ) {f : ℕ → ℕ → A} {g : ℕ → ℕ → B} {a b : ℕ} {x : A} {y : B}
    → P a b x y → ((c d : ℕ) → P c d (f c d) (g c d)) → (c d : ℕ) → P c d (at f a (at (f a) b x) c d) (upd2 g a b y c d)
unfolding upd2
pair2_all {A = A} {B = B} P {f} {g} {a} {b} {x} {y} hx hf =
    pair-all (λ c (u : ℕ → A) (v : ℕ → B). (d : ℕ) → P c d (u d) (v d)) (pair-all (P a) hx (hf a)) hf

-- ---- rows

module _ {A : Type 0} where
  -- a row found after a change of every row is one that was found
  pub find_map_back : (p : A → Bool) (f : A → A) → ((x : A) → p (f x) ≡ p x) → (l : List A) (y : A) → find p (map f l) ≡ some y
      → (x : A) × (find p l ≡ some x) × (f x ≡ y)
  unfolding find
  find_map_back p f same [] y = λ e. none_some e
  find_map_back p f same (z ∷ zs) y =
      let more = find_map_back p f same zs y in
      rw (same z)
      (by_both (λ (v w : Option A). w ≡ some y → (x : A) × (v ≡ some x) × (f x ≡ y)) (p z)
      (λ q e. (z, refl, some_same e)) (λ q e. more e))

  -- what every row passes, it passes changed
  pub every_map : (p : A → Bool) (f : A → A) → ((x : A) → p x ≡ true → p (f x) ≡ true) → (l : List A) → every p l ≡ true → every p (map f l) ≡ true
  every_map p f keeps [] h = h
  every_map p f keeps (y ∷ ys) h =
      let t = every_tail p y ys h in every_cons p (f y) (map f ys) (keeps y t.0) (every_map p f keeps ys t.1)

  -- where one passes, one is found
  pub any-find : (p : A → Bool) (l : List A) → any p l ≡ true → (x : A) × (find p l ≡ some x)
  unfolding any find
  any-find p [] e = not_both false e refl
  any-find p (y ∷ ys) e =
      let more = any-find p ys in
      by_both (λ (v : Bool) (w : Option A). v ≡ true → (x : A) × (w ≡ some x)) (p y) (λ q d. (y, refl)) (λ q d. more d) e

  -- .. and the other way round
  pub find-any : (p : A → Bool) (l : List A) (x : A) → find p l ≡ some x → any p l ≡ true
  unfolding any find
  find-any p [] x e = none_some e
  find-any p (y ∷ ys) x e =
      let more = find-any p ys x in
      by_both (λ (v : Bool) (w : Option A). w ≡ some x → v ≡ true) (p y) (λ q d. refl) (λ q d. more d) e

  -- a test that a change leaves
  pub any-update : (p : A → Bool) (f : A → A) (t : A → Bool) → ((x : A) → t (f x) ≡ t x) → (l : List A) → any t (update p f l) ≡ any t l
  unfolding any update
  any-update p f t same [] = refl
  any-update p f t same (y ∷ ys) =
      by-test (λ (v : List A). any t v ≡ any t (y ∷ ys)) (p y) {x = f y ∷ ys} {y = y ∷ update p f ys}
      (λ q. ap (λ (b : Bool). cond b true (any t ys)) (same y))
      (λ q. ap (λ (b : Bool). cond (t y) true b) (any-update p f t same ys))

  pub any-map : (f : A → A) (t : A → Bool) → ((x : A) → t (f x) ≡ t x) → (l : List A) → any t (map f l) ≡ any t l
  unfolding any
  any-map f t same [] = refl
  any-map f t same (y ∷ ys) = rw (same y) (ap (λ (b : Bool). cond (t y) true b) (any-map f t same ys))

-- ---- what is under way

module _ {A : Type 0} where
  pub all-removed : (P : A → Type 0) (l : List A) (i : ℕ) → All P l → All P (removed l i)
  unfolding removed
  all-removed P [] i h = tt
  all-removed P (y ∷ ys) zero h = h.1
  all-removed P (y ∷ ys) (suc i) h = (h.0, all-removed P ys i h.1)

  pub all-replaced : (P : A → Type 0) (l : List A) (i : ℕ) (x : A) → All P l → P x → All P (replaced l i x)
  unfolding replaced
  all-replaced P [] i x h p = tt
  all-replaced P (y ∷ ys) zero x h p = (p, h.1)
  all-replaced P (y ∷ ys) (suc i) x h p = (h.0, all-replaced P ys i x h.1 p)

module _ {A B : Type 0} (f : A → B) where
  -- seen through a map, a place is the same place
  pub nth-map : (l : List A) (i : ℕ) (x : A) → nth l i ≡ some x → nth (map f l) i ≡ some (f x)
  unfolding nth
  nth-map [] i x e = nth-nil i x e
  nth-map (y ∷ ys) zero x e = ap (λ (z : A). some (f z)) (some_same e)
  nth-map (y ∷ ys) (suc i) x e = nth-map ys i x e

  -- and back: what it was made from
  pub nth-made : (l : List A) (i : ℕ) (y : B) → nth (map f l) i ≡ some y → (x : A) × (nth l i ≡ some x) × (f x ≡ y)
  unfolding nth
  nth-made [] i y e = nth-nil i y e
  nth-made (x ∷ xs) zero y e = (x, refl, some_same e)
  nth-made (x ∷ xs) (suc i) y e = nth-made xs i y e

  pub removed-map : (l : List A) (i : ℕ) → map f (removed l i) ≡ remove_at (map f l) i
  unfolding removed remove_at
  removed-map [] i = refl
  removed-map (y ∷ ys) zero = refl
  removed-map (y ∷ ys) (suc i) = ap (λ (v : List B). f y ∷ v) (removed-map ys i)

  pub replaced-map : (l : List A) (i : ℕ) (x y : A) → nth l i ≡ some x → f y ≡ f x → map f (replaced l i y) ≡ map f l
  unfolding replaced nth
  replaced-map [] i x y e q = refl
  replaced-map (z ∷ zs) zero x y e q = ap (λ (v : B). v ∷ map f zs) (q ∙ ap f (sym (some_same e)))
  replaced-map (z ∷ zs) (suc i) x y e q = ap (λ (v : List B). f z ∷ v) (replaced-map zs i x y e q)

  pub map_join : (l m : List A) → map f (l ++ m) ≡ map f l ++ map f m
  map_join [] m = refl
  map_join (y ∷ ys) m = ap (λ (v : List B). f y ∷ v) (map_join ys m)

  -- what is left of the ones that pass
  module _ (p : A → Bool) where
    pub collect-one : (l : List A) (x : A) → p x ≡ true → collect p f (l ++ (x ∷ [])) ≡ collect p f l ++ (f x ∷ [])
    unfolding collect
    collect-one [] x e = rw e
    collect-one (y ∷ ys) x e =
        let more = collect-one ys x e in
        by_both (λ (v w : List B). v ≡ w ++ (f x ∷ [])) (p y) (λ q. ap (λ (v : List B). f y ∷ v) more) (λ q. more)

    pub collect-skip : (l : List A) (x : A) → p x ≡ false → collect p f (l ++ (x ∷ [])) ≡ collect p f l
    unfolding collect
    collect-skip [] x e = rw e
    collect-skip (y ∷ ys) x e =
        let more = collect-skip ys x e in
        by_both (λ (v w : List B). v ≡ w) (p y) (λ q. ap (λ (v : List B). f y ∷ v) more) (λ q. more)

    pub collect-removed : (l : List A) (i : ℕ) (x : A) → nth l i ≡ some x → p x ≡ false → collect p f (removed l i) ≡ collect p f l
    unfolding collect removed nth
    collect-removed [] i x e q = refl
    collect-removed (y ∷ ys) zero x e q = rw (subst (λ (z : A). p z ≡ false) (sym (some_same e)) q)
    collect-removed (y ∷ ys) (suc i) x e q =
        let more = collect-removed ys i x e q in
        by_both (λ (v w : List B). v ≡ w) (p y) (λ q. ap (λ (v : List B). f y ∷ v) more) (λ q. more)

    -- one that passes has its place among them
    pub collect-taken : (l : List A) (i : ℕ) (x : A) → nth l i ≡ some x → p x ≡ true
        → (j : ℕ) × (nth (collect p f l) j ≡ some (f x)) × (collect p f (removed l i) ≡ remove_at (collect p f l) j)
    unfolding collect removed nth remove_at
    collect-taken [] i x e q = nth-nil i x e
    collect-taken (y ∷ ys) zero x e q =
        let u : y ≡ x = some_same e in
        let t : p y ≡ true = ap p u ∙ q in
        (0, rw (t, u), rw t)
    collect-taken (y ∷ ys) (suc i) x e q =
        let more = collect-taken ys i x e q in
        by_both (λ (v w : List B). (j : ℕ) × (nth w j ≡ some (f x)) × (v ≡ remove_at w j)) (p y)
        (λ q. (suc more.0, more.1, ap (λ (v : List B). f y ∷ v) more.2)) (λ q. more)

    -- one that does not pass, put in the place of another, is as good as none
    pub collect-replaced : (l : List A) (i : ℕ) (x y : A) → nth l i ≡ some x → p y ≡ false → collect p f (replaced l i y) ≡ collect p f (removed l i)
    unfolding collect removed replaced nth
    collect-replaced [] i x y e q = refl
    collect-replaced (z ∷ zs) zero x y e q = rw q
    collect-replaced (z ∷ zs) (suc i) x y e q =
        let more = collect-replaced zs i x y e q in
        by_both (λ (v w : List B). v ≡ w) (p z) (λ q. ap (λ (v : List B). f z ∷ v) more) (λ q. more)
