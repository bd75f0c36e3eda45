-- What holds of every element: over permutations, parts and pictures of a list. Assumes nothing.
use mathlib.Core.Path.{◌≡◌, refl, sym, ap, ◌∙◌, subst}
use mathlib.Core.Bool.{Bool, true, false, cond}
use mathlib.Core.List.{List, [], ◌∷◌, ◌++◌, map, Permᴰ}
use Prim.Native.Nat.{ℕ, zero, suc}
use lib.ListN.{take}
use Rattle.spec.specs.Lists.{every}
use Rattle.spec_laws.proofs.Map.Rows.{every_tail, every_cons}

module _ {A : Type 0} (p : A → Bool) where
  pub every_perm : {l m : List A} → Permᴰ l m → every p l ≡ true → every p m ≡ true
  every_perm Permᴰ.nil h = h
  every_perm (Permᴰ.cons {a = a} {b = b} {l₁ = l} {l₂ = m} e d) h =
      let t = every_tail p a l h in every_cons p b m (subst (λ (z : A). p z ≡ true) e t.0) (every_perm d t.1)
  every_perm (Permᴰ.swap {a = a} {b = b} {a' = a'} {b' = b'} {l = l} e f) h =
      let t = every_tail p a (b ∷ l) h in
      let u = every_tail p b l t.1 in
      every_cons p a' (b' ∷ l) (subst (λ (z : A). p z ≡ true) f u.0) (every_cons p b' l (subst (λ (z : A). p z ≡ true) e t.0) u.1)
  every_perm (Permᴰ.trans d e) h = every_perm e (every_perm d h)

  pub every-left : (l m : List A) → every p (l ++ m) ≡ true → every p l ≡ true
  unfolding every
  every-left [] m h = refl
  every-left (x ∷ l) m h = let t = every_tail p x (l ++ m) h in every_cons p x l t.0 (every-left l m t.1)

module _ {A B : Type 0} (f : A → B) where
  pub every_map : (p : B → Bool) (q : A → Bool) → ((x : A) → q x ≡ true → p (f x) ≡ true) → (l : List A) → every q l ≡ true → every p (map f l) ≡ true
  unfolding every
  every_map p q g [] h = refl
  every_map p q g (x ∷ l) h = let t = every_tail q x l h in every_cons p (f x) (map f l) (g x t.0) (every_map p q g l t.1)

  pub map-take : (k : ℕ) (l : List A) → map f (take k l) ≡ take k (map f l)
  map-take zero l = refl
  map-take (suc k) [] = refl
  map-take (suc k) (x ∷ l) = ap (λ (m : List B). f x ∷ m) (map-take k l)
