-- Laws of the node's shared words: an element changed in its place, and a call on the one shard that it names. Over any element where
-- it can be said so. Assumes nothing.
use mathlib.Core.Path.{◌≡◌, refl, sym, ap, ◌∙◌, subst}
use mathlib.Core.Bool.{Bool, true, false, cond}
use mathlib.Core.List.{List, [], ◌∷◌}
use mathlib.Core.Option.{Option, none, some}
use Rattle.spec.specs.Lists.{find}
use Rattle.spec.specs.Keys.{Key}
use Rattle.spec.specs.Node.Held.{Held, Node}
use Rattle.spec.specs.Map.Apply.{update}
use Rattle.spec.specs.Node.Shards.{Result, of_key, held_shard, with_held, at_found, at_shard}
use Rattle.spec_laws.proofs.Lists.{none_some, some_same}

-- two choices by one test
pub by_both {ℓ κ μ} : {A : Type ℓ} {B : Type κ} (P : A → B → Type μ) (b : Bool) {x y : A} {u v : B}
    → (b ≡ true → P x u) → (b ≡ false → P y v) → P (cond b x y) (cond b u v)
by_both P true f g = f refl
by_both P false f g = g refl

-- ---- the first row that passes, changed (its other laws are the tables' own)

module _ {ℓ} {A : Type ℓ} (p : A → Bool) (f : A → A) where
  -- where the change changes nothing
  pub update_same : (l : List A) (x : A) → find p l ≡ some x → f x ≡ x → update p f l ≡ l
  unfolding update find
  update_same [] x e h = refl
  update_same (y ∷ ys) x e h =
      by_both (λ (v : Option A) (w : List A). v ≡ some x → w ≡ y ∷ ys) (p y)
      (λ q d. let u : y ≡ x = some_same d in ap (λ (z : A). z ∷ ys) (ap f u ∙ h ∙ sym u))
      (λ q d. ap (λ (v : List A). y ∷ v) (update_same ys x d h))
      e

  pub update-none : (l : List A) → find p l ≡ none → update p f l ≡ l
  unfolding update find
  update-none [] e = refl
  update-none (y ∷ ys) e =
      by_both (λ (v : Option A) (w : List A). v ≡ none → w ≡ y ∷ ys) (p y)
      (λ q d. none_some (sym d))
      (λ q d. ap (λ (v : List A). y ∷ v) (update-none ys d))
      e

-- ---- a call on one shard

module _ {A : Type 0} (n : Node) (k : Key) (absent : A) (f : Held → Result A Held) where
  pub at-absent : held_shard n k ≡ none → at_shard n k absent f ≡ record { answer = absent; after = n }
  unfolding at_shard
  at-absent e = ap (at_found n k absent f) e

  pub at_held : (h : Held) → held_shard n k ≡ some h
      → at_shard n k absent f ≡ record { answer = (f h).answer; after = with_held n (update (of_key k) (λ x. (f x).after) n.held) }
  unfolding at_shard
  at_held h e = ap (at_found n k absent f) e

  -- a fact of the result: of a node without the shard, and of one with it
  pub at_cases {κ} : (P : Result A Node → Type κ)
      → (held_shard n k ≡ none → P (record { answer = absent; after = n }))
      → ((h : Held) → held_shard n k ≡ some h
      → P (record { answer = (f h).answer; after = with_held n (update (of_key k) (λ x. (f x).after) n.held) }))
      → P (at_shard n k absent f)
  unfolding at_shard
  at_cases P g h = go (held_shard n k) g h
    where
      go : (o : Option Held)
          → (o ≡ none → P (record { answer = absent; after = n }))
          → ((h : Held) → o ≡ some h
          → P (record { answer = (f h).answer; after = with_held n (update (of_key k) (λ x. (f x).after) n.held) }))
          → P (at_found n k absent f o)
      go none g h = g refl
      go (some x) g h = h x refl

  -- where the shard is left as it was, so is the node
  pub at_same : (T : A → Type 0) → ((h : Held) → T (f h).answer → (f h).after ≡ h) → T (at_shard n k absent f).answer
      → (at_shard n k absent f).after ≡ n
  unfolding held_shard
  at_same T same =
      at_cases (λ r. T r.answer → r.after ≡ n)
      (λ e t. refl)
      (λ h e t. ap (with_held n) (update_same (of_key k) (λ x. (f x).after) n.held h e (same h t)))
