-- Shards that a call carried stand in the same places, so that the shard of a key is found where it was. Assumes nothing.
use Prim.Native.Nat.{ℕ, zero, suc, ◌<◌}
use mathlib.Core.Path.{◌≡◌, refl, sym, ap, ◌∙◌, subst}
use mathlib.Core.Bool.{Bool, true, false, cond, not}
use mathlib.Core.List.{List, [], ◌∷◌}
use mathlib.Core.Option.{Option, none, some}
use native.Mathlib.Omega.{arith}
use lib.ListN.{length}
use Rattle.spec.specs.Lists.{nth, lead, find}
use Rattle.spec.specs.Keys.{Key, same_key}
use Rattle.spec.specs.Node.Held.{Held, Node}
use Rattle.spec.specs.Node.Shards.{of_key, held_shard}
use Rattle.spec_laws.proofs.Lists.{none_some, some_same, nth-nil}
use Rattle.spec_retained.specs.Retained.{Carries, CarriesAll}

-- the shards before that of a key
abbrev pub others : Key → Held → Bool
others k h = not (of_key k h)

-- what is found stands where the search stops
find-lead : (k : Key) (l : List Held) (x : Held) → find (of_key k) l ≡ some x → nth l (lead (others k) l) ≡ some x
unfolding find lead nth
find-lead k [] x e = none_some e
find-lead k (y ∷ ys) x e = go (of_key k y) e (find-lead k ys x)
  where
    go : (b : Bool) → cond b (some y) (find (of_key k) ys) ≡ some x → (find (of_key k) ys ≡ some x → nth ys (lead (others k) ys) ≡ some x)
        → nth (y ∷ ys) (cond (not b) (suc (lead (others k) ys)) zero) ≡ some x
    go true e more = e
    go false e more = more e

lead-carried : (k : Key) (l m : List Held) → ((i : ℕ) (h : Held) → nth l i ≡ some h → (g : Held) × (nth m i ≡ some g) × Carries h g)
    → lead (others k) l < length l → lead (others k) m ≡ lead (others k) l
unfolding lead nth
lead-carried k [] m f h = absurd (omega arith)
lead-carried k (x ∷ xs) [] f h = let c = f 0 x refl in nth-nil 0 c.0 c.1
lead-carried k (x ∷ xs) (y ∷ ys) f h =
    let c = f 0 x refl in
    let same : y.key ≡ x.key = ap (λ (z : Held). z.key) (some_same c.1) ∙ c.2.key in
    ap (λ (j : Key). cond (not (same_key j k)) (suc (lead (others k) ys)) zero) same
    ∙ go (of_key k x) h (lead-carried k xs ys (λ i z e. f (suc i) z e))
  where
    go : (b : Bool) → cond (not b) (suc (lead (others k) xs)) zero < suc (length xs) → (lead (others k) xs < length xs → lead (others k) ys ≡ lead (others k) xs)
        → cond (not b) (suc (lead (others k) ys)) zero ≡ cond (not b) (suc (lead (others k) xs)) zero
    go true h more = refl
    go false h more = ap suc (more (omega arith))

-- the shard of a key that was held
pub found-carried : (k : Key) (n m : Node) (g : Held) → CarriesAll n m → lead (others k) n.held < length n.held → held_shard m k ≡ some g
    → nth m.held (lead (others k) n.held) ≡ some g
unfolding held_shard
found-carried k n m g f h e =
    subst (λ (i : ℕ). nth m.held i ≡ some g) (lead-carried k n.held m.held f h) (find-lead k m.held g e)
