-- Laws of rising keys. Assumes nothing.
use mathlib.Core.Path.{◌≡◌, refl}
use mathlib.Core.Bool.{true}
use mathlib.Core.List.{List, [], ◌∷◌, ◌++◌}
use Prim.Native.Nat.{ℕ, zero, suc, ◌<◌}
use native.Mathlib.Omega.{arith}
use lib.ListN.{length, get_or}
use Rattle.spec.specs.Lists.{◌and◌, rising}
use Rattle.spec.specs.Keys.{Key, key_below}
use Rattle.spec_laws.proofs.Lists.{not_both, and_true, and_left, and_right}
use Rattle.spec_laws.proofs.Map.Orders.{keys}

-- a rising list without one of its elements
pub rising_tail : (k : Key) (l : List Key) → rising key_below (k ∷ l) ≡ true → rising key_below l ≡ true
unfolding rising
rising_tail k [] e = refl
rising_tail k (b ∷ bs) e = and_right (key_below k b) (rising key_below (b ∷ bs)) e

pub rising_less : (a : List Key) (k : Key) (b : List Key) → rising key_below (a ++ (k ∷ b)) ≡ true → rising key_below (a ++ b) ≡ true
unfolding rising
rising_less [] k b e = rising_tail k b e
rising_less (x ∷ []) k [] e = refl
rising_less (x ∷ []) k (y ∷ ys) e =
    let r = and_right (key_below x k) (key_below k y and rising key_below (y ∷ ys)) e in
    and_true (key_below x y) (rising key_below (y ∷ ys))
    (keys.along x k y (and_left (key_below x k) (key_below k y and rising key_below (y ∷ ys)) e) (and_left (key_below k y) (rising key_below (y ∷ ys)) r))
    (and_right (key_below k y) (rising key_below (y ∷ ys)) r)
rising_less (x ∷ z ∷ zs) k b e =
    and_true (key_below x z) (rising key_below (z ∷ (zs ++ b))) (and_left (key_below x z) (rising key_below (z ∷ (zs ++ (k ∷ b)))) e)
    (rising_less (z ∷ zs) k b (and_right (key_below x z) (rising key_below (z ∷ (zs ++ (k ∷ b)))) e))

-- the first stands below every other
pub below_each : (k : Key) (l : List Key) → rising key_below (k ∷ l) ≡ true → (i : ℕ) (d : Key) → i < length l → key_below k (get_or l i d) ≡ true
unfolding rising
below_each k [] e i d h = absurd (omega arith)
below_each k (x ∷ xs) e zero d h = and_left (key_below k x) (rising key_below (x ∷ xs)) e
below_each k (x ∷ xs) e (suc i) d h =
    keys.along k x (get_or xs i d) (and_left (key_below k x) (rising key_below (x ∷ xs)) e)
    (below_each x xs (and_right (key_below k x) (rising key_below (x ∷ xs)) e) i d (omega arith))

pub never_below : (k : Key) → key_below k k ≡ true → ⊥
never_below k e = not_both (key_below k k) e (keys.apart k k e)
