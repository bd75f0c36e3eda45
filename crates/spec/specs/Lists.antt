-- Lists over any element: the few words in which the other modules speak of tables, sets and logs. Definitions only.
use Rattle.std.specs.Prelude.{ℕ, zero, suc, Bool, true, false, cond, List, [], ◌∷◌}
use Rattle.std.proofs.Math.Option.{Option, none, some}

-- both tests hold
infixr 30 ◌and◌
unfoldable pub ◌and◌ : Bool → Bool → Bool
◌and◌ true b = b
◌and◌ false b = false

-- one of the tests holds
infixr 29 ◌or◌
unfoldable pub ◌or◌ : Bool → Bool → Bool
◌or◌ true b = true
◌or◌ false b = b

-- the element at a place, counted from 0
unfoldable pub nth {ℓ} : {A : Type ℓ} → List A → ℕ → Option A
nth [] i = none
nth (x ∷ xs) zero = some x
nth (x ∷ xs) (suc i) = nth xs i

-- every element passes
unfoldable pub every {ℓ} : {A : Type ℓ} → (A → Bool) → List A → Bool
every p [] = true
every p (x ∷ xs) = cond (p x) (every p xs) false

-- some element passes
unfoldable pub any {ℓ} : {A : Type ℓ} → (A → Bool) → List A → Bool
any p [] = false
any p (x ∷ xs) = cond (p x) true (any p xs)

-- the first element that passes
unfoldable pub find {ℓ} : {A : Type ℓ} → (A → Bool) → List A → Option A
find p [] = none
find p (x ∷ xs) = cond (p x) (some x) (find p xs)

-- the elements that pass, in their order
unfoldable pub filter {ℓ} : {A : Type ℓ} → (A → Bool) → List A → List A
filter p [] = []
filter p (x ∷ xs) = let r = filter p xs in cond (p x) (x ∷ r) r

-- f of each element that passes p, in their order
unfoldable pub collect {ℓ κ} : {A : Type ℓ} {B : Type κ} → (A → Bool) → (A → B) → List A → List B
collect p f [] = []
collect p f (x ∷ xs) = let r = collect p f xs in cond (p x) (f x ∷ r) r

-- f of each element that passes p; the others as they are
unfoldable pub change {ℓ} : {A : Type ℓ} → (A → Bool) → (A → A) → List A → List A
change p f [] = []
change p f (x ∷ xs) = cond (p x) (f x) x ∷ change p f xs

-- how many leading elements pass
unfoldable pub lead {ℓ} : {A : Type ℓ} → (A → Bool) → List A → ℕ
lead p [] = zero
lead p (x ∷ xs) = cond (p x) (suc (lead p xs)) zero

-- each element stands below the next
unfoldable pub rising {ℓ} : {A : Type ℓ} → (A → A → Bool) → List A → Bool
rising lt [] = true
rising lt (x ∷ []) = true
rising lt (x ∷ y ∷ ys) = lt x y and rising lt (y ∷ ys)

-- a value put into a rising list: before the first that stands above it, in the place of one that is level with it
unfoldable pub put {ℓ} : {A : Type ℓ} → (A → A → Bool) → A → List A → List A
put lt x [] = x ∷ []
put lt x (y ∷ ys) = let r = put lt x ys in cond (lt x y) (x ∷ y ∷ ys) (cond (lt y x) (y ∷ r) (x ∷ ys))

-- whether there is a value
abbrev pub is_some {ℓ} : {A : Type ℓ} → Option A → Bool
is_some none = false
is_some (some x) = true
