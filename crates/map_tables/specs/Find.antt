-- Places in a table. Definitions only.
use Rattle.std.specs.Prelude.{ℕ, Bool, not, List}
use Rattle.spec.specs.Lists.{lead}

-- the place of the first row that passes, or the length
abbrev pub first_at {ℓ} : {A : Type ℓ} → (A → Bool) → List A → ℕ
first_at p l = lead (λ x. not (p x)) l

-- the place of the first row that does not stand below x, or the length
abbrev pub place_at {ℓ} : {A : Type ℓ} → (A → A → Bool) → A → List A → ℕ
place_at lt x l = lead (λ y. lt y x) l
