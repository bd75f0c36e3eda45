-- The chains of hits with one bucket. Places are counted from 1, and 0 ends a chain. Definitions only.
use Rattle.std.specs.Prelude.{ℕ, suc, ◌+◌, ◌*◌, ◌≤◌, ◌<◌, ◌≡◌, Bool, true, false, List, get_or}
use Rattle.spec.specs.Layout.Format.{number_at}

-- the id of the i-th hit from p on
abbrev pub id_at : List ℕ → (p i : ℕ) → ℕ
id_at s p i = number_at 8 s (p + 12 * i)

-- each of the first n hits leads to one before it
abbrev pub Falls : List ℕ → ℕ → Type 0
Falls next n = (i : ℕ) → i < n → get_or next i 0 ≤ i

-- the i-th hit is in the chain that begins with c
pub data Reaches (next : List ℕ) : (c i : ℕ) → Type 0 where
  here : (i : ℕ) → Reaches next (suc i) i
  there : (j i : ℕ) → Reaches next (get_or next j 0) i → Reaches next (suc j) i

-- whether `id` is that of a hit in the chain
abbrev pub Listed : List ℕ → (p : ℕ) → List ℕ → (n c id : ℕ) → Bool → Type 0
Listed s p next n c id true = (i : ℕ) × ((i < n) × (id_at s p i ≡ id))
Listed s p next n c id false = (i : ℕ) → Reaches next c i → id_at s p i ≡ id → ⊥
