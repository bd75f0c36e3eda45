-- Bytes moved within an image. Definitions only.
use Rattle.std.specs.Prelude.{ℕ, ◌+◌, ◌≤◌, ◌<◌, ◌≡◌, List, length, get_or}

-- the n bytes that stood at one position stand at another, and no other byte changes
pub record Moved (s t : List ℕ) (from to n : ℕ) : Type 0 where
  pub long : length t ≡ length s
  pub below : (i : ℕ) → i < to → get_or t i 0 ≡ get_or s i 0
  pub moved : (i : ℕ) → i < n → get_or t (to + i) 0 ≡ get_or s (from + i) 0
  pub behind : (i : ℕ) → to + n ≤ i → get_or t i 0 ≡ get_or s i 0
