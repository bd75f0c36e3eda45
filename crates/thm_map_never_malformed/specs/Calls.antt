-- Requests applied to a map's image one after the other (paper 01, 'Who is turned down', 24; include/catalogue.h): each is related to the bytes
-- that it was lent by the contract of its entry point, and by nothing else. Definitions only.
use Rattle.std.specs.Prelude.{ℕ, ◌≡◌, true, List, [], ◌∷◌}
use Rattle.map_check.specs.Lent.{well_formed_lent}
use Rattle.image_map.specs.Image.{map_lent, map_at}
use Rattle.calls_map.specs.Calls.{AppliesTo}

-- the bytes lend a map, and it passes its test
pub record Intact (s : List ℕ) : Type 0 where
  pub lent : map_lent s ≡ true
  pub formed : well_formed_lent (map_at s) ≡ true

-- a request in bytes, any bytes, with the number that its call answered
pub record Answered : Type 0 where
  pub request : List ℕ
  pub number : ℕ

-- calls of apply, each on the bytes that the one before it left
unfoldable pub Calls : List Answered → (s t : List ℕ) → Type 0
Calls [] s t = t ≡ s
Calls (a ∷ rest) s t = (u : List ℕ) × AppliesTo s u a.request a.number × Calls rest u t

-- the claim of each
abbrev pub NotMalformed : Answered → Type 0
NotMalformed a = a.number ≡ 24 → ⊥
