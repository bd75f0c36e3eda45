-- The answers of a collection's shards where they stand in the lent bytes (Rattle.spec_join.specs.Answers): by positions and counts, as loops go
-- through them. That these are what the format says is a law (proofs/Bytes.antt). Definitions only.
use Rattle.std.specs.Prelude.{ℕ, zero, suc, ◌+◌, ◌*◌, ◌≡◌, Bool, true, List, [], ◌∷◌, leb, length, Option, Some, None}
use Rattle.std.proofs.Math.Option.{none}
use Rattle.spec.specs.Lists.{◌and◌}
use Rattle.spec.specs.Layout.Format.{number_at}
use Rattle.spec_join.specs.Join.{Hit, Answer}
use Rattle.spec_join.specs.Answers.{answers_in}

-- the hit at a position
abbrev pub hit_at : List ℕ → ℕ → Hit
hit_at s p = record { id = number_at 8 s p; bits = number_at 4 s (p + 8) }

-- n hits from a position on
unfoldable pub hits_at : List ℕ → (n p : ℕ) → List Hit
hits_at s zero p = []
hits_at s (suc n) p = hit_at s p ∷ hits_at s n (p + 12)

-- an answer's hits are counted behind its shard
abbrev pub count_at : List ℕ → ℕ → ℕ
count_at s p = number_at 2 s (p + 4)

abbrev pub answer_at : List ℕ → ℕ → Answer
answer_at s p = record { shard = number_at 4 s p; hits = hits_at s (count_at s p) (p + 6) }

-- where the answer at a position ends
abbrev pub after_at : List ℕ → ℕ → ℕ
after_at s p = p + 6 + 12 * count_at s p

-- whether a whole answer stands there
unfoldable pub stands_at : List ℕ → ℕ → Bool
stands_at s p = leb (p + 6) (length s) and (leb (count_at s p) 1024 and leb (after_at s p) (length s))

-- n answers from a position on
unfoldable pub answers_at : List ℕ → (n p : ℕ) → List Answer
answers_at s zero p = []
answers_at s (suc n) p = answer_at s p ∷ answers_at s n (after_at s p)

-- n whole answers stand from p up to q
abbrev pub Leads : List ℕ → (n p q : ℕ) → Type 0
Leads s zero p q = p ≡ q
Leads s (suc n) p q = (stands_at s p ≡ true) × Leads s n (after_at s p) q

-- n whole answers stand from p up to the end
abbrev pub Stand : List ℕ → (n p : ℕ) → Type 0
Stand s n p = Leads s n p (length s)

-- what is counted
abbrev pub Counts : List ℕ → Option ℕ → Type 0
Counts s (Some n) = Stand s n 0
Counts s None = answers_in s ≡ none
