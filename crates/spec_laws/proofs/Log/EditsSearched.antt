-- Paper 02, 2.10: the laws of Edits.antt, of every search. Assumes nothing.
use Prim.Native.Nat.{ℕ}
use mathlib.Core.Path.{◌≡◌, ap}
use mathlib.Core.List.{List, [], ◌∷◌, ◌++◌}
use lib.Ieee.{Float}
use Rattle.spec.specs.declared.Metric.{Metric}
use Rattle.spec.specs.Nearest.Search.{hits}
use Rattle.spec.specs.Log.{Entry, Log, Vectors, play}
use Rattle.spec_laws.proofs.Log.Edits.{op_id, swap_edits, later_counts}

-- the same vectors give every search the same answer, so the laws above are of every search too
pub search_alike : (metric : Metric) (query : List Float) (vs ws : Vectors) (k : ℕ) → vs ≡ ws
    → hits metric query vs k ≡ hits metric query ws k
search_alike metric query vs ws k q = ap (λ (v : Vectors). hits metric query v k) q

pub swap_search : (metric : Metric) (query : List Float) (k : ℕ) (l : Log) (a b : Entry) → (op_id a.op ≡ op_id b.op → ⊥)
    → hits metric query (play (l ++ (a ∷ b ∷ []))) k ≡ hits metric query (play (l ++ (b ∷ a ∷ []))) k
swap_search metric query k l a b n =
    search_alike metric query (play (l ++ (a ∷ b ∷ []))) (play (l ++ (b ∷ a ∷ []))) k (swap_edits l a b n)

pub later_search : (metric : Metric) (query : List Float) (k : ℕ) (l : Log) (a b : Entry) → op_id a.op ≡ op_id b.op
    → hits metric query (play (l ++ (a ∷ b ∷ []))) k ≡ hits metric query (play (l ++ (b ∷ []))) k
later_search metric query k l a b q =
    search_alike metric query (play (l ++ (a ∷ b ∷ []))) (play (l ++ (b ∷ []))) k (later_counts l a b q)
