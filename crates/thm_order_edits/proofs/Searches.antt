-- Two stores that are well formed and read with the same vectors: `search` answers both alike. Assumes nothing.
use Prim.Native.Nat.{ℕ}
use mathlib.Core.Path.{◌≡◌, refl, sym, ap, ◌∙◌, subst}
use mathlib.Core.Bool.{Bool, true, not, cond}
use mathlib.Core.List.{List}
use lib.Dec.{ltb}
use lib.Ieee.{Float}
use lib.ListN.{length}
use Rattle.spec.specs.Refusals.{outside_domain, malformed, no_room}
use Rattle.spec.specs.Log.{Vectors}
use Rattle.spec.specs.Nearest.Search.{hits}
use Rattle.spec.specs.Node.WellFormed.{well_formed_vector}
use Rattle.spec.specs.Node.Client.{SearchAnswer, found, search_refused}
use Rattle.spec.specs.declared.Metric.{Metric}
use Rattle.log_store.specs.Store.{Store}
use Rattle.log_search.specs.Search.{Searched}
use Rattle.log_search.specs.declared.answer.Found.{Found}
use Rattle.log_calls.specs.Fits.{lent_fits, search_lent}
use Rattle.thm_order_edits.specs.Edits.{read_vectors, SearchedAlike}

-- the answer depends on the vectors, and on whether the store is refused
answer_alike : (u v : Store) (m : Metric) (q : List Float) (k room : ℕ) → lent_fits u ≡ lent_fits v → read_vectors u ≡ read_vectors v
    → search_lent u m q k room ≡ search_lent v m q k room
unfolding search_lent
answer_alike u v m q k room f e =
    ap (λ (b : Bool). by b (read_vectors u)) f ∙ ap (λ (vs : Vectors). by (lent_fits v) vs) e
  where
    by : Bool → Vectors → SearchAnswer
    by b vs =
        cond (not (well_formed_vector q)) (search_refused outside_domain)
        (cond (not b) (search_refused malformed)
        (cond (ltb room (length (hits m q vs k))) (search_refused no_room) (found (hits m q vs k))))

-- one answer has one reply and one pair of outputs
one-outcome : (a : SearchAnswer) (is : List ℕ) (ds : List Float) (r₁ r₂ : Found) (is₁ is₂ : List ℕ) (ds₁ ds₂ : List Float)
    → Searched a r₁ is is₁ ds ds₁ → Searched a r₂ is is₂ ds ds₂ → (r₁ ≡ r₂) × (is₁ ≡ is₂) × (ds₁ ≡ ds₂)
one-outcome (found h) is ds r₁ r₂ is₁ is₂ ds₁ ds₂ p q = (p.0 ∙ sym q.0, p.1 ∙ sym q.1, p.2 ∙ sym q.2)
one-outcome (search_refused x) is ds r₁ r₂ is₁ is₂ ds₁ ds₂ p q = (p.0 ∙ sym q.0, p.1 ∙ sym q.1, p.2 ∙ sym q.2)

pub searched_alike : (u v : Store) → lent_fits u ≡ lent_fits v → read_vectors u ≡ read_vectors v → SearchedAlike u v
searched_alike u v f e m q k room is ds r₁ r₂ is₁ is₂ ds₁ ds₂ p p' =
    one-outcome (search_lent v m q k room) is ds r₁ r₂ is₁ is₂ ds₁ ds₂
    (subst (λ (a : SearchAnswer). Searched a r₁ is is₁ ds ds₁) (answer_alike u v m q k room f e) p) p'
