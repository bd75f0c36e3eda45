-- Search over a lent store (paper 01, 'Nearest objects', 'Who is turned down'), and what its two lent outputs hold then.
-- Definitions only.
use Rattle.std.specs.Prelude.{ℕ, ◌≡◌, not, cond, List, ◌++◌, map, ltb, Float, length, drop}
use Rattle.spec.specs.Refusals.{number_of, outside_domain, malformed, no_room}
use Rattle.spec.specs.Nearest.Search.{hits}
use Rattle.spec.specs.Node.WellFormed.{well_formed_vector}
use Rattle.spec.specs.Node.Client.{SearchAnswer, found, search_refused}
use Rattle.spec.specs.declared.Metric.{Metric}
use Rattle.log_store.specs.Table.{vectors_of}
use Rattle.log_store.specs.Store.{Store, store_log, store_rows, well_formed_store}
use Rattle.log_select.specs.Written.{id_of, distance_of}
use Rattle.log_search.specs.declared.answer.Found.{Found}
use Rattle.log_search.specs.declared.answer.Found.TheVariants.{Hits, Refused}

-- 'Who is turned down': 22, 24, then 23 if the lent output is short of the answer
unfoldable pub search_store : Store → Metric → (query : List Float) → (k room : ℕ) → SearchAnswer
search_store s m q k room =
    let h = hits m q (vectors_of (store_log s) (store_rows s)) k in
    cond (not (well_formed_vector q)) (search_refused outside_domain)
    (cond (not (well_formed_store s)) (search_refused malformed) (cond (ltb room (length h)) (search_refused no_room) (found h)))

-- the answer and both outputs at exit: a refusal changes nothing, and what lies past the hits stays as it was
abbrev pub Searched : SearchAnswer → Found → (ids ids' : List ℕ) → (ds ds' : List Float) → Type 0
Searched (search_refused x) r is is' ds ds' = (r ≡ Refused (number_of x)) × (is' ≡ is) × (ds' ≡ ds)
Searched (found h) r is is' ds ds' =
    (r ≡ Hits (length h)) × (is' ≡ map id_of h ++ drop (length h) is) × (ds' ≡ map distance_of h ++ drop (length h) ds)
