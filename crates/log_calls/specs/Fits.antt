-- When the lent store of one replica is refused (paper 01, 'Who is turned down', 24), a search over it, and its ids. Definitions only.
use Rattle.std.specs.Prelude.{ℕ, Bool, not, cond, List, [], map, eqb, ltb, Float, length}
use Rattle.spec.specs.Lists.{◌and◌}
use Rattle.spec.specs.Limits.{max_entries}
use Rattle.spec.specs.Refusals.{outside_domain, malformed, no_room}
use Rattle.spec.specs.Nearest.Search.{hits}
use Rattle.spec.specs.Node.WellFormed.{well_formed_vector}
use Rattle.spec.specs.Node.Client.{SearchAnswer, found, search_refused}
use Rattle.spec.specs.declared.Metric.{Metric}
use Rattle.log_store.specs.Table.{vectors_of}
use Rattle.log_store.specs.Store.{Store, store_log, store_rows, well_formed_store}

-- seven numbers are each 1,024
abbrev pub all_whole : (a b c d e f g : ℕ) → Bool
all_whole a b c d e f g =
    eqb a max_entries
    and (eqb b max_entries
    and (eqb c max_entries
    and (eqb d max_entries
    and (eqb e max_entries
    and (eqb f max_entries
    and eqb g max_entries)))))

-- 'The log': a store has 1,024 places for entries, and as many for rows
unfoldable pub sized : Store → Bool
sized s =
    let c = s.columns in
    all_whole
    (length c.epochs) (length c.offsets) (length c.ids) (length c.codes) (length c.lengths) (length s.keys) (length s.places)

-- 24: columns of another length are no store; else each clause that speaks of one
unfoldable pub lent_fits : Store → Bool
lent_fits s = sized s and well_formed_store s

-- 'Who is turned down': 22, 24, then 23 if the lent output is short of the answer
unfoldable pub search_lent : Store → Metric → (query : List Float) → (k room : ℕ) → SearchAnswer
search_lent s m q k room =
    let h = hits m q (vectors_of (store_log s) (store_rows s)) k in
    cond (not (well_formed_vector q)) (search_refused outside_domain)
    (cond (not (lent_fits s)) (search_refused malformed) (cond (ltb room (length h)) (search_refused no_room) (found h)))

-- shard.rs, ids: those of the vectors, rising; none of a malformed store
unfoldable pub ids_lent : Store → List ℕ
ids_lent s = cond (lent_fits s) (map (λ v. v.id) (vectors_of (store_log s) (store_rows s))) []
