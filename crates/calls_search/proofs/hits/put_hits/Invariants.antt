use mathlib.Core.Path.{◌≡◌}
use lib.ListN.{length}
use mathlib.Core.List.{map}
use lib.Seq.{sets}
use Rattle.log_select.specs.Written.{id_of, distance_of}
use Rattle.calls_client_out.specs.Hits.{hits_bytes}
use Rattle.calls_search.proofs.hits.put_hits.Given as goal

abbrev pub invariant-loop-i : goal.invariant-loop-i
invariant-loop-i l =
    (length l.hits ≡ length l.initial.hits) × (l.hits ≡ sets l.initial.hits 0 (hits_bytes (map id_of l.h.items) (map distance_of l.h.items) l.i))
