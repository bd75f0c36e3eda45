-- Paper 02, 2.4: a load sheet computed from the bytes of its requests. A node is listed twice in a shard, one is dead, one has no record, and two
-- records name a node that the map does not know, which is counted by its records.
use mathlib.Core.Path.{◌≡◌, refl, ap, ◌∙◌}
use mathlib.Core.List.{List, [], ◌∷◌, ◌++◌, flatten, map}
use Prim.Native.Nat.{ℕ, ◌+◌}
use Rattle.spec.specs.Keys.{Key}
use Rattle.spec.specs.Layout.Request.{Request, Command, encode_request, create, register, mark_dead, add_replica}
use Rattle.spec_sheet.specs.Sheet.{Loaded, Sheet, records_in, is_unknown, unknown_on, unknown_in, sheet_of, sheet_for}
use Rattle.spec.specs.Map.Tables.{empty_map}
use Rattle.spec.specs.Map.Calls.{requests_in, map_after}
use Rattle.spec.specs.declared.Metric.TheVariants.{Euclidean}
use Rattle.spec.proofs.Opened.{opened}
use Rattle.spec.proofs.Cases.Example.{request}
use Rattle.spec_sheet.proofs.Sheet.{sum_of}

abbrev key : ℕ → Key
key n = record { collection = 97 ∷ []; shard = n }

abbrev placed : Command
placed =
    create (97 ∷ []) (record { dimension = 1; metric = Euclidean; shards = 2; replication = 3 }) ((2 ∷ 2 ∷ 0 ∷ []) ∷ (0 ∷ []) ∷ [])

abbrev asked : List Request
asked =
    request 1 1 (register 2 [] 1) ∷ request 2 2 (register 0 [] 1) ∷ request 3 3 (register 10 [] 1) ∷ request 4 4 (register 9 [] 1)
    ∷ request 5 5 placed ∷ request 6 6 (add_replica (key 0) 7 1 1) ∷ request 7 7 (add_replica (key 1) 7 1 1) ∷ request 8 8 (mark_dead 0 1) ∷ []

abbrev bytes : List ℕ
bytes = flatten (map encode_request asked)

abbrev loaded : ℕ → ℕ → Loaded
loaded n c = record { node = n; count = c }

abbrev sheet : Sheet
sheet = record { lines = loaded 0 2 ∷ loaded 2 2 ∷ loaded 9 0 ∷ loaded 10 0 ∷ []; unknown = 2; total = 6 }

read : requests_in bytes ≡ asked
unfolding opened
read = refl

counted : sheet_of (map_after empty_map asked) ≡ sheet
unfolding opened sheet_of records_in is_unknown unknown_on unknown_in map_after
counted = refl

pub printed : sheet_for bytes ≡ sheet
unfolding sheet_for
printed = ap (λ rs. sheet_of (map_after empty_map rs)) read ∙ counted

pub adds : sum_of (sheet_for bytes).lines + (sheet_for bytes).unknown ≡ (sheet_for bytes).total
unfolding sum_of
adds = rw printed refl
