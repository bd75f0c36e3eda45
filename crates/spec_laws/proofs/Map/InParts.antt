-- An instance of Stream's law: the example of paper 01, 'Program applymap', as the bytes that its requests are written as, in two parts of which
-- the first ends amid the second request. Computed.
use mathlib.Core.Path.{◌≡◌, refl, ◌∙◌}
use mathlib.Core.Bool.{true}
use mathlib.Core.List.{List, [], ◌∷◌, ◌++◌, flatten}
use Prim.Native.Nat.{ℕ, zero, suc}
use native.Mathlib.Omega.{arith}
use lib.ListN.{take, drop}
use lib.Dec.{ltb}
use borrow.Author.Tests.{ltb-true}
use Rattle.spec.specs.Lists.{every}
use Rattle.spec.specs.Map.Tables.{empty_map}
use Rattle.spec.specs.Map.Calls.{apply_stream}
use Rattle.spec.specs.Layout.Format.{Bytes}
use Rattle.spec.specs.Layout.Request.{encode_request, register, mark_dead}
use Rattle.spec.proofs.Opened.{opened}
use Rattle.spec_laws.proofs.Map.Rows.{every_tail}
use Rattle.spec.proofs.Cases.Example.{request, answered}
use Rattle.spec_laws.proofs.Map.Stream.{turn_lines, applied_in_parts}

all-bytes : (l : List ℕ) → every (λ x. ltb x 256) l ≡ true → Bytes l
all-bytes [] e i = omega arith
all-bytes (x ∷ xs) e zero = ltb-true x 256 (every_tail (λ x. ltb x 256) x xs e).0
all-bytes (x ∷ xs) e (suc i) = all-bytes xs (every_tail (λ x. ltb x 256) x xs e).1 i

abbrev bytes : List ℕ
bytes = encode_request (request 5 1 (register 1 [] 4)) ++ (encode_request (request 6 2 (register 1 [] 4)) ++ encode_request (request 7 3 (mark_dead 1 4)))

abbrev pub parts : List (List ℕ)
parts = take 130 bytes ∷ drop 130 bytes ∷ []

whole : apply_stream (flatten parts) ≡ answered
unfolding opened
whole = refl

are_bytes : every (λ x. ltb x 256) (flatten parts) ≡ true
unfolding opened
are_bytes = refl

pub in_parts : turn_lines empty_map [] parts ≡ answered
in_parts = (applied_in_parts parts (all-bytes (flatten parts) are_bytes)).0 ∙ whole
