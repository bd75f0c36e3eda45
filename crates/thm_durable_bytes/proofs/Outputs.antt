-- What a host reads from an output: bytes from its start, and a number. Assumes nothing.
use Prim.Native.Nat.{ℕ, ◌+◌, ◌^◌, ◌≤◌, ◌<◌}
use mathlib.Core.Path.{◌≡◌, ap, ◌∙◌}
use mathlib.Core.List.{List, [], ◌∷◌}
use native.Mathlib.Omega.{arith}
use lib.ListN.{length, get_or, take, drop}
use lib.Seq.{sets, sets-eq, take-append_seam}
use borrow.Author.Tests.{le-leb}
use Rattle.image_store.proofs.Stored.{number-stored}
use Rattle.calls_parts.specs.Answer.{number_put}
use Rattle.calls_parts.proofs.AnswerLaws.{number_put_lem}
use Rattle.thm_durable_bytes.specs.Calls.{beside}

pub first-bytes : (bs out : List ℕ) → length bs ≤ length out → take (length bs) (sets out 0 bs) ≡ bs
first-bytes bs out h = ap (take (length bs)) (sets-eq bs out 0 (omega arith)) ∙ take-append_seam bs (drop (0 + length bs) out)

pub first_byte : (bs out : List ℕ) → 0 < length bs → length bs ≤ length out → get_or (sets out 0 bs) 0 0 ≡ get_or bs 0 0
first_byte [] out some h = absurd (omega arith)
first_byte (x ∷ xs) out some h = ap (λ (l : List ℕ). get_or l 0 0) (sets-eq (x ∷ xs) out 0 (omega arith))

pub number-beside : (v : ℕ) (answer : List ℕ) → v < 256 ^ 8 → 8 ≤ length answer → beside (number_put answer v) ≡ v
number-beside v answer h room =
    ap beside (number_put_lem answer v (le-leb 8 (length answer) room)) ∙ number-stored 8 v answer 0 h (omega arith)
