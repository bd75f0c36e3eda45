-- Paper 01, 'Bytes on the wire': each message is written as the table has it and read back from those bytes, and what the table says
-- does not decode is not read, computed by the checker. Assumes nothing.
use mathlib.Core.Path.{◌≡◌, refl}
use mathlib.Core.List.{List, ◌∷◌, ◌++◌, map}
use mathlib.Core.Option.{Option, none, some}
use Prim.Native.Nat.{ℕ}
use lib.ListN.{replicate}
use Rattle.spec.specs.Layout.Request.{Request, bench, encode_request}
use Rattle.spec.specs.Cases.Bytes.{Message, Row, written, read, head, commands, messages, at_limit, undecoded}
use Rattle.spec.proofs.Opened.{opened}

abbrev wrote : List Row → List (List ℕ)
wrote rows = map (λ r. written r.message) rows

abbrev bytes : List Row → List (List ℕ)
bytes rows = map (λ r. r.bytes) rows

abbrev pub reading : List Row → List (Option Message)
reading rows = map (λ r. read r.message r.bytes) rows

abbrev pub whole : List Row → List (Option Message)
whole rows = map (λ r. some r.message) rows

abbrev nothing : List Row → List (Option Message)
nothing rows = map (λ r. none) rows

pub commands-written : wrote commands ≡ bytes commands
unfolding opened
commands-written = refl

pub commands-read : reading commands ≡ whole commands
unfolding opened
commands-read = refl

pub messages-written : wrote messages ≡ bytes messages
unfolding opened
messages-written = refl

pub messages-read : reading messages ≡ whole messages
unfolding opened
messages-read = refl

pub limits_written : wrote at_limit ≡ bytes at_limit
unfolding opened
limits_written = refl

-- a Bench at its limit, and the bytes that carry it
abbrev pub longest : Request
longest = record { index = 0x0807060504030201; client = 2; seq = 3; command = bench (replicate 1024 0) }

abbrev pub carried : List ℕ
carried = head ++ (0x19 ∷ 0 ∷ 4 ∷ replicate 1024 0)

pub longest-written : encode_request longest ≡ carried
unfolding opened
longest-written = refl

pub undecoded-unread : reading undecoded ≡ nothing undecoded
unfolding opened
undecoded-unread = refl
