-- The number beside an answer: 8 bytes at the start of a buffer that a host lends for it. Definitions only.
use Rattle.std.specs.Prelude.{ℕ, Bool, cond, List, leb, length}
use Rattle.std.proofs.lemmas.List.Edits.{sets}
use Rattle.spec.specs.Layout.Format.{bytes_of}

-- room for it
abbrev pub answer_lent : List ℕ → Bool
answer_lent a = leb 8 (length a)

-- it stands there if it has room; a shorter buffer stays as it is
unfoldable pub number_put : List ℕ → ℕ → List ℕ
number_put a x = cond (answer_lent a) (sets a 0 (bytes_of 8 x)) a
