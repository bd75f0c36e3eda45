-- The count of refused client calls as a host lends it: a number of 4 bytes, apart from the node's state (paper 01, 'The node'). Definitions
-- only.
use Rattle.std.specs.Prelude.{ℕ, Bool, cond, List, eqb, leb, length}
use Rattle.std.proofs.lemmas.List.Edits.{sets}
use Rattle.spec.specs.Layout.Format.{bytes_of, number_at}
use Rattle.node_refused.specs.Count.{bumped}

abbrev pub count_lent : List ℕ → Bool
count_lent c = leb 4 (length c)

-- one more for a refusal of any number, up to the largest u32; nothing else counts, and a shorter buffer stays as it is
unfoldable pub count_put : List ℕ → (number : ℕ) → List ℕ
count_put c r = cond (eqb r 0) c (cond (count_lent c) (sets c 0 (bytes_of 4 (bumped (number_at 4 c 0)))) c)
