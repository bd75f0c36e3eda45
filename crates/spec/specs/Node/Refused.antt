-- Paper 01, 'The node': the one count of refused Write and Search calls. Definitions only.
use Rattle.std.specs.Prelude.{ℕ, ◌+◌, min, Bool, true, false, cond}
use Rattle.spec.specs.Limits.{max_refused}
use Rattle.spec.specs.Node.Client.{WriteAnswer, accepted, write_refused, SearchAnswer, found, search_refused}

-- 'The node': one more for a refused call, up to the largest u32
unfoldable pub counted : ℕ → (refused : Bool) → ℕ
counted c refused = cond refused (min (c + 1) max_refused) c

-- 'The node': which answers of Write are refused: each with a number, 21 to 24 included
abbrev pub write_turned_down : WriteAnswer → Bool
write_turned_down (accepted o) = false
write_turned_down (write_refused r) = true

-- 'The node': which answers of Search are refused
abbrev pub search_turned_down : SearchAnswer → Bool
search_turned_down (found l) = false
search_turned_down (search_refused r) = true

-- 'The node': the count after a Write
unfoldable pub count_write : ℕ → WriteAnswer → ℕ
count_write c a = counted c (write_turned_down a)

-- 'The node': the count after a Search
unfoldable pub count_search : ℕ → SearchAnswer → ℕ
count_search c a = counted c (search_turned_down a)
