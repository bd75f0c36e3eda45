-- What place_losses answers of a map's image, and what it leaves of its two buffers: s and t are the bytes of the list at entry and at exit,
-- a and b those of the number beside the answer, r the number that is answered (paper 02, 2.9). Definitions only.
use Rattle.std.specs.Prelude.{ℕ, ◌≡◌, Bool, true, false, cond, List, length, leb}
use Rattle.std.proofs.lemmas.List.Edits.{sets}
use Rattle.spec.specs.Lists.{◌and◌}
use Rattle.spec.specs.Limits.{max_name}
use Rattle.spec.specs.Keys.{Name}
use Rattle.spec.specs.Refusals.{Refusal, undecodable, no_room, malformed, number_of}
use Rattle.spec_losses.specs.Losses.{Losses, lost, not_lost, losses_call}
use Rattle.wire_write.specs.Written.{text_fits}
use Rattle.map_tables.specs.View.{view_map}
use Rattle.map_tables.specs.declared.ShardMap.{ShardMap}
use Rattle.map_check.specs.Lent.{counted}
use Rattle.image_map.specs.Image.{map_at, map_lent}
use Rattle.calls_parts.specs.Answer.{answer_lent, number_put}
use Rattle.calls_losses.specs.Rows.{losses_bytes}

-- a refusal: its number, and the bytes as they were
pub record Refuses (why : Refusal) (s t a b : List ℕ) (r : ℕ) : Type 0 where
  pub number : r ≡ number_of why
  pub list : t ≡ s
  pub answer : b ≡ a

-- room for the rows, and for the number of them
abbrev pub room_for : (rows s a : List ℕ) → Bool
room_for rows s a = leb (length rows) (length s) and answer_lent a

-- 0 and the rows from the list's start on, what lies behind them as it was, and n beside the answer; 23 where either buffer is too short
pub record AnswersRows (rows : List ℕ) (n : ℕ) (s t a b : List ℕ) (r : ℕ) : Type 0 where
  pub number : r ≡ cond (room_for rows s a) 0 (number_of no_room)
  pub list : t ≡ cond (room_for rows s a) (sets s 0 rows) s
  pub answer : b ≡ cond (room_for rows s a) (number_put a n) a

abbrev pub AnswersLosses : Losses → (s t a b : List ℕ) → ℕ → Type 0
AnswersLosses (lost xs) s t a b r = AnswersRows (losses_bytes xs) (length xs) s t a b r
AnswersLosses (not_lost why) s t a b r = Refuses why s t a b r

-- 24 also of a count over its limit beside an array; then the definition's call
unfoldable pub losses_lent : ShardMap → Name → Losses
losses_lent m name = cond (counted m) (losses_call (view_map m) name) (not_lost malformed)

-- 21 for a name that no message can carry, before the image is looked at, then 24 for a buffer that lends no map, then the call. The map m is
-- lent for reading: no byte of it changes
pub record Loses (m name s t a b : List ℕ) (r : ℕ) : Type 0 where
  pub unnamed : text_fits max_name name ≡ false → Refuses undecodable s t a b r
  pub unlent : text_fits max_name name ≡ true → map_lent m ≡ false → Refuses malformed s t a b r
  pub lent : text_fits max_name name ≡ true → map_lent m ≡ true → AnswersLosses (losses_lent (map_at m) name) s t a b r
