-- What the calls on a map's image answer, and what they leave of every byte: s and t are the bytes of a buffer at entry and at exit, r
-- the number that is answered (paper 01, 'Who is turned down'). Definitions only.
use Rattle.std.specs.Prelude.{ℕ, ◌≡◌, Bool, true, false, cond, List, length, eqb, leb, ltb}
use Rattle.std.proofs.Math.Option.{Option, none, some}
use Rattle.spec.specs.Refusals.{Refusal, undecodable, malformed, number_of}
use Rattle.spec.specs.Map.Tables.{empty_map}
use Rattle.spec.specs.Map.Apply.{Applied}
use Rattle.spec.specs.Map.Calls.{reason_number}
use Rattle.spec.specs.Layout.Request.{Request, decode_request}
use Rattle.map_tables.specs.View.{view_map}
use Rattle.map_check.specs.Lent.{well_formed_lent}
use Rattle.map_apply.specs.Calls.{apply_lent}
use Rattle.image_map.specs.Image.{map_at, map_lent, map_stored, MapBecomes}

-- a refusal: its number, and the bytes as they were
abbrev pub Refuses : Refusal → (s t : List ℕ) → ℕ → Type 0
Refuses why s t r = (r ≡ number_of why) × (t ≡ s)

-- ---- apply

-- without a map: 21 before 24
abbrev pub unlent_of : Option Request → ℕ
unlent_of none = number_of undecodable
unlent_of (some q) = number_of malformed

abbrev pub unlent_number : List ℕ → ℕ
unlent_number bytes = unlent_of (decode_request bytes)

-- the answers that the map remembers: applied, and every rejection but that of an older command
abbrev pub noted : ℕ → Bool
noted r = cond (eqb r 1) false (leb r 16)

-- apply's own definition, on the map that the bytes are read as: its answer, and the map after
abbrev pub applied_to : (s bytes : List ℕ) → Applied
applied_to s bytes = apply_lent (map_at s) (decode_request bytes)

-- where the map remembers the answer, the map after is stored in its one form, and otherwise no byte changes: so every byte at exit is given by
-- the bytes at entry. The bytes at exit lend the map after, well formed where the map at entry was
pub record AppliesImage (s t bytes : List ℕ) (r : ℕ) : Type 0 where
  pub answer : r ≡ reason_number (applied_to s bytes).answer
  pub image : t ≡ cond (noted r) (map_stored s (applied_to s bytes).map) s
  pub lent : map_lent t ≡ true
  pub read : view_map (map_at t) ≡ (applied_to s bytes).map
  pub formed : well_formed_lent (map_at s) ≡ true → well_formed_lent (map_at t) ≡ true

-- 21 before the image is looked at, then 24 for a buffer that lends no map
pub record AppliesTo (s t bytes : List ℕ) (r : ℕ) : Type 0 where
  pub undecoded : decode_request bytes ≡ none → Refuses undecodable s t r
  pub unlent : (q : Request) → decode_request bytes ≡ some q → map_lent s ≡ false → Refuses malformed s t r
  pub lent : map_lent s ≡ true → AppliesImage s t bytes r

-- ---- an empty map

-- a map without rows at version 0
pub record EmptiesImage (s t : List ℕ) (r : ℕ) : Type 0 where
  pub answer : r ≡ 0
  pub becomes : MapBecomes s t empty_map

pub record Empties (s t : List ℕ) (r : ℕ) : Type 0 where
  pub short : ltb (length s) 26536 ≡ true → Refuses malformed s t r
  pub long : ltb (length s) 26536 ≡ false → EmptiesImage s t r
