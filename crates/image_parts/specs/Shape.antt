-- Images of a fixed size, as a small language of shapes: a byte, a number of k bytes (least significant first), a shape after a shape, n
-- times a shape. What stands at a position is `value`, its bytes are `encode`. The laws of all shapes are in proofs/Images.antt.
-- Definitions only.
use Rattle.std.specs.Prelude.{ℕ, zero, suc, ◌+◌, ◌-◌, ◌*◌, ◌^◌, ◌<◌, ◌≡◌, Bool, true, cond, List, [], ◌∷◌, ◌++◌, length, get_or, replicate, leb, ltb}
use Rattle.std.proofs.lemmas.List.Edits.{sets}
use Rattle.spec.specs.Lists.{◌and◌}
use Rattle.spec.specs.Layout.Format.{bytes_of, number_at, concat_map, All}

infixl 40 ◌▸◌
pub data Shape : Type 0 where
  byte : Shape
  word : ℕ → Shape
  ◌▸◌ : Shape → Shape → Shape
  rep : ℕ → Shape → Shape

abbrev pub u32 : Shape
u32 = word 4

abbrev pub u64 : Shape
u64 = word 8

abbrev pub Value : Shape → Type 0
Value byte = ℕ
Value (word k) = ℕ
Value (f ▸ g) = Value f × Value g
Value (rep n f) = List (Value f)

-- how many bytes it takes
abbrev pub size : Shape → ℕ
size byte = 1
size (word k) = k
size (f ▸ g) = size f + size g
size (rep n f) = n * size f

module _ {A : Type 0} where
  -- n items, each w bytes after the one before
  abbrev pub items : ℕ → (ℕ → A) → ℕ → ℕ → List A
  items zero get w at = []
  items (suc n) get w at = get at ∷ items n get w (at + w)

-- what stands at a position
abbrev pub value : (f : Shape) → List ℕ → ℕ → Value f
value byte s at = get_or s at 0
value (word k) s at = number_at k s at
value (f ▸ g) s at = (value f s at, value g s (at + size f))
value (rep n f) s at = items n (value f s) (size f) at

-- the bytes of a value
abbrev pub encode : (f : Shape) → Value f → List ℕ
encode byte v = v ∷ []
encode (word k) v = bytes_of k v
encode (f ▸ g) v = encode f v.0 ++ encode g v.1
encode (rep n f) v = concat_map (encode f) v

-- a value whose numbers and lists have the shape's sizes: all that the code's types let stand there
abbrev pub Good : (f : Shape) → Value f → Type 0
Good byte v = v < 256
Good (word k) v = v < 256 ^ k
Good (f ▸ g) v = Good f v.0 × Good g v.1
Good (rep n f) v = (length v ≡ n) × All (Good f) v

-- ---- tables: a fixed number of rows, of which the first are in use

-- how many rows of an array a count says are in use: a count above the array is refused elsewhere
abbrev pub in_use : (limit count : ℕ) → ℕ
in_use limit count = cond (leb count limit) count limit

module _ {A : Type 0} where
  -- n rows are read, w bytes apart; the rest of the array is filled with a row that says nothing
  unfoldable pub rows_at : (limit n : ℕ) → (ℕ → A) → A → (w at : ℕ) → List A
  rows_at limit n get none w at = items n get w at ++ replicate (limit - n) none

-- 'an unlisted code': the codes of n rows, numbers of 4 bytes that stand w bytes apart, are below a limit
abbrev pub codes_below : (limit w : ℕ) → List ℕ → (n at : ℕ) → Bool
codes_below limit w s zero at = true
codes_below limit w s (suc n) at = ltb (number_at 4 s at) limit and codes_below limit w s n (at + w)

-- ---- what a write makes of an image

-- some bytes are stored from a position on, and nothing else is changed
pub record Stored (before after : List ℕ) (at : ℕ) (bytes : List ℕ) (width : ℕ) : Type 0 where
  pub image : after ≡ sets before at bytes
  pub long : length bytes ≡ width
