-- Paper 01, 'Bytes on the wire': a small language of formats. A format says which values a stretch of bytes can
-- carry (`Value`), how they are written (`encode`), and what stands at a position of a byte list: whether a value
-- does (`fits`), which (`value`), and where it ends (`next`). `Good` is what may be written, `sound` a computed
-- test that the format's own numbers leave no doubt. The laws of all formats are in crate spec_laws, Wire/Formats.antt,
-- the formats of the messages in Message.antt. Definitions only.
use Rattle.std.specs.Prelude.{ℕ, zero, suc, ◌+◌, ◌-◌, ◌*◌, ◌/◌, ◌%◌, ◌^◌, ◌≤◌, ◌<◌, Bool, true, false, cond, not, ◌≡◌, ◌⊎◌, List, [], ◌∷◌, ◌++◌, length, get_or, take, drop, replicate, leb, ltb, eqb}
use Rattle.std.proofs.Common.{inl, inr}
use Rattle.spec.specs.Lists.{◌and◌}

-- `code c`: the byte c. `word k`: a number of k bytes. `below m`: a byte under m. `text c`: a length byte and c bytes.
-- `f ▸ g`: f, then g. `many k lo hi f`: a count of k bytes between lo and hi, and that many f.
-- `either t f g`: the byte t and then f, or else g, which begins with another byte
infixr 40 ◌▸◌
pub data Format : Type 0 where
  code : ℕ → Format
  word : ℕ → Format
  below : ℕ → Format
  text : ℕ → Format
  ◌▸◌ : Format → Format → Format
  many : (k lo hi : ℕ) → Format → Format
  either : ℕ → Format → Format → Format

-- the values that a format carries
abbrev pub Value : Format → Type 0
Value (code c) = Unit {0}
Value (word k) = ℕ
Value (below m) = ℕ
Value (text c) = List ℕ
Value (f ▸ g) = Value f × Value g
Value (many k lo hi f) = List (Value f)
Value (either t f g) = Value f ⊎ Value g

-- ---- numbers and texts

-- a list of bytes
abbrev pub Bytes : List ℕ → Type 0
Bytes s = (i : ℕ) → get_or s i 0 < 256

-- 'least significant byte first': the k bytes of v
abbrev pub bytes_of : ℕ → ℕ → List ℕ
bytes_of zero v = []
bytes_of (suc k) v = v % 256 ∷ bytes_of k (v / 256)

-- the number that the k bytes at a position spell
abbrev pub number_at : ℕ → List ℕ → ℕ → ℕ
number_at zero s at = 0
number_at (suc k) s at = get_or s at 0 + 256 * number_at k s (at + 1)

-- every number of a list lies between lo and hi
abbrev pub in_range : (lo hi : ℕ) → List ℕ → Bool
in_range lo hi [] = true
in_range lo hi (x ∷ xs) = leb lo x and (leb x hi and in_range lo hi xs)

-- the n bytes at a position lie between lo and hi
abbrev pub all_within : (lo hi n : ℕ) → List ℕ → ℕ → Bool
all_within lo hi zero s at = true
all_within lo hi (suc n) s at = leb lo (get_or s at 0) and (leb (get_or s at 0) hi and all_within lo hi n s (at + 1))

-- ---- writing

module _ {A : Type 0} where
  -- 'counted lists': items written one after the other
  abbrev pub concat_map : (A → List ℕ) → List A → List ℕ
  concat_map f [] = []
  concat_map f (x ∷ xs) = f x ++ concat_map f xs

-- the bytes of a value: 'unused bytes are zero', and counted lists have no filling
abbrev pub encode : (f : Format) → Value f → List ℕ
encode (code c) v = c ∷ []
encode (word k) v = bytes_of k v
encode (below m) v = v ∷ []
encode (text c) v = length v ∷ (v ++ replicate (c - length v) 0)
encode (f ▸ g) v = encode f v.0 ++ encode g v.1
encode (many k lo hi f) v = bytes_of k (length v) ++ concat_map (encode f) v
encode (either t f g) (inl v) = t ∷ encode f v
encode (either t f g) (inr v) = encode g v

-- ---- reading at a position

-- the position after n items
abbrev pub next_n : (ℕ → ℕ) → ℕ → ℕ → ℕ
next_n step zero at = at
next_n step (suc n) at = next_n step n (step at)

-- the position after what stands at a position
abbrev pub next : Format → List ℕ → ℕ → ℕ
next (code c) s at = at + 1
next (word k) s at = at + k
next (below m) s at = at + 1
next (text c) s at = at + 1 + c
next (f ▸ g) s at = next g s (next f s at)
next (many k lo hi f) s at = next_n (next f s) (number_at k s at) (at + k)
next (either t f g) s at = cond (eqb (get_or s at 0) t) (next f s (at + 1)) (next g s at)

-- n items stand one after the other
abbrev pub fits_n : (ℕ → Bool) → (ℕ → ℕ) → ℕ → ℕ → Bool
fits_n ok step zero at = true
fits_n ok step (suc n) at = ok at and fits_n ok step n (step at)

-- a value stands at a position: 'a length or count above its limit does not decode, nor does a name or address byte
-- outside 20 to 7E'
abbrev pub fits : Format → List ℕ → ℕ → Bool
fits (code c) s at = leb (at + 1) (length s) and eqb (get_or s at 0) c
fits (word k) s at = leb (at + k) (length s)
fits (below m) s at = leb (at + 1) (length s) and ltb (get_or s at 0) m
fits (text c) s at =
    leb (at + 1 + c) (length s)
    and (leb (get_or s at 0) c
    and (all_within 0x20 0x7E (get_or s at 0) s (at + 1) and all_within 0 0 (c - get_or s at 0) s (at + 1 + get_or s at 0)))
fits (f ▸ g) s at = fits f s at and fits g s (next f s at)
fits (many k lo hi f) s at =
    leb (at + k) (length s)
    and (leb lo (number_at k s at)
    and (leb (number_at k s at) hi and fits_n (fits f s) (next f s) (number_at k s at) (at + k)))
fits (either t f g) s at = leb (at + 1) (length s) and cond (eqb (get_or s at 0) t) (fits f s (at + 1)) (fits g s at)

module _ {A : Type 0} where
  -- the values of n items
  abbrev pub value_n : (ℕ → A) → (ℕ → ℕ) → ℕ → ℕ → List A
  value_n val step zero at = []
  value_n val step (suc n) at = val at ∷ value_n val step n (step at)

module _ {A B : Type 0} where
  -- 'Op: 1 .. or 2': the value that the first byte chose
  abbrev pub side : Bool → A → B → A ⊎ B
  side true a b = inl a
  side false a b = inr b

-- the value that stands at a position
abbrev pub value : (f : Format) → List ℕ → ℕ → Value f
value (code c) s at = tt
value (word k) s at = number_at k s at
value (below m) s at = get_or s at 0
value (text c) s at = take (get_or s at 0) (drop (at + 1) s)
value (f ▸ g) s at = (value f s at, value g s (next f s at))
value (many k lo hi f) s at = value_n (value f s) (next f s) (number_at k s at) (at + k)
value (either t f g) s at = side (eqb (get_or s at 0) t) (value f s (at + 1)) (value g s at)

-- 'bytes left over refuse': all of the bytes are one value
unfoldable pub whole : Format → List ℕ → Bool
whole f s = fits f s 0 and eqb (next f s 0) (length s)

-- ---- what may be written

module _ {A : Type 0} where
  -- of every item of a list
  abbrev pub All : (A → Type 0) → List A → Type 0
  All P [] = Unit {0}
  All P (x ∷ xs) = P x × All P xs

-- a value within the format's limits
abbrev pub Good : (f : Format) → Value f → Type 0
Good (code c) v = Unit {0}
Good (word k) v = v < 256 ^ k
Good (below m) v = v < m
Good (text c) v = (length v ≤ c) × (in_range 0x20 0x7E v ≡ true)
Good (f ▸ g) v = Good f v.0 × Good g v.1
Good (many k lo hi f) v = (lo ≤ length v) × (length v ≤ hi) × All (Good f) v
Good (either t f g) (inl v) = Good f v
Good (either t f g) (inr v) = Good g v

-- a format that begins with a byte other than t
abbrev pub other : ℕ → Format → Bool
other t (code c) = not (eqb c t)
other t (word k) = false
other t (below m) = false
other t (text c) = false
other t (f ▸ g) = other t f
other t (many k lo hi f) = false
other t (either u f g) = not (eqb u t) and other t g

-- counts can hold their limits, and the sides of each `either` begin with different bytes
abbrev pub sound : Format → Bool
sound (code c) = true
sound (word k) = true
sound (below m) = true
sound (text c) = true
sound (f ▸ g) = sound f and sound g
sound (many k lo hi f) = ltb hi (256 ^ k) and sound f
sound (either t f g) = other t g and (sound f and sound g)
