-- An image read into columns. Of the floats only the patterns that the first `count` entries use are looked at, and each is tested as
-- bits: a NaN has no float of its own, and free patterns may be anything. Definitions only.
use Rattle.std.specs.Prelude.{ℕ, zero, suc, ◌+◌, ◌*◌, min, ◌≡◌, Bool, cond, List, ◌++◌, map, eqb, leb, Float, length, get_or, take, drop}
use Rattle.spec.specs.Lists.{◌and◌, every}
use Rattle.spec.specs.Limits.{max_entries, max_components, min_floats}
use Rattle.spec.specs.Nearest.Order.{bits_in_domain}
use Rattle.spec.specs.Node.Wire.{floats_of}
use Rattle.log_store.specs.View.{Columns, columns}
use Rattle.log_store.specs.Store.{every_below}
use Rattle.image_store.specs.Image.{offsets_at, ids_at, codes_at, lengths_at, store_size, words, patterns, keys_in, places_in}

-- a pattern outside the domain is read as that of 0.0
unfoldable pub tamed : ℕ → ℕ
tamed b = cond (bits_in_domain b) b 0

-- how many patterns an entry uses: an Upsert its length, which a stretch cuts at 32; a Delete none
unfoldable pub used : (code len : ℕ) → ℕ
used code len = cond (eqb code 1) (min len max_components) 0

-- the column of 1,024 bytes at a position
abbrev pub bytes_in : List ℕ → ℕ → List ℕ
bytes_in s at = take 1024 (drop at s)

module _ (s : List ℕ) (base : ℕ) where
  abbrev pub codes_in : List ℕ
  codes_in = bytes_in s (base + codes_at)

  abbrev pub lengths_in : List ℕ
  lengths_in = bytes_in s (base + lengths_at)

  -- the patterns that entry i uses
  abbrev pub used_at : ℕ → ℕ
  used_at i = used (get_or codes_in i 0) (get_or lengths_in i 0)

  -- .. all lie in the domain
  abbrev pub readable : ℕ → Bool
  readable i = every bits_in_domain (patterns s base i (used_at i))

  -- the stretch of entry i read into floats; the other places stay as they were
  unfoldable pub stretch_read : ℕ → List Float → List Float
  stretch_read i fs = take (i * 32) fs ++ (floats_of (map tamed (patterns s base i (used_at i))) ++ drop (i * 32 + used_at i) fs)

  -- those of the first n entries
  unfoldable pub floats_read : (n : ℕ) → List Float → List Float
  floats_read zero fs = fs
  floats_read (suc n) fs = stretch_read n (floats_read n fs)

  -- the columns of a store of `count` entries, read over the floats `fs`
  unfoldable pub columns_at : (count : ℕ) → List Float → Columns
  columns_at count fs = columns
      (words 8 1024 s base) (words 8 1024 s (base + offsets_at)) (words 8 1024 s (base + ids_at)) codes_in lengths_in (floats_read count fs)

  -- 'Who is turned down', 24: no used pattern lies outside the domain
  unfoldable pub all_readable : (count : ℕ) → Bool
  all_readable count = every_below readable count

-- ---- what a read promises

-- the image is there, the count within its limit, and the columns have their sizes
unfoldable pub sizes_fit : (image base count a b c d e f g floats : ℕ) → Bool
sizes_fit image base count a b c d e f g floats =
    leb (base + store_size) image
    and (leb count max_entries
    and (eqb a max_entries
    and (eqb b max_entries
    and (eqb c max_entries
    and (eqb d max_entries
    and (eqb e max_entries
    and (eqb f max_entries
    and (eqb g max_entries
    and eqb floats min_floats))))))))

abbrev pub room_for : List ℕ → (base count : ℕ) → Columns → (keys places : List ℕ) → Bool
room_for s base count c ks ps = sizes_fit (length s) base count
    (length c.epochs) (length c.offsets) (length c.ids) (length c.codes) (length c.lengths) (length ks) (length ps) (length c.floats)

-- true if there is room and every used pattern lies in the domain. Where there is no room nothing is read; else each column is read, whatever the
-- answer is
pub record Reads (s : List ℕ) (base count : ℕ) (c d : Columns) (ks ps ks' ps' : List ℕ) (r : Bool) : Type 0 where
  pub answer : r ≡ room_for s base count c ks ps and all_readable s base count
  pub columns : d ≡ cond (room_for s base count c ks ps) (columns_at s base count c.floats) c
  pub keys : ks' ≡ cond (room_for s base count c ks ps) (keys_in s base) ks
  pub places : ps' ≡ cond (room_for s base count c ks ps) (places_in s base) ps

-- what floats read from patterns are, and whether all lie in the domain
pub record Filled (bits : List ℕ) (fs : List Float) (r : Bool) : Type 0 where
  pub floats : fs ≡ floats_of (map tamed bits)
  pub answer : r ≡ every bits_in_domain bits

-- the floats of a store read, and the answer
pub record FloatsRead (s : List ℕ) (base count : ℕ) (fs fs' : List Float) (r : Bool) : Type 0 where
  pub floats : fs' ≡ floats_read s base count fs
  pub answer : r ≡ all_readable s base count

-- the columns of the log but its floats, read
pub record LogRead (s : List ℕ) (base : ℕ) (es os is cs ls : List ℕ) : Type 0 where
  pub epochs : es ≡ words 8 1024 s base
  pub offsets : os ≡ words 8 1024 s (base + offsets_at)
  pub ids : is ≡ words 8 1024 s (base + ids_at)
  pub codes : cs ≡ codes_in s base
  pub lengths : ls ≡ lengths_in s base
