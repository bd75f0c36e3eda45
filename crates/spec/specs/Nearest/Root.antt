-- Paper 01, 'Nearest objects': "the root is the f32 nearest the exact root".
-- IEEE 754's squareRoot, rounded as lib.Ieee rounds its other operations: the exact value is a whole number of the
-- format's smallest units, of which the leading digits are kept. That the result is nearest among all floats, and that
-- no tie can arise, is a law (`NearestRoot`; crate spec_laws, Nearest/Exact.antt).
use Prim.Native.Nat.{ℕ, zero, suc, ◌+◌, ◌-◌, ◌*◌, ◌/◌, ◌^◌, ◌<◌, compare}
use Rattle.std.specs.Prelude.{Bool, true, false, cond, T, leb, Float}
use Rattle.std.specs.Float.{nan, inf, fin, Format, binary32}
use Rattle.std.specs.Float.Ieee.{prec, low, up, down, size, nearest, units, fits}
use Rattle.std.specs.Float.Ieee.Exact.{HasValue}

-- 'Nearest objects': the whole root of an n of at most d digits in base 4, one digit after another
unfoldable pub root_by : ℕ → ℕ → ℕ
root_by zero n = zero
root_by (suc d) n = let r = 2 * root_by d (n / 4) in cond (leb ((r + 1) * (r + 1)) n) (r + 1) r

-- 'Nearest objects': the largest r with r * r ≤ n
unfoldable pub root : ℕ → ℕ
unfolding root_by size
root n = root_by (size n) n

-- 'Nearest objects': the value of the format nearest to the root of n, in units of the format's smallest value.
-- Of the root's whole part w the format keeps the `prec` leading digits, q, and drops k. Halfway from q to q + 1 stands
-- h / 2; the root is compared with it by their doubles' squares.
unfoldable pub root_units : Format → ℕ → Float
unfolding root size units
root_units f n =
    let w = root n in
    let k = size w - prec f in
    let q = w / 2 ^ k in
    let h = (2 * q + 1) * 2 ^ k in
    units f false (nearest q (compare (4 * n) (h * h))) k

-- 'Nearest objects': the root of a float, as IEEE 754's squareRoot. In units of 2 ^ -low the root of m * 2 ^ e is the
-- root of m * 2 ^ e * 2 ^ low * 2 ^ low, which is a whole number for a value that the format holds.
unfoldable pub sqrt : Format → Float → Float
unfolding root_units
sqrt f nan = nan
sqrt f (inf true) = nan
sqrt f (inf false) = inf false
sqrt f (fin true zero e) = fin true zero e
sqrt f (fin true (suc m) e) = nan
sqrt f (fin false m e) = root_units f (m * up e * 2 ^ (low f + low f) / down e)

-- ---- what the root must be, without saying how it is found

-- 'Nearest objects': x is u times 2 ^ -149, f32's smallest value, with a plus sign
abbrev pub Units : Float → ℕ → Type 0
Units x u = HasValue x false u (2 ^ 149)

-- 'Nearest objects': of two floats of w and v units, w is nearer the root of n units squared: the root lies on w's side
-- of the middle between them, (w + v) / 2, and never on it
pub record Closer (n w v : ℕ) : Type 0 where
  pub above : w < v → 4 * n < (w + v) * (w + v)
  pub below : v < w → (w + v) * (w + v) < 4 * n

-- 'Nearest objects': r is the f32 nearest the root of x: it is nearer than any other f32 with a plus sign. (The root of
-- u units is that of u * 2 ^ 149 units squared.)
pub record NearestRoot (x r : Float) : Type 0 where
  pub held : T (fits binary32 r)
  pub u : ℕ
  pub w : ℕ
  pub of_x : Units x u
  pub of_r : Units r w
  pub closer : (y : Float) (v : ℕ) → T (fits binary32 y) → Units y v → Closer (u * 2 ^ 149) w v

-- 'Nearest objects': finite and with a plus sign, as every sum of squares in the domain is
abbrev pub rootable : Float → Bool
rootable nan = false
rootable (inf s) = false
rootable (fin true m e) = false
rootable (fin false m e) = true
