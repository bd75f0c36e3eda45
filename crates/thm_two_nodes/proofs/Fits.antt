-- What stands in the two headers fits the widths of their images. Assumes nothing.
use Prim.Native.Nat.{ℕ, ◌^◌, ◌<◌}
use native.Mathlib.Omega.{arith}
use mathlib.Core.Path.{refl}
use mathlib.Core.Bool.{Bool, true, false}
use Rattle.std.specs.Prelude.{Option}
use Rattle.image_header_row.specs.Rows.{expiry_time}
use Rattle.image_header.proofs.Back.{Fits}
use Rattle.image_header.proofs.Tidy.{HeldRowFits}
use Rattle.thm_one_node.proofs.Fits.{all_same}
use Rattle.thm_two_nodes.proofs.Headers.{row, leading, following, kept, leads, follows}

-- a replica and a peer as pairs of numbers, and each within its width
abbrev Pair : ℕ × ℕ → Type 0
Pair x = (x.0 < 256 ^ 8) × (x.1 < 256 ^ 8)

abbrev Row : (((ℕ × ℕ) × ℕ) × ℕ) × ℕ → Type 0
Row x = ((((x.0.0.0.0 < 256 ^ 8) × (x.0.0.0.1 < 256 ^ 8)) × (x.0.0.1 < 256 ^ 8)) × (x.0.1 < 256 ^ 4)) × (x.1 < 256 ^ 4)

leading-fits : (stored last acked : ℕ) (aligned : Bool) → stored < 256 ^ 8 → last < 256 ^ 8 → acked < 256 ^ 8
    → HeldRowFits (kept stored (leading last (row acked aligned)))
leading-fits stored last acked true a b c = (
  (
    (
      (((omega arith, (refl, (omega arith, all_same (λ (x : ℕ). x < 256) 31 0 (omega arith)))), omega arith), omega arith),
      omega arith,
    ),
    a,
  ),
  (
    (
      (((((((omega arith, b), omega arith), omega arith), omega arith), omega arith), omega arith), ((omega arith, omega arith), omega arith)),
      (refl, ((omega arith, omega arith), ((omega arith, omega arith), all_same Pair 6 (0, 0) (omega arith, omega arith)))),
    ),
    (
      refl,
      (((((omega arith, c), omega arith), omega arith), omega arith), all_same Row 31 ((((0, 0), 0), 0), 0) ((((omega arith, omega arith), omega arith), omega arith), omega arith)),
    ),
  ),
)
leading-fits stored last acked false a b c = (
  (
    (
      (((omega arith, (refl, (omega arith, all_same (λ (x : ℕ). x < 256) 31 0 (omega arith)))), omega arith), omega arith),
      omega arith,
    ),
    a,
  ),
  (
    (
      (((((((omega arith, b), omega arith), omega arith), omega arith), omega arith), omega arith), ((omega arith, omega arith), omega arith)),
      (refl, ((omega arith, omega arith), ((omega arith, omega arith), all_same Pair 6 (0, 0) (omega arith, omega arith)))),
    ),
    (
      refl,
      (((((omega arith, c), omega arith), omega arith), omega arith), all_same Row 31 ((((0, 0), 0), 0), 0) ((((omega arith, omega arith), omega arith), omega arith), omega arith)),
    ),
  ),
)

following-fits : (epoch stored last : ℕ) → epoch < 256 ^ 8 → stored < 256 ^ 8 → last < 256 ^ 8 → HeldRowFits (kept stored (following epoch last))
following-fits epoch stored last a b c = (
  (
    (
      (((omega arith, (refl, (omega arith, all_same (λ (x : ℕ). x < 256) 31 0 (omega arith)))), omega arith), omega arith),
      omega arith,
    ),
    b,
  ),
  (
    (
      (((((((a, c), omega arith), omega arith), omega arith), omega arith), omega arith), ((omega arith, omega arith), omega arith)),
      (refl, ((omega arith, omega arith), ((omega arith, omega arith), all_same Pair 6 (0, 0) (omega arith, omega arith)))),
    ),
    (refl, all_same Row 32 ((((0, 0), 0), 0), 0) ((((omega arith, omega arith), omega arith), omega arith), omega arith)),
  ),
)

pub leads-fits : (e : Option ℕ) (stored last acked : ℕ) (aligned : Bool) → expiry_time e < 256 ^ 8 → stored < 256 ^ 8 → last < 256 ^ 8 → acked < 256 ^ 8
    → Fits (leads e stored last acked aligned)
leads-fits e stored last acked aligned t a b c = record {
  id = omega arith;
  incarnation = omega arith;
  version = omega arith;
  expiry = t;
  long = refl;
  rows = (leading-fits stored last acked aligned a b c, tt);
}

pub follows-fits : (epoch stored last : ℕ) → epoch < 256 ^ 8 → stored < 256 ^ 8 → last < 256 ^ 8 → Fits (follows epoch stored last)
follows-fits epoch stored last a b c = record {
  id = omega arith;
  incarnation = omega arith;
  version = omega arith;
  expiry = omega arith;
  long = refl;
  rows = (following-fits epoch stored last a b c, tt);
}
