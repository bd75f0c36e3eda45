-- What stands in node 1's header fits the widths of its image. Assumes nothing.
use Prim.Native.Nat.{ℕ, zero, suc, ◌^◌, ◌<◌}
use native.Mathlib.Omega.{arith}
use mathlib.Core.Path.{refl}
use lib.ListN.{replicate}
use Rattle.spec.specs.Layout.Format.{All}
use Rattle.std.specs.Prelude.{Option}
use Rattle.image_header_row.specs.Rows.{expiry_time}
use Rattle.image_header.proofs.Back.{Fits}
use Rattle.image_header.proofs.Tidy.{HeldRowFits}
use Rattle.thm_one_node.proofs.Headers.{kept, leads}

pub all_same : {A : Type 0} (P : A → Type 0) (n : ℕ) (x : A) → P x → All P (replicate n x)
all_same P zero x p = tt
all_same P (suc n) x p = (p, all_same P n x p)

kept-fits : (stored last : ℕ) → stored < 256 ^ 8 → last < 256 ^ 8 → HeldRowFits (kept stored last)
kept-fits stored last a b = (
  (
    (
      (((omega arith, (refl, (omega arith, all_same (λ (x : ℕ). x < 256) 31 0 (omega arith)))), omega arith), omega arith),
      omega arith,
    ),
    a,
  ),
  (
    (
      (((((((omega arith, b), omega arith), omega arith), omega arith), omega arith), omega arith), ((omega arith, omega arith), omega arith)),
      (refl, ((omega arith, omega arith), all_same (λ (x : ℕ × ℕ). (x.0 < 256 ^ 8) × (x.1 < 256 ^ 8)) 7 (0, 0) (omega arith, omega arith))),
    ),
    (
      refl,
      all_same (λ (x : (((ℕ × ℕ) × ℕ) × ℕ) × ℕ). ((((x.0.0.0.0 < 256 ^ 8) × (x.0.0.0.1 < 256 ^ 8)) × (x.0.0.1 < 256 ^ 8)) × (x.0.1 < 256 ^ 4)) × (x.1 < 256 ^ 4)) 32
          ((((0, 0), 0), 0), 0) ((((omega arith, omega arith), omega arith), omega arith), omega arith),
    ),
  ),
)

pub node-fits : (e : Option ℕ) (stored last : ℕ) → expiry_time e < 256 ^ 8 → stored < 256 ^ 8 → last < 256 ^ 8 → Fits (leads e stored last)
node-fits e stored last t a b = record {
  id = omega arith;
  incarnation = omega arith;
  version = omega arith;
  expiry = t;
  long = refl;
  rows = (kept-fits stored last a b, tt);
}
