-- What the steps of the whole-number root promise one another; the root itself is paper 01's, in crate `spec`.
use Rattle.std.specs.Prelude.{◌≡◌, ℕ, ◌+◌, ◌-◌, ◌*◌, ◌/◌, ◌^◌, ◌<◌, ◌≤◌}
use Prim.Native.Nat.{compare}
use Rattle.std.specs.Float.Ieee.{nearest}
use Rattle.spec.specs.Nearest.Root.{root}

-- 'Nearest objects': the whole number nearest to the root of n (no tie can arise)
unfoldable pub near_root : ℕ → ℕ
unfolding root
near_root n = nearest (root n) (compare (4 * n) ((2 * root n + 1) * (2 * root n + 1)))

-- 'Nearest objects': u units are m * 2 ^ (j - 128), with m of 24 digits
pub record IsNormal (u m j : ℕ) : Type 0 where
  pub lo : 2 ^ 23 ≤ m
  pub hi : m < 2 ^ 24
  pub jlo : 2 ≤ j
  pub jhi : j ≤ 381
  pub value : m * 2 ^ (j + 21) ≡ u * 2 ^ 149

-- 'Nearest objects': n is m * 2 ^ (j + 21) over a power of 4, and has 47 or 48 digits
pub record Radicand (m j n : ℕ) : Type 0 where
  pub lo : 2 ^ 46 ≤ n
  pub hi : n + 2 ^ 24 ≤ 2 ^ 48
  pub value : n * (2 ^ (j / 2 - 1) * 2 ^ (j / 2 - 1)) ≡ m * 2 ^ (j + 21)
