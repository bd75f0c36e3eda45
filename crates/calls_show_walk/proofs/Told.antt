-- A number of workers told, or the refusal in its place. Assumes nothing.
use Prim.Native.Nat.{ℕ, ◌≤◌}
use mathlib.Core.Path.{◌≡◌, subst}
use native.Mathlib.Omega.{arith}
use Rattle.std.specs.Prelude.{Option, Some, None, Ok, Err, ok_or}
use Rattle.calls_show_row.specs.Peers.{AtMost32}
use Rattle.calls_show_walk.specs.declared.Full.{Full}

pub told-some : (P : ℕ → Type 0) (o : Option ℕ) (x : Full) (n : ℕ) → AtMost32 o P → ok_or o x ≡ Ok n → (n ≤ 32) × P n
told-some P None x n p e = absurd (grind arith)
told-some P (Some m) x n p e = let q : m ≡ n = grind arith in subst (λ (k : ℕ). (k ≤ 32) × P k) q p

pub told_none : (P : ℕ → Type 0) (o : Option ℕ) (x y : Full) → AtMost32 o P → ok_or o x ≡ Err y → P 33
told_none P None x y p e = p
told_none P (Some m) x y p e = absurd (grind arith)
