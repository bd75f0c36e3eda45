-- Paper 02, 2.2: no id is in two answers that pass 28 and 29. Assumes nothing.
use mathlib.Core.Path.{◌≡◌, refl, sym, ap, ◌∙◌, subst}
use mathlib.Core.List.{List}
use mathlib.Core.Option.{some}
use Prim.Native.Nat.{ℕ, zero, suc, ◌+◌, ◌-◌, ◌≤◌, ◌<◌}
use native.Mathlib.Omega.{arith}
use lib.ListN.{length}
use Rattle.spec.specs.Lists.{nth}
use Rattle.spec.specs.Layout.ShardOf.{shard_of}
use Rattle.spec_laws.proofs.Lists.{nth_lt, lt_nth}
use Rattle.spec_join.specs.Join.{Hit, Answer}
use Rattle.spec_join.specs.Words.{Sound, Owned}

-- shard numbers rise from any answer to any later one
later : (xs : List Answer) → Sound xs → (d i : ℕ) (a b : Answer) → nth xs i ≡ some a → nth xs (suc (d + i)) ≡ some b → a.shard < b.shard
later xs s zero i a b e f = s.rise i a b e (subst (λ (n : ℕ). nth xs (suc n) ≡ some b) (zero_left i) f)
  where
    zero_left : (n : ℕ) → 0 + n ≡ n
    zero_left n = omega arith
later xs s (suc d) i a b e f =
    let t = lt_nth xs (suc (d + i)) (let h = nth_lt xs (suc (suc d + i)) b f in omega arith) in
    let h = later xs s d i a t.0 e t.1 in
    let g = s.rise (suc (d + i)) t.0 b t.1 (subst (λ (n : ℕ). nth xs (suc n) ≡ some b) (suc_left d i) f) in
    omega arith
  where
    suc_left : (n o : ℕ) → suc n + o ≡ suc (n + o)
    suc_left n o = omega arith

pub disjoint : (shards : ℕ) (xs : List Answer) → Sound xs → Owned shards xs
    → (i j : ℕ) (a b : Answer) → i < j → nth xs i ≡ some a → nth xs j ≡ some b
    → (n o : ℕ) (x y : Hit) → nth a.hits n ≡ some x → nth b.hits o ≡ some y → x.id ≡ y.id → ⊥
disjoint shards xs s own i j a b lt e f n o x y p q same =
    let h = later xs s (j - suc i) i a b e (subst (λ (m : ℕ). nth xs m ≡ some b) (at i j lt) f) in
    let u = own i a e n x p in
    let v = own j b f o y q in
    let w = ap (λ (m : ℕ). shard_of m shards) same in
    omega arith
  where
    at : (i j : ℕ) → i < j → j ≡ suc ((j - suc i) + i)
    at i j lt = omega arith
