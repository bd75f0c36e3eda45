-- The remainder that `shard_of` answers. Assumes nothing.
use Rattle.std.proofs.Common.{◌≡◌, ℕ, zero, suc, ◌+◌, ◌*◌, ◌%◌, ◌<◌, sym, refl, ap, ◌∙◌, mod-lt, arith}
use native.Mathlib.Nat.{mod-one, max-eq_left}
use Rattle.spec.specs.Layout.ShardOf.{shard_of, mixed, low64, folded}

pub none-placed : (id n : ℕ) → n ≡ 0 → ◌≡◌ {A = ℕ} 0 (shard_of id n)
unfolding shard_of
none-placed id n e = rw e (sym (mod-one (mixed id)))

pub some_placed : (id n : ℕ) → (n ≡ 0 → ⊥) → mixed id % n ≡ shard_of id n
unfolding shard_of
some_placed id zero h = absurd (h refl)
some_placed id (suc n) h = ap (λ (m : ℕ). mixed id % m) (sym (max-eq_left (omega arith)))

pub remainder_small : (x n : ℕ) → (n ≡ 0 → ⊥) → n < 4294967296 → x % n < 4294967296
remainder_small x zero h l = absurd (h refl)
remainder_small x (suc n) h l = let p : x % suc n < suc n = mod-lt x (omega arith) in omega arith

-- the finaliser, step by step
pub mixed-is : (id a b c : ℕ) → a ≡ low64 (id + 0x9E37_79B9_7F4A_7C15) → b ≡ low64 (folded 30 a * 0xBF58_476D_1CE4_E5B9)
    → c ≡ low64 (folded 27 b * 0x94D0_49BB_1331_11EB) → folded 31 c ≡ mixed id
unfolding mixed
mixed-is id a b c p q r =
    let f : ℕ → ℕ = λ (x : ℕ). low64 (folded 27 x * 0x94D0_49BB_1331_11EB) in
    let g : ℕ → ℕ = λ (x : ℕ). low64 (folded 30 x * 0xBF58_476D_1CE4_E5B9) in
    ap (folded 31) (r ∙ ap f (q ∙ ap g p))
