-- Paper 02, 2.1: a number in decimal as the Rust prints it, in ASCII, the most significant digit first, without a leading zero.
-- Definitions only.
use Rattle.std.specs.Prelude.{ℕ, zero, suc, ◌+◌, ◌*◌, ◌-◌, ◌/◌, ◌%◌, Bool, cond, List, [], ◌∷◌, ◌++◌, leb, ltb}
use Rattle.spec.specs.Lists.{◌and◌}

-- the byte of a digit
abbrev pub digit : ℕ → ℕ
digit d = 48 + d

-- in at most so many digits
unfoldable pub spelled : (most n : ℕ) → List ℕ
spelled zero n = []
spelled (suc most) n =
    let more = spelled most (n / 10) ++ (digit (n % 10) ∷ []) in
    cond (ltb n 10) (digit n ∷ []) more

-- no number has more digits than its successor says
unfoldable pub decimal : ℕ → List ℕ
decimal n = spelled (suc n) n

-- ---- and back

abbrev pub is_digit : ℕ → Bool
is_digit b = leb 48 b and leb b 57

-- the number that digits spell behind those that spell `before`
unfoldable pub value_from : (before : ℕ) → List ℕ → ℕ
value_from before [] = before
value_from before (b ∷ bs) = value_from (before * 10 + (b - 48)) bs

unfoldable pub value : List ℕ → ℕ
value bs = value_from 0 bs
