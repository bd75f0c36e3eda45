-- The count of refused calls in words of the definitions. Definitions only.
use Rattle.std.specs.Prelude.{ℕ, true}
use Rattle.spec.specs.Node.Refused as model

-- 'The node': one more, up to the largest u32
abbrev pub bumped : ℕ → ℕ
bumped n = model.counted n true
