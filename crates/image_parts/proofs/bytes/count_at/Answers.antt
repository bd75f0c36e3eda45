use mathlib.Core.Path.{◌∙◌, ap}
use Prim.Native.Nat.{ℕ}
use Rattle.image_parts.specs.Shape.{in_use}
use Rattle.image_parts.proofs.bytes.count_at.Goals as goal

pub returns : goal.returns
returns c = (c.in_use.ensures.0 ∙ ap (λ (n : ℕ). in_use c.args.limit n) c.get8.ensures, c.in_use.ensures.1)
