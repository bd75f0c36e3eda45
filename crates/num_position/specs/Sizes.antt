-- A position as sizes, which the code works on. Definitions only.
use Rattle.std.specs.Prelude.{cond, nat_abs, Option, Some, None}
use Rattle.spec_position.specs.Positions.{within, is_minus}
use Rattle.spec_position.specs.declared.Position.{Position}
use Rattle.num_position.specs.declared.signed.Sizes.{Sizes}

abbrev pub sizes_of : Position → Sizes
sizes_of p = record { ra = nat_abs p.ra; minus = is_minus p.dec; dec = nat_abs p.dec }

unfoldable pub sized_of : Position → Option Sizes
unfolding within
sized_of p = cond (within p) (Some (sizes_of p)) None
