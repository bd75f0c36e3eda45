use mathlib.Core.Path.{refl}
use Rattle.image_map_row.specs.Rows.{node_at}
use Rattle.image_parts.specs.Parts.{address_at}
use Rattle.image_map_row.proofs.nodes.node_at.Goals as goal

pub returns : goal.returns
unfolding node_at address_at
returns c =
    rw (c.get8.ensures, c.get8-incarnation.ensures, c.flag_of-alive.ensures, c.get4.ensures, c.address_at-address.ensures) refl
