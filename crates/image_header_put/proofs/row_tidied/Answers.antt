use mathlib.Core.Path.{◌∙◌, ap}
use Rattle.image_parts.specs.Shape.{in_use}
use Rattle.image_header_put.proofs.Back.{row-stored}
use Rattle.image_header_put.proofs.row_tidied.Goals as goal

pub returns : goal.returns
returns c =
    let a = c.args in
    let the-in-use = c.in_use-n in
    row-stored a.out.now _ _ a.at the-in-use.result (c.requires) c.front_tidied.ensures (the-in-use.ensures.0 ∙ ap (in_use 32) c.get8.ensures) c.peers_tidied.ensures
