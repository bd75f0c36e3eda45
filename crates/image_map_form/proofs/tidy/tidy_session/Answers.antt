use Rattle.map_tables.specs.Names.{view_key}
use Rattle.image_map_form.proofs.Canon.{same_outcome}
use Rattle.image_map_form.proofs.tidy.tidy_session.Goals as goal

pub returns : goal.returns
returns c =
    let r = c.args.r in
    let k = view_key r.key in
    rw (c.part_of-key.ensures, ← c.beside_outcome-beside.ensures k, same_outcome r.outcome k)
