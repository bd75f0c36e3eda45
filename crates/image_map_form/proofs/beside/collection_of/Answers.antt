use Rattle.image_map_form.proofs.beside.collection_of.Goals as goal

pub returns : goal.returns
returns c = rw c.tidy_name-name.ensures
