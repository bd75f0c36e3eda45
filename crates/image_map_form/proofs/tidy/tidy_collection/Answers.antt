use Rattle.image_map_form.proofs.tidy.tidy_collection.Goals as goal

pub returns : goal.returns
returns c = rw c.tidy_name-name.ensures
