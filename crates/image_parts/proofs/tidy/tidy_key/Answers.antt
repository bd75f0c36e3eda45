use Rattle.image_parts.proofs.tidy.tidy_key.Goals as goal

pub returns : goal.returns
returns c = rw c.tidy_name-name.ensures
