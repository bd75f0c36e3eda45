use Rattle.image_map_form.proofs.tidy.tidy_node.Goals as goal

pub returns : goal.returns
returns c = rw c.tidy_address-address.ensures
