use mathlib.Core.Path.{◌∙◌}
use Rattle.image_map_form.proofs.Canon.{none-key}
use Rattle.image_map_form.proofs.beside.part_of.Goals as goal

pub returns-in-Nothing : goal.returns-in-Nothing
returns-in-Nothing c = c.no_key.ensures ∙ none-key ∙ rw c.in-Nothing.is

pub returns-in-Collection : goal.returns-in-Collection
returns-in-Collection c = c.collection_of.ensures ∙ rw c.in-Collection.is

pub returns-in-Whole : goal.returns-in-Whole
returns-in-Whole c = c.tidy_key.ensures ∙ rw c.in-Whole.is
