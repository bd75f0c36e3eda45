-- How much of the key beside an outcome is among its operands, as the code says it. Definitions only.
use Rattle.spec.specs.Keys as keys
use Rattle.image_map_form.specs.declared.beside.Beside.{Beside}
use Rattle.image_map_form.specs.declared.beside.Beside.TheVariants.{Nothing, Collection, Whole}
use Rattle.image_map_form.specs.Canon.{key_of_name, key_of_none}

abbrev pub part_of : Beside → keys.Key → keys.Key
part_of Nothing k = key_of_none
part_of Collection k = key_of_name k.collection
part_of Whole k = k
