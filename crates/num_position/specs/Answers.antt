-- What each case of an answer says: a value, or the refusal whose number `number_of` gives. Definitions only.
use Rattle.std.specs.Prelude.{List, [], ◌∷◌, Float, Option, Some, None, Result, Ok, Err}
use Rattle.spec_position.specs.Positions.{Turned, turned, out_of_range, no_thousandth}
use Rattle.spec_position.specs.declared.Fields.{Fields}
use Rattle.spec_position.specs.declared.Position.{Position}
use Rattle.num_position.specs.declared.Vector.{Vector}
use Rattle.num_position.specs.declared.Refusal.{Refusal}
use Rattle.num_position.specs.declared.Refusal.TheVariants.{OutOfRange, NoThousandth}

abbrev pub placed : Option Position → Turned Position
placed (Some p) = turned p
placed None = out_of_range

abbrev pub fielded : Result Fields Refusal → Turned Fields
fielded (Ok f) = turned f
fielded (Err OutOfRange) = out_of_range
fielded (Err NoThousandth) = no_thousandth

-- the four floats in their order
abbrev pub components_of : Vector → List Float
components_of v = v.0 ∷ v.1 ∷ v.2 ∷ v.3 ∷ []

abbrev pub vectored : Option Vector → Turned (List Float)
vectored (Some v) = turned (components_of v)
vectored None = out_of_range
