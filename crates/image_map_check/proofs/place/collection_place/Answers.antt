use native.Mathlib.Omega.{arith}
use borrow.Author.Rules.{rules}
use mathlib.Core.Path.{ap, refl, sym, ◌≡◌}
use Prim.Native.Nat.{◌*◌, ◌+◌}
use mathlib.Core.Bool.{false, not, true}
use Rattle.spec.specs.Layout.Format.{number_at}
use Rattle.map_tables.specs.View.{view_collection}
use Rattle.image_map_row.specs.Rows.{collection_at}
use Rattle.image_map.specs.Image.{no_collection}
use Rattle.image_map_check.proofs.RowLaws.{led_first, name-hit}
use Rattle.spec.specs.Map.Create.{is_named}
use Rattle.spec.specs.Keys.{same_name}
use Rattle.map_tables.specs.Names.{view_name}
use Rattle.image_parts.specs.Parts.{name_at}
use Rattle.spec.specs.Map.Tables as tables
use Rattle.image_map_check.proofs.place.collection_place.Goals as goal

pub returns : goal.returns
returns c =
    let e = c.requires.2 in let k = c.requires.1 in let w = c.first_passing.ensures.within in
    led_first 16 56 3112 (collection_at c.args.s.now) no_collection (number_at 8 c.args.s.now 16) view_collection (λ (y : tables.Collection). not (is_named (view_name c.args.name) y)) (omega arith) c.first_passing.result (omega arith)
    (λ i lt. let b = c.first_passing.ensures.before i lt in let z : same_name (view_name (name_at c.args.s.now (3112 + 56 * i))) (view_name c.args.name) ≡ false = search rules in ap not (name-hit c.args.s.now (3112 + 56 * i) c.args.name _ refl false (sym z)))
    (λ lt. let b = c.first_passing.ensures.found (omega arith) in let z : same_name (view_name (name_at c.args.s.now (3112 + 56 * c.first_passing.result))) (view_name c.args.name) ≡ true = search rules in ap not (name-hit c.args.s.now (3112 + 56 * c.first_passing.result) c.args.name _ refl true (sym z)))
