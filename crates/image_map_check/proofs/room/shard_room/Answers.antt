use native.Mathlib.Omega.{arith}
use borrow.Author.Rules.{rules}
use mathlib.Core.Path.{refl, sym, ◌≡◌}
use Prim.Native.Nat.{◌*◌, ◌+◌}
use mathlib.Core.Bool.{false, true}
use Rattle.spec.specs.Layout.Format.{number_at}
use Rattle.map_tables.specs.View.{view_shard}
use Rattle.image_map_row.specs.Rows.{shard_at}
use Rattle.image_map.specs.Image.{no_shard}
use Rattle.image_map_check.proofs.RowLaws.{key-low, led_first}
use Rattle.spec.specs.Keys.{key_below}
use Rattle.map_tables.specs.Names.{view_key}
use Rattle.image_parts.specs.Parts.{key_at}
use Rattle.spec.specs.Map.Tables as tables
use Rattle.image_map_check.proofs.room.shard_room.Goals as goal

pub returns : goal.returns
returns c =
    let e = c.requires.2 in let k = c.requires.1 in let w = c.first_passing.ensures.within in
    led_first 64 272 4008 (shard_at c.args.s.now) no_shard (number_at 8 c.args.s.now 24) view_shard (λ (y : tables.ShardInfo). key_below y.key (view_key c.args.key)) (omega arith) c.first_passing.result (omega arith)
    (λ i lt. let b = c.first_passing.ensures.before i lt in let z : key_below (view_key (key_at c.args.s.now (4008 + 272 * i))) (view_key c.args.key) ≡ true = search rules in key-low c.args.s.now (4008 + 272 * i) c.args.key _ refl true (sym z))
    (λ lt. let b = c.first_passing.ensures.found (omega arith) in let z : key_below (view_key (key_at c.args.s.now (4008 + 272 * c.first_passing.result))) (view_key c.args.key) ≡ false = search rules in key-low c.args.s.now (4008 + 272 * c.first_passing.result) c.args.key _ refl false (sym z))
