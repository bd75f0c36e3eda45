use native.Mathlib.Omega.{arith}
use mathlib.Core.Path.{sym, ◌∙◌, ap}
use mathlib.Core.List.{List}
use Prim.Native.Nat.{ℕ}
use Rattle.spec_sheet.specs.Sheet.{sheet_of}
use Rattle.map_tables.specs.View.{view_map}
use Rattle.image_map.specs.Image.{map_at}
use Rattle.spec_sheet.specs.Sheet as sheet
use Rattle.image_map_sheet.proofs.sheet_of.Goals as goal

pub get8-nodes-requires : goal.get8-nodes-requires
get8-nodes-requires c = let l = c.requires.long in omega arith

pub get8-shards-requires : goal.get8-shards-requires
get8-shards-requires c = let l = c.requires.long in omega arith

pub lines-lines-requires : goal.lines-lines-requires
lines-lines-requires c =
    let n = c.get8-nodes.ensures in let k = c.get8-shards.ensures in let few = c.requires.nodes in ((c.requires.long, omega arith, sym n), sym k, c.requires.shards)

pub unknown_in-unknown-requires : goal.unknown_in-unknown-requires
unknown_in-unknown-requires c =
    let n = c.get8-nodes.ensures in let k = c.get8-shards.ensures in let few = c.requires.nodes in ((c.requires.long, omega arith, sym n), sym k, c.requires.shards)

pub records_in-total-requires : goal.records_in-total-requires
records_in-total-requires c = let k = c.get8-shards.ensures in (c.requires.long, sym k, c.requires.shards)

pub returns : goal.returns
unfolding sheet_of map_at
returns c =
    let m = view_map (map_at c.args.map.now) in
    record {
      same =
          ap (λ (x : List sheet.Loaded). record { lines = x; unknown = c.unknown_in-unknown.result; total = c.records_in-total.result }) c.lines-lines.ensures.0
          ∙ ap (λ (x : ℕ). record { lines = (sheet_of m).lines; unknown = x; total = c.records_in-total.result }) c.unknown_in-unknown.ensures
          ∙ ap (λ (x : ℕ). record { lines = (sheet_of m).lines; unknown = (sheet_of m).unknown; total = x }) c.records_in-total.ensures;
      count = c.lines-lines.ensures.1;
    }
