use native.Mathlib.Omega.{arith}
use mathlib.Core.Path.{sym, ◌∙◌, ap}
use mathlib.Core.Option.{some}
use Rattle.map_tables.specs.Names.{view_key}
use Rattle.map_tables.specs.declared.CollectionRow.{CollectionRow}
use Rattle.image_header_set.proofs.Place.{place_is}
use Rattle.image_map.specs.Image.{collections_at}
use Rattle.node_show.proofs.Listed.{no_collection, metric_none, metric_some}
use Rattle.image_show.proofs.MapRows.{collections-fit, collection-row}
use Rattle.calls_show_walk.proofs.row.take_row.Goals as goal

pub keep_row-requires : goal.keep_row-requires
keep_row-requires c =
    let a = c.args in (c.requires.0, c.requires.1, place_is a.header.now a.held c.requires.0 (view_key a.row.key) _ c.place_at-at.ensures, c.requires.4, c.requires.5)

pub returns-then-known-c : goal.returns-then-known-c
returns-then-known-c c =
    let a = c.args in c.keep_row.ensures (collections_at a.map.now) (λ m e. metric_none (collections_at a.map.now) a.row (collections-fit a.map.now c.requires.3) c.collection_place-c.result c.collection_place-c.ensures m e (let k = c.get8-known.ensures in let q = c.if-known-c.true in omega arith)) _

pub know_row-requires : goal.know_row-requires
know_row-requires c =
    let a = c.args in (c.requires.0, c.requires.1, place_is a.header.now a.held c.requires.0 (view_key a.row.key) _ c.place_at-at.ensures, c.requires.4, c.requires.5, c.requires.6, c.requires.7)

pub returns : goal.returns
returns c =
    let a = c.args in c.know_row.ensures (collections_at a.map.now) (λ m e. metric_some (collections_at a.map.now) a.row (collections-fit a.map.now c.requires.3) c.collection_place-c.result c.collection_place-c.ensures m e no_collection (let k = c.get8-known.ensures in let q = c.if-known-c.false in omega arith)
    ∙ ap (λ (x : CollectionRow). some x.spec.metric) (collection-row a.map.now c.requires.3 c.collection_place-c.result no_collection (let k = c.get8-known.ensures in let q = c.if-known-c.false in omega arith) ∙ sym c.collection_at-col.ensures))
