use native.Mathlib.Omega.{arith}
use mathlib.Core.Path.{sym, ◌∙◌, ap}
use Rattle.float_distance.specs.Halves.{element_of}
use Rattle.image_store_search.proofs.ColumnLaws.{row-patterns, row-vector}
use Rattle.image_store_search.proofs.column.element_of.Goals as goal

pub length_of-n-requires : goal.length_of-n-requires
length_of-n-requires c = c.requires

pub start_of-at-requires : goal.start_of-at-requires
start_of-at-requires c = c.requires

pub slice_bounds-v-end : goal.slice_bounds-v-end
slice_bounds-v-end c =
    let a = c.args in let w = c.requires.0.short a.i c.requires.1 in let k = c.read_vector.ensures.0 in omega (arith, c.length_of-n.ensures)

pub slice_bounds-element-end : goal.slice_bounds-element-end
slice_bounds-element-end c =
    let a = c.args in let w = c.requires.0.short a.i c.requires.1 in let k = c.read_vector.ensures.0 in sym (lib.Seq.length-take-le _ _ (omega (arith, c.length_of-n.ensures)))

pub read_vector-requires : goal.read_vector-requires
read_vector-requires c =
    let a = c.args in let w = c.requires.0.short a.i c.requires.1 in (row-patterns a.s.now a.base a.stored c.requires.0 a.i c.requires.1 _ _ c.start_of-at.ensures.0 (sym c.length_of-n.ensures) c.start_of-at.ensures.1, omega (arith, c.length_of-n.ensures))

pub returns : goal.returns
returns c =
    let a = c.args in c.element.ensures ∙ ap (element_of a.metric a.query.now a.qnorm) (c.read_vector.ensures.1 ∙ row-vector a.s.now a.base a.stored c.requires.0 a.i c.requires.1 _ _ c.start_of-at.ensures.0 (sym c.length_of-n.ensures) c.start_of-at.ensures.1)
