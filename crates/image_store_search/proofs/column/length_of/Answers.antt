use native.Mathlib.Omega.{arith}
use mathlib.Core.Path.{ap}
use Prim.Native.Nat.{ℕ, ◌+◌}
use lib.ListN.{get_or}
use Rattle.image_store_search.proofs.column.length_of.Goals as goal

pub entry_of-e-requires : goal.entry_of-e-requires
entry_of-e-requires c = c.requires

pub overflow_add-result : goal.overflow_add-result
overflow_add-result c = let q = c.requires.0.stands in let l = c.entry_of-e.ensures.1 in omega arith

pub overflow_add-result-2 : goal.overflow_add-result-2
overflow_add-result-2 c = let q = c.requires.0.stands in let l = c.entry_of-e.ensures.1 in omega arith

pub bounds-s-base : goal.bounds-s-base
bounds-s-base c = let q = c.requires.0.stands in let l = c.entry_of-e.ensures.1 in omega arith

pub returns : goal.returns
returns c =
    let a = c.args in ap (λ (x : ℕ). get_or a.s.now (a.base + 25600 + x) 0) c.entry_of-e.ensures.0
