use native.Mathlib.Omega.{arith}
use mathlib.Core.Path.{ap}
use Prim.Native.Nat.{ℕ, ◌+◌, ◌*◌}
use Rattle.image_store_search.proofs.column.start_of.Goals as goal

pub entry_of-e-requires : goal.entry_of-e-requires
entry_of-e-requires c = c.requires

pub overflow_add-result : goal.overflow_add-result
overflow_add-result c = let q = c.requires.0.stands in let l = c.entry_of-e.ensures.1 in omega arith

pub overflow_mul-result : goal.overflow_mul-result
overflow_mul-result c = let q = c.requires.0.stands in let l = c.entry_of-e.ensures.1 in omega arith

pub overflow_add-result-2 : goal.overflow_add-result-2
overflow_add-result-2 c = let q = c.requires.0.stands in let l = c.entry_of-e.ensures.1 in omega arith

pub returns : goal.returns
returns c =
    let a = c.args in let q = c.requires.0.stands in let l = c.entry_of-e.ensures.1 in (ap (λ (x : ℕ). a.base + 26624 + x * 128) c.entry_of-e.ensures.0, omega arith)
