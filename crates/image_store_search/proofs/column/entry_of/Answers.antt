use native.Mathlib.Omega.{arith}
use mathlib.Core.Path.{ap}
use Prim.Native.Nat.{ℕ, ◌-◌}
use Rattle.image_store_search.proofs.column.entry_of.Goals as goal

pub overflow_add-base : goal.overflow_add-base
overflow_add-base c = let p = c.requires.0.stands in omega arith

pub overflow_mul-i : goal.overflow_mul-i
overflow_mul-i c = let p = c.requires.0.few in let h = c.requires.1 in omega arith

pub overflow_add-base-2 : goal.overflow_add-base-2
overflow_add-base-2 c = let p = c.requires.0.few in let h = c.requires.1 in let q = c.requires.0.stands in omega arith

pub get8-requires : goal.get8-requires
get8-requires c = let p = c.requires.0.few in let h = c.requires.1 in let q = c.requires.0.stands in omega arith

pub overflow_sub-result : goal.overflow_sub-result
overflow_sub-result c = let p = c.requires.0.starts c.args.i c.requires.1 in omega (arith, c.get8.ensures)

pub returns : goal.returns
returns c =
    let p = c.requires.0.ends c.args.i c.requires.1 in let q = c.requires.0.starts c.args.i c.requires.1 in (ap (λ (x : ℕ). x - 1) c.get8.ensures, omega (arith, c.get8.ensures))
