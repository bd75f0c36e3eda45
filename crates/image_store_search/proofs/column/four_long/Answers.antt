use native.Mathlib.Omega.{arith}
use mathlib.Core.Path.{refl, sym, ◌∙◌}
use borrow.Author.Tests.{eqb-true}
use Rattle.spec_laws.proofs.Lists.{not_both}
use Rattle.image_store_search.proofs.column.four_long.Goals as goal

pub overflow_add-i : goal.overflow_add-i
overflow_add-i c = let p = c.requires.0.few in let h = c.requires.1 in omega arith

pub returns-then-stored-i : goal.returns-then-stored-i
returns-then-stored-i c = λ e. not_both _ e refl

pub length_of-requires : goal.length_of-requires
length_of-requires c = c.requires

pub returns-then-length_of-n : goal.returns-then-length_of-n
returns-then-length_of-n c = λ e. not_both _ e refl

pub overflow_add-i-2 : goal.overflow_add-i-2
overflow_add-i-2 c = let p = c.requires.0.few in let h = c.requires.1 in omega arith

pub length_of-requires-2 : goal.length_of-requires-2
length_of-requires-2 c = let k = c.if-stored-i.false in (c.requires.0, omega arith)

pub returns-then-length_of-n-2 : goal.returns-then-length_of-n-2
returns-then-length_of-n-2 c = λ e. not_both _ e refl

pub overflow_add-i-3 : goal.overflow_add-i-3
overflow_add-i-3 c = let p = c.requires.0.few in let h = c.requires.1 in omega arith

pub length_of-requires-3 : goal.length_of-requires-3
length_of-requires-3 c = let k = c.if-stored-i.false in (c.requires.0, omega arith)

pub returns-then-length_of-n-3 : goal.returns-then-length_of-n-3
returns-then-length_of-n-3 c = λ e. not_both _ e refl

pub overflow_add-i-4 : goal.overflow_add-i-4
overflow_add-i-4 c = let p = c.requires.0.few in let h = c.requires.1 in omega arith

pub length_of-requires-4 : goal.length_of-requires-4
length_of-requires-4 c = let k = c.if-stored-i.false in (c.requires.0, omega arith)

pub returns : goal.returns
returns c =
    λ e. record { rows = c.if-stored-i.false; first = sym c.length_of.ensures ∙ c.if-length_of-n.false; second = sym c.length_of-2.ensures ∙ c.if-length_of-n-2.false; third = sym c.length_of-3.ensures ∙ c.if-length_of-n-3.false; fourth = sym c.length_of-4.ensures ∙ eqb-true _ _ e }
