use borrow.Author.Rules.{rules}
use native.Mathlib.Omega.{arith}
use mathlib.Core.Path.{sym, ◌∙◌, ap}
use Prim.Native.Nat.{◌+◌, ◌*◌}
use mathlib.Core.Bool.{Bool, true, cond, not}
use borrow.Author.Tests.{lt-ltb, le-ltb}
use lib.Dec.{eqb}
use Rattle.spec.specs.Layout.Format.{number_at}
use Rattle.image_send_entries.proofs.table.ends_run.Goals as goal

pub get8-requires : goal.get8-requires
get8-requires c = let p = c.requires.0 in let q = c.requires.1 in let r = c.requires.2 in omega arith

pub overflow_mul-i-then-i-n : goal.overflow_mul-i-then-i-n
overflow_mul-i-then-i-n c = let p = c.requires.0 in let q = c.requires.1 in omega arith

pub overflow_add-base-then-i-n : goal.overflow_add-base-then-i-n
overflow_add-base-then-i-n c =
    let p = c.requires.0 in let q = c.requires.1 in let r = c.requires.2 in let f = c.ranges in search rules

pub get8-requires-then-i-n : goal.get8-requires-then-i-n
get8-requires-then-i-n c = let p = c.requires.1 in let r = c.requires.2 in let t = c.if-i-n.true in omega arith

pub returns-then-i-n : goal.returns-then-i-n
returns-then-i-n c =
    let a = c.args in (rw (c.get8.ensures, c.get8-then-i-n.ensures)) ∙ sym (ap (λ (b : Bool). cond b (not (eqb (number_at 8 a.s.now (a.base + a.i * 8)) (number_at 8 a.s.now (a.base + (a.i + 1) * 8)))) true) (lt-ltb _ _ c.if-i-n.true))

pub returns : goal.returns
returns c =
    let a = c.args in sym (ap (λ (b : Bool). cond b (not (eqb (number_at 8 a.s.now (a.base + a.i * 8)) (number_at 8 a.s.now (a.base + (a.i + 1) * 8)))) true) (le-ltb _ _ c.if-i-n.false))
