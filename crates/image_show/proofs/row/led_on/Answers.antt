use native.Mathlib.Omega.{arith}
use mathlib.Core.Path.{refl, sym, ◌∙◌}
use mathlib.Core.Bool.{false}
use borrow.Author.Tests.{not-true}
use Rattle.spec_laws.proofs.Lists.{not_both}
use Rattle.image_show.proofs.RowLaws.{led_made}
use Rattle.image_show.proofs.row.led_on.Goals as goal

pub returns-then-rising_to : goal.returns-then-rising_to
returns-then-rising_to c = λ e. not_both false e refl

pub get8-n-requires : goal.get8-n-requires
get8-n-requires c = let p = c.requires.0 in omega arith

pub overflow_add-at-4 : goal.overflow_add-at-4
overflow_add-at-4 c = let p = c.requires.0 in omega arith

pub any_lost-requires : goal.any_lost-requires
any_lost-requires c =
    let p = c.requires.0 in let n = c.requires.1 in let g = c.get8-n.ensures in (omega arith, omega arith, c.requires.2.held)

pub returns-then-any_lost : goal.returns-then-any_lost
returns-then-any_lost c = λ e. not_both false e refl

pub overflow_add-at-5 : goal.overflow_add-at-5
overflow_add-at-5 c = let p = c.requires.0 in omega arith

pub any_missing-requires : goal.any_missing-requires
any_missing-requires c =
    let p = c.requires.0 in let n = c.requires.1 in let g = c.get8-n.ensures in (omega arith, omega arith, c.requires.2.held)

pub returns : goal.returns
returns c =
    λ e. led_made c.args.s.now c.args.at c.args.me c.args.row c.role_at-role.result c.get8.result c.get8-n.result c.role_at-role.ensures c.get8.ensures c.get8-n.ensures (sym c.rising_to.ensures ∙ c.if-rising_to.false) (sym c.any_lost.ensures ∙ c.if-any_lost.false) (c.any_missing.ensures (not-true _ e))
