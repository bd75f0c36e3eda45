use mathlib.Core.Path.{refl, sym, ◌∙◌}
use Prim.Native.Nat.{◌+◌}
use lib.Dec.{leb}
use Rattle.spec.specs.Layout.Format.{number_at}
use Rattle.image_map_check.proofs.RowLaws.{session-code, code-none, code_is, code-sized}
use Rattle.image_map_check.proofs.rows.session_fits.Goals as goal

pub returns-in-0 : goal.returns-in-0
returns-in-0 c = code_is c.args.s.now c.args.at 0 (sym c.get4-code.ensures ∙ c.in-0.is) _ refl

pub returns-in-1 : goal.returns-in-1
returns-in-1 c = code_is c.args.s.now c.args.at 1 (sym c.get4-code.ensures ∙ c.in-1.is) _ refl

pub returns-in-2 : goal.returns-in-2
returns-in-2 c = code-sized c.args.s.now c.args.at 2 (sym c.get4-code.ensures ∙ c.in-2.is) _ c.get8-size.ensures refl

pub returns-in-3 : goal.returns-in-3
returns-in-3 c = code_is c.args.s.now c.args.at 3 (sym c.get4-code.ensures ∙ c.in-3.is) _ refl

pub returns-in-4 : goal.returns-in-4
returns-in-4 c = code_is c.args.s.now c.args.at 4 (sym c.get4-code.ensures ∙ c.in-4.is) _ refl

pub returns-in-5 : goal.returns-in-5
returns-in-5 c = code_is c.args.s.now c.args.at 5 (sym c.get4-code.ensures ∙ c.in-5.is) _ refl

pub returns-in-6 : goal.returns-in-6
returns-in-6 c = code-sized c.args.s.now c.args.at 6 (sym c.get4-code.ensures ∙ c.in-6.is) _ c.get8-size.ensures refl

pub returns-in-7 : goal.returns-in-7
returns-in-7 c = code_is c.args.s.now c.args.at 7 (sym c.get4-code.ensures ∙ c.in-7.is) _ refl

pub returns-in-8 : goal.returns-in-8
returns-in-8 c = code_is c.args.s.now c.args.at 8 (sym c.get4-code.ensures ∙ c.in-8.is) _ refl

pub returns-in-9 : goal.returns-in-9
returns-in-9 c = code-sized c.args.s.now c.args.at 9 (sym c.get4-code.ensures ∙ c.in-9.is) _ c.get8-size.ensures refl

pub returns-in-10 : goal.returns-in-10
returns-in-10 c =
    code-sized c.args.s.now c.args.at 10 (sym c.get4-code.ensures ∙ c.in-10.is) _ c.get8-size.ensures refl

pub returns-in-11 : goal.returns-in-11
returns-in-11 c = code_is c.args.s.now c.args.at 11 (sym c.get4-code.ensures ∙ c.in-11.is) _ refl

pub returns-in-12 : goal.returns-in-12
returns-in-12 c = code_is c.args.s.now c.args.at 12 (sym c.get4-code.ensures ∙ c.in-12.is) _ refl

pub returns-in-13 : goal.returns-in-13
returns-in-13 c = code_is c.args.s.now c.args.at 13 (sym c.get4-code.ensures ∙ c.in-13.is) _ refl

pub returns-in-14 : goal.returns-in-14
returns-in-14 c = code_is c.args.s.now c.args.at 14 (sym c.get4-code.ensures ∙ c.in-14.is) _ refl

pub returns-in-15 : goal.returns-in-15
returns-in-15 c = code_is c.args.s.now c.args.at 15 (sym c.get4-code.ensures ∙ c.in-15.is) _ refl

pub returns-in-16 : goal.returns-in-16
returns-in-16 c = code_is c.args.s.now c.args.at 16 (sym c.get4-code.ensures ∙ c.in-16.is) _ refl

pub returns-in_default : goal.returns-in_default
returns-in_default c =
    let q = c.get4-code.ensures in code-none _ (leb (number_at 8 c.args.s.now (c.args.at + 16)) 32) (λ e. c.in_default.in_default-own.rest.0.0.0.0.0.0.0.0.0.0.0.0.0.0.0.0.1 (q ∙ e)) (λ e. c.in_default.in_default-own.rest.0.0.0.0.0.0.0.0.0.0.0.0.0.0.0.1 (q ∙ e)) (λ e. c.in_default.in_default-own.rest.0.0.0.0.0.0.0.0.0.0.0.0.0.0.1 (q ∙ e)) (λ e. c.in_default.in_default-own.rest.0.0.0.0.0.0.0.0.0.0.0.0.0.1 (q ∙ e)) (λ e. c.in_default.in_default-own.rest.0.0.0.0.0.0.0.0.0.0.0.0.1 (q ∙ e)) (λ e. c.in_default.in_default-own.rest.0.0.0.0.0.0.0.0.0.0.0.1 (q ∙ e)) (λ e. c.in_default.in_default-own.rest.0.0.0.0.0.0.0.0.0.0.1 (q ∙ e)) (λ e. c.in_default.in_default-own.rest.0.0.0.0.0.0.0.0.0.1 (q ∙ e)) (λ e. c.in_default.in_default-own.rest.0.0.0.0.0.0.0.0.1 (q ∙ e)) (λ e. c.in_default.in_default-own.rest.0.0.0.0.0.0.0.1 (q ∙ e)) (λ e. c.in_default.in_default-own.rest.0.0.0.0.0.0.1 (q ∙ e)) (λ e. c.in_default.in_default-own.rest.0.0.0.0.0.1 (q ∙ e)) (λ e. c.in_default.in_default-own.rest.0.0.0.0.1 (q ∙ e)) (λ e. c.in_default.in_default-own.rest.0.0.0.1 (q ∙ e)) (λ e. c.in_default.in_default-own.rest.0.0.1 (q ∙ e)) (λ e. c.in_default.in_default-own.rest.0.1 (q ∙ e)) (λ e. c.in_default.in_default-own.rest.1 (q ∙ e)) ∙ session-code c.args.s.now c.args.at
