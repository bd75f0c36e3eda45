use native.Mathlib.Omega.{arith}
use mathlib.Core.Path.{sym, ◌∙◌, ap}
use Prim.Native.Nat.{ℕ, ◌*◌}
use lib.IntN.{pos, neg_ℤ}
use Rattle.spec_position.proofs.FieldLaws.{in_facts}
use Rattle.num_position.proofs.Places.{not_placed_lem, placed_plus, placed-minus}
use Rattle.num_position.proofs.to_position.Goals as goal

pub returns-then-not-in_range : goal.returns-then-not-in_range
returns-then-not-in_range c = not_placed_lem _ (sym c.in_range.ensures ∙ c.if-not-in_range.true)

pub thousandths_of-requires : goal.thousandths_of-requires
thousandths_of-requires c = let r = in_facts _ (sym c.in_range.ensures ∙ c.if-not-in_range.false) in omega arith

pub overflow_mul-thousandths_of : goal.overflow_mul-thousandths_of
overflow_mul-thousandths_of c = let r = in_facts _ (sym c.in_range.ensures ∙ c.if-not-in_range.false) in omega arith

pub thousandths_of-size-requires : goal.thousandths_of-size-requires
thousandths_of-size-requires c = let r = in_facts _ (sym c.in_range.ensures ∙ c.if-not-in_range.false) in omega arith

pub returns-then-f-eq0 : goal.returns-then-f-eq0
returns-then-f-eq0 c =
    placed_plus _ _ _ (sym c.in_range.ensures ∙ c.if-not-in_range.false) c.if-f-eq0.true (c.plain-ra.ensures ∙ ap (λ (n : ℕ). pos (n * 15)) c.thousandths_of.ensures) (c.plain-dec.ensures ∙ ap pos c.thousandths_of-size.ensures)

pub returns : goal.returns
returns c =
    placed-minus _ _ _ (sym c.in_range.ensures ∙ c.if-not-in_range.false) c.if-f-eq0.false (c.plain-ra.ensures ∙ ap (λ (n : ℕ). pos (n * 15)) c.thousandths_of.ensures) (c.negated-dec.ensures ∙ ap (λ (n : ℕ). neg_ℤ (pos n)) c.thousandths_of-size.ensures)
