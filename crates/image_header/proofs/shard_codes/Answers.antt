use mathlib.Core.Path.{sym, ◌∙◌, ap}
use Prim.Native.Nat.{ℕ}
use Rattle.image_parts.specs.Shape.{codes_below}
use Rattle.image_header.specs.Image.{shard_codes}
use Rattle.image_parts.proofs.Tests.{none_of_first, none_of_second, none_of_third, all_of}
use Rattle.image_header.proofs.shard_codes.Goals as goal

pub returns-then-not-codes_below : goal.returns-then-not-codes_below
unfolding shard_codes
returns-then-not-codes_below c = none_of_first _ _ _ _ (sym c.codes_below.ensures ∙ c.if-not-codes_below.true)

pub returns-then-not-codes_below-2 : goal.returns-then-not-codes_below-2
unfolding shard_codes
returns-then-not-codes_below-2 c =
    none_of_second _ _ _ _ (sym c.codes_below.ensures ∙ c.if-not-codes_below.false) (ap (λ (n : ℕ). codes_below 2 1280 c.args.s.now n 144) (sym c.count_at-n.ensures.0) ∙ sym c.codes_below-2.ensures ∙ c.if-not-codes_below-2.true)

pub returns-then-not-codes_below-3 : goal.returns-then-not-codes_below-3
unfolding shard_codes
returns-then-not-codes_below-3 c =
    none_of_third _ _ _ _ (sym c.codes_below.ensures ∙ c.if-not-codes_below.false) (ap (λ (n : ℕ). codes_below 2 1280 c.args.s.now n 144) (sym c.count_at-n.ensures.0) ∙ sym c.codes_below-2.ensures ∙ c.if-not-codes_below-2.false) (ap (λ (n : ℕ). codes_below 2 1280 c.args.s.now n 148) (sym c.count_at-n.ensures.0) ∙ sym c.codes_below-3.ensures ∙ c.if-not-codes_below-3.true)

pub returns : goal.returns
unfolding shard_codes
returns c =
    c.codes_below-4.ensures ∙ ap (λ (n : ℕ). codes_below 2 1280 c.args.s.now n 156) c.count_at-n.ensures.0 ∙ all_of _ _ _ _ (sym c.codes_below.ensures ∙ c.if-not-codes_below.false) (ap (λ (n : ℕ). codes_below 2 1280 c.args.s.now n 144) (sym c.count_at-n.ensures.0) ∙ sym c.codes_below-2.ensures ∙ c.if-not-codes_below-2.false) (ap (λ (n : ℕ). codes_below 2 1280 c.args.s.now n 148) (sym c.count_at-n.ensures.0) ∙ sym c.codes_below-3.ensures ∙ c.if-not-codes_below-3.false)
