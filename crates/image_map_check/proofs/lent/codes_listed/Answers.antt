use mathlib.Core.Path.{sym, ◌∙◌, ap}
use Prim.Native.Nat.{ℕ}
use Rattle.image_parts.specs.Shape.{codes_below}
use Rattle.image_parts.proofs.Tests.{none_of_first, none_of_second, none_of_third, all_of}
use Rattle.image_map.specs.Image.{codes_listed}
use Rattle.image_map_check.proofs.lent.codes_listed.Goals as goal

pub returns-then-not-codes_below : goal.returns-then-not-codes_below
unfolding codes_listed
returns-then-not-codes_below c =
    none_of_first _ _ _ _ (sym (c.codes_below.ensures ∙ ap (λ (n : ℕ). codes_below 2 96 c.args.s.now n 56) c.count_at-nodes.ensures.0) ∙ c.if-not-codes_below.true)

pub returns-then-not-codes_below-2 : goal.returns-then-not-codes_below-2
unfolding codes_listed
returns-then-not-codes_below-2 c =
    none_of_second _ _ _ _ (sym (c.codes_below.ensures ∙ ap (λ (n : ℕ). codes_below 2 96 c.args.s.now n 56) c.count_at-nodes.ensures.0) ∙ c.if-not-codes_below.false) (sym (c.codes_below-2.ensures ∙ ap (λ (n : ℕ). codes_below 2 56 c.args.s.now n 3156) c.count_at-collections.ensures.0) ∙ c.if-not-codes_below-2.true)

pub returns-then-not-codes_below-3 : goal.returns-then-not-codes_below-3
unfolding codes_listed
returns-then-not-codes_below-3 c =
    none_of_third _ _ _ _ (sym (c.codes_below.ensures ∙ ap (λ (n : ℕ). codes_below 2 96 c.args.s.now n 56) c.count_at-nodes.ensures.0) ∙ c.if-not-codes_below.false) (sym (c.codes_below-2.ensures ∙ ap (λ (n : ℕ). codes_below 2 56 c.args.s.now n 3156) c.count_at-collections.ensures.0) ∙ c.if-not-codes_below-2.false) (sym (c.codes_below-3.ensures ∙ ap (λ (n : ℕ). codes_below 2 272 c.args.s.now n 4052) c.count_at-shards.ensures.0) ∙ c.if-not-codes_below-3.true)

pub returns : goal.returns
unfolding codes_listed
returns c =
    (c.codes_below-4.ensures ∙ ap (λ (n : ℕ). codes_below 17 80 c.args.s.now n 21476) c.count_at-sessions.ensures.0) ∙ all_of _ _ _ _ (sym (c.codes_below.ensures ∙ ap (λ (n : ℕ). codes_below 2 96 c.args.s.now n 56) c.count_at-nodes.ensures.0) ∙ c.if-not-codes_below.false) (sym (c.codes_below-2.ensures ∙ ap (λ (n : ℕ). codes_below 2 56 c.args.s.now n 3156) c.count_at-collections.ensures.0) ∙ c.if-not-codes_below-2.false) (sym (c.codes_below-3.ensures ∙ ap (λ (n : ℕ). codes_below 2 272 c.args.s.now n 4052) c.count_at-shards.ensures.0) ∙ c.if-not-codes_below-3.false)
