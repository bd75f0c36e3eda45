use mathlib.Core.Path.{sym, ◌∙◌, ap}
use Prim.Native.Nat.{ℕ}
use Rattle.spec_laws.proofs.Wire.Tests.{and_true, and_false}
use Rattle.image_header.specs.Image.{flags_listed, codes_listed}
use Rattle.image_header.proofs.codes_listed.Goals as goal

pub returns-then-not-shard_codes : goal.returns-then-not-shard_codes
unfolding codes_listed
returns-then-not-shard_codes c = rw (sym c.shard_codes.ensures ∙ c.if-not-shard_codes.true) (sym (and_false _))

pub returns : goal.returns
unfolding codes_listed
returns c =
    let s = c.args.s.now in
    let codes = sym c.shard_codes.ensures ∙ c.if-not-shard_codes.false in
    c.flags_listed.ensures ∙ ap (λ (n : ℕ). flags_listed s n 48) c.count_at.ensures.0 ∙ (rw codes (sym (and_true _)))
