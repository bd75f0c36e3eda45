use native.Mathlib.Omega.{arith}
use mathlib.Core.Path.{◌≡◌, refl, sym, ◌∙◌, ap}
use Prim.Native.Nat.{ℕ, ◌+◌, ◌-◌, ◌*◌}
use borrow.Author.Tests.{eq-eqb, ne_eqb}
use lib.Dec.{eqb}
use Rattle.spec.specs.Layout.ShardOf.{shard_of}
use Rattle.spec_join.specs.Join.{Hit}
use Rattle.calls_join.proofs.Walks.{hits_stop, hits-on, hits-end}
use Rattle.calls_join.proofs.owners.owns.Goals as goal

pub loop-i-init : goal.loop-i-init
loop-i-init c =
    let a : c.args.n - 0 ≡ c.args.n = omega arith in
    let b : c.args.p + 12 * 0 ≡ c.args.p = omega arith in rw (a, b) refl

pub returns-then-shard_of-shard : goal.returns-then-shard_of-shard
returns-then-shard_of-shard c =
    let args = c.args in
    let loop = c.loop-i in
    let r = c.shard_of.ensures ∙ ap (λ (i : ℕ). shard_of i args.shards) c.get8.ensures in sym (sym loop.invariant ∙ hits_stop args.s.now (λ (h : Hit). eqb (shard_of h.id args.shards) args.shard) args.n args.p loop.i c.loop-i-test.true (ne_eqb _ _ (λ e. c.if-shard_of-shard.true (r ∙ e))))

pub loop-i-preserved : goal.loop-i-preserved
loop-i-preserved c =
    let args = c.args in
    let loop = c.loop-i in
    let r = c.shard_of.ensures ∙ ap (λ (i : ℕ). shard_of i args.shards) c.get8.ensures in sym (hits-on args.s.now (λ (h : Hit). eqb (shard_of h.id args.shards) args.shard) args.n args.p loop.i c.loop-i-test.true (eq-eqb _ _ (sym r ∙ c.if-shard_of-shard.false))) ∙ loop.invariant

pub returns : goal.returns
returns c =
    let args = c.args in
    let loop = c.loop-i in
    sym (sym loop.invariant ∙ hits-end args.s.now (λ (h : Hit). eqb (shard_of h.id args.shards) args.shard) _ _ (omega arith))
