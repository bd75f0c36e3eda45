-- Paper 02, 2.2: what 28 and 29 ask, in words and without a test: the computed tests of Join.antt decide exactly these (proofs/Decided.antt).
-- Definitions only.
use Rattle.std.specs.Prelude.{ℕ, suc, ◌≤◌, ◌<◌, ◌≡◌, false, List, length}
use Rattle.std.proofs.Math.Option.{some}
use Rattle.spec.specs.Lists.{nth}
use Rattle.spec.specs.Layout.ShardOf.{shard_of}
use Rattle.spec_join.specs.Join.{Hit, Answer, nearer_hit, max_answers}

-- none is nearer than the one before it
abbrev pub InOrder : List Hit → Type 0
InOrder l = (i : ℕ) (x y : Hit) → nth l i ≡ some x → nth l (suc i) ≡ some y → nearer_hit y x ≡ false

-- no two places have one id
abbrev pub Apart : List Hit → Type 0
Apart l = (i j : ℕ) (x y : Hit) → i < j → nth l i ≡ some x → nth l j ≡ some y → y.id ≡ x.id → ⊥

-- no 28
pub record Sound (xs : List Answer) : Type 0 where
  pub few : length xs ≤ max_answers
  pub rise : (i : ℕ) (a b : Answer) → nth xs i ≡ some a → nth xs (suc i) ≡ some b → a.shard < b.shard
  pub order : (i : ℕ) (a : Answer) → nth xs i ≡ some a → InOrder a.hits
  pub once : (i : ℕ) (a : Answer) → nth xs i ≡ some a → Apart a.hits

-- no 29
abbrev pub Owned : ℕ → List Answer → Type 0
Owned shards xs = (i : ℕ) (a : Answer) → nth xs i ≡ some a → (j : ℕ) (h : Hit) → nth a.hits j ≡ some h → shard_of h.id shards ≡ a.shard
