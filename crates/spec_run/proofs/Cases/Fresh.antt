-- The state in which the examples start is fresh, so every theorem about runs speaks of them. Assumes nothing.
use Prim.Native.Nat.{ℕ, zero, suc}
use mathlib.Core.Path.{◌≡◌, refl}
use mathlib.Core.Bool.{true, false}
use mathlib.Core.Option.{some}
use mathlib.Core.List.{[]}
use native.Mathlib.Omega.{arith}
use Rattle.spec.specs.Lists.{nth}
use Rattle.spec.specs.Map.Tables.{NodeInfo}
use Rattle.spec.specs.Map.Change.{holds}
use Rattle.spec_laws.proofs.Lists.{none_some}
use Rattle.spec.specs.declared.Replica.{Replica}
use Rattle.spec.specs.declared.Metric.TheVariants.{Euclidean}
use Rattle.spec_run.specs.Fresh.{Created, Fresh}
use Rattle.spec_run.proofs.Created.{started-fresh}
use Rattle.spec_run.proofs.Cases.Opened.{opened}
use Rattle.spec_run.proofs.Cases.Start.{created, info, start}

-- a node as Register left it
abbrev alive : ℕ → NodeInfo
alive n = record { node = n; address = []; incarnation = 4; alive = true }

is-created : Created created info
unfolding opened created
is-created = record {
  well_formed = refl;
  only = refl;
  key = ((omega arith, refl), omega arith);
  metric = (Euclidean, refl);
  distinct = (refl, (refl, tt));
  live = ((alive 1, refl, refl, refl), omega arith, ((alive 2, refl, refl, refl), omega arith, tt));
  first = (_, refl, refl);
  everyone = λ n. refl;
  epoch = refl;
}

listed : (r : Replica) (place : ℕ) → nth info.replicas place ≡ some r → 4 ≡ r.incarnation
unfolding nth
listed r zero e = cc
listed r (suc zero) e = cc
listed r (suc (suc place)) e = none_some e

-- node 0 holds nothing, so that every other node may have its id
no_holder : holds 0 info.replicas ≡ false
unfolding opened
no_holder = refl

pub start-fresh : Fresh start
unfolding start
start-fresh = started-fresh created info is-created 0 no_holder (λ n. 4) (λ n. 0) (λ n. 100) listed (λ n. omega arith)

pub start-shard : start-fresh.shard ≡ info
unfolding start-fresh started-fresh
start-shard = refl
