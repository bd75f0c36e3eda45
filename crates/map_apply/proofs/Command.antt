-- The commands of a request, case by case. Assumes nothing.
use mathlib.Core.Path.{◌≡◌, refl, sym, ap, ◌∙◌}
use mathlib.Core.Bool.{Bool, true, false}
use mathlib.Core.List.{[]}
use mathlib.Core.Option.{some}
use Prim.Native.Nat.{ℕ}
use native.Mathlib.Omega.{arith}
use lib.Dec.{eqb}
use Rattle.spec.specs.Keys.{Key}
use Rattle.spec.specs.Map.Tables.{ShardInfo, Map, Answer}
use Rattle.spec.specs.Map.Apply.{decide, commit, change_answer, change_shard, shard_at, sets_version}
use Rattle.spec.specs.Map.Change.{Change, add, remove, promote, shrink, expand, accepts, decide_change}
use Rattle.spec_laws.proofs.Lists.{by-test}
use Rattle.map_tables.specs.View.{change_command, change_of, command_in, view_placement}
use Rattle.map_tables.specs.Names.{view_key, view_address}
use Rattle.map_tables.specs.declared.Request.{Request}
use Rattle.map_tables.specs.declared.Command.{Command}
use Rattle.map_tables.specs.declared.Command.TheVariants.{Create, Drop, Register, MarkNodeDead, OfShard, Bench}

-- the command that asks for a change is decided by the shard that it names
pub decide_of : (m : Map) (k : Key) (e : ℕ) (c : Change) → decide m (change_command k e c) ≡ change_answer k e c (shard_at m.shards k)
unfolding decide
decide_of m k e (add n i) = refl
decide_of m k e (remove n) = refl
decide_of m k e (promote n) = refl
decide_of m k e (shrink n) = refl
decide_of m k e (expand n) = refl

pub commit_of : (m : Map) (k : Key) (e : ℕ) (c : Change) → commit m (change_command k e c) ≡ change_shard m k c
unfolding commit
commit_of m k e (add n i) = refl
commit_of m k e (remove n) = refl
commit_of m k e (promote n) = refl
commit_of m k e (shrink n) = refl
commit_of m k e (expand n) = refl

-- a command with a shard that takes effect: the shard it names takes the change
pub change-accepts : (m : Map) (k : Key) (e : ℕ) (c : Change) (s : ShardInfo) → decide m (change_command k e c) ≡ accepts
    → shard_at m.shards k ≡ some s → decide_change s c ≡ accepts
unfolding change_answer
change-accepts m k e c s d at =
    by-test (λ (v : Answer). v ≡ accepts → decide_change s c ≡ accepts) (eqb s.epoch e)
    (λ q w. w)
    (λ q w. let z : ◌≡◌ {A = ℕ} 0 1 = cc in absurd (omega arith))
    (ap (change_answer k e c) (sym at) ∙ sym (decide_of m k e c) ∙ d)

-- a command with a shard sets the version
pub sets_of : (k : Key) (e : ℕ) (c : Change) → sets_version (change_command k e c) ≡ true
sets_of k e (add n i) = refl
sets_of k e (remove n) = refl
sets_of k e (promote n) = refl
sets_of k e (shrink n) = refl
sets_of k e (expand n) = refl

abbrev pub not_bench : Command → Bool
not_bench (Create s) = true
not_bench Drop = true
not_bench (Register n i) = true
not_bench (MarkNodeDead n i) = true
not_bench (OfShard c e) = true
not_bench Bench = false

-- every command but Bench sets the version
pub sets-by : (r : Request) (q : Command) → sets_version (command_in q (view_key r.key) (view_address r.address) (view_placement r.placement) []) ≡ not_bench q
sets-by r (Create s) = refl
sets-by r Drop = refl
sets-by r (Register n i) = refl
sets-by r (MarkNodeDead n i) = refl
sets-by r (OfShard c e) = sets_of (view_key r.key) e.0 (change_of c)
sets-by r Bench = refl
