-- The theorem of request 2.13 put to the run of Returns.antt: every one of its premises is met, in two rounds of which neither is a list of
-- unbroken exchanges. Assumes nothing.
use Prim.Native.Nat.{ℕ, ◌≤◌}
use mathlib.Core.Path.{◌≡◌, refl, sym, ap, ◌∙◌, subst}
use mathlib.Core.Bool.{Bool, true, false, cond}
use mathlib.Core.Logic.{◌⊎◌, inl, inr}
use mathlib.Core.List.{List, [], ◌∷◌}
use mathlib.Core.Option.{Option, none, some}
use native.Mathlib.Omega.{arith}
use lib.Dec.{eqb}
use lib.ListN.{length}
use borrow.Author.Tests.{eqb-true}
use Rattle.spec.specs.Keys.{Key}
use Rattle.spec.specs.Lists.{any, every}
use Rattle.spec.specs.Map.Tables.{ShardInfo}
use Rattle.spec.specs.Map.Apply.{shard_at}
use Rattle.spec.specs.Map.Change.{holds}
use Rattle.spec.specs.Node.Held.{Held}
use Rattle.spec.specs.Node.Shards.{held_shard}
use Rattle.spec_laws.proofs.Lists.{not_both, none_some, some_same}
use Rattle.spec_run.specs.Step.{run}
use Rattle.spec_run.specs.Rules.{allowed_run}
use Rattle.spec_run.specs.Claim.{log_of}
use Rattle.spec_run.proofs.Created.{started}
use Rattle.thm_run.proofs.Simulation.AtNode.{shard_cases}
use Rattle.thm_run.proofs.Demand3.{world_of, invariant}
use Rattle.spec_run.proofs.Cases.Opened.{opened}
use Rattle.spec_run.proofs.Cases.Start.{start, created, info, key}
use Rattle.spec_run.proofs.Cases.Fresh.{start-fresh, start-shard}
use Rattle.thm_rounds.specs.Rounds.{Leads, Still, holders_in, is_holder, step_for, steps_for, Rounds, CaughtUp}
use Rattle.thm_rounds.proofs.CaughtUp.{caught_up_lem}
use Rattle.thm_rounds.proofs.Links.{Only, shows, commands, grants, writes, steps, arrivals, counts, still-run, onwards}
use Rattle.thm_rounds.proofs.Returns.{cut, back, may_happen, primary's, first, second}

-- ---- nothing is under way

still_back : Still back
unfolding back cut
still_back =
    still-run start cut (λ a b out. start-fresh.requests a b)
    (grants 1 4 0 10, (writes _ _ _ _, (commands _, (shows 2 0, (grants 2 4 0 10, (writes _ _ _ _, tt))))))
    (unfold opened in unfold start in unfold started in unfold created in refl) (unfold opened in unfold start in unfold started in unfold created in refl)
    (unfold opened in unfold start in unfold started in unfold created in refl)

still-first : Still (run back first)
unfolding first
still-first =
    still-run back first (onwards back still_back)
    (steps _ _ _ _ _ _ (inl (refl, refl)), (steps _ _ _ _ _ _ (inr (refl, refl)), (arrivals 2 1 0 (inr (refl, refl)), (arrivals 1 2 0 (inl (refl, refl)), (counts 1, (counts 0, tt))))))
    (unfold opened in unfold back in unfold cut in unfold start in unfold started in unfold created in refl)
    (unfold opened in unfold back in unfold cut in unfold start in unfold started in unfold created in refl)
    (unfold opened in unfold back in unfold cut in unfold start in unfold started in unfold created in refl)

still-second : Still (run (run back first) second)
unfolding second
still-second =
    still-run (run back first) second (onwards (run back first) still-first)
    (steps _ _ _ _ _ _ (inr (refl, refl)), (steps _ _ _ _ _ _ (inr (refl, refl)), (arrivals 2 1 1 (inr (refl, refl)), (counts 0, (arrivals 2 1 0 (inr (refl, refl)), (counts 0, tt))))))
    (unfold opened in unfold back in unfold cut in unfold first in unfold start in unfold started in unfold created in refl)
    (unfold opened in unfold back in unfold cut in unfold first in unfold start in unfold started in unfold created in refl)
    (unfold opened in unfold back in unfold cut in unfold first in unfold start in unfold started in unfold created in refl)

-- ---- node 2 leads at the highest epoch

two-holders : (n : ℕ) → holds n info.replicas ≡ true → (n ≡ 1) ⊎ (n ≡ 2)
unfolding holds any
two-holders n = go (eqb 1 n) refl (eqb 2 n) refl
  where
    go : (b : Bool) → eqb 1 n ≡ b → (c : Bool) → eqb 2 n ≡ c → cond b true (cond c true false) ≡ true → (n ≡ 1) ⊎ (n ≡ 2)
    go true e c f t = inl (sym (eqb-true 1 n e))
    go false e true f t = inr (sym (eqb-true 2 n f))
    go false e false f t = not_both false t refl

abbrev AtMost : Option Held → Type 0
AtMost none = Unit {0}
AtMost (some h) = h.replica.epoch ≤ 2

one-low : AtMost (held_shard (back.nodes 1) key)
unfolding opened start started created cut back
one-low = omega arith

two-low : AtMost (held_shard (back.nodes 2) key)
unfolding opened start started created cut back
two-low = omega arith

highest : (n : ℕ) (h : Held) → held_shard (back.nodes n) key ≡ some h → h.replica.epoch ≤ 2
unfolding back
highest n h found =
    let v = invariant start start-fresh cut may_happen in
    shard_cases (world_of start start-fresh) v.abstract.map.epoch n (back.nodes n) (v.abstract.nodes n) (v.related.nodes n)
    (λ o. o ≡ some h → h.replica.epoch ≤ 2) key (λ e. none_some e)
    (λ y g is hs same e. go (two-holders n (ap (λ (i : ShardInfo). holds n i.replicas) (sym start-shard) ∙ y)) (some_same e) found) found
  where
    go : (n ≡ 1) ⊎ (n ≡ 2) → {g : Held} → g ≡ h → held_shard (back.nodes n) key ≡ some h → h.replica.epoch ≤ 2
    go (inl e) same found = subst AtMost (ap (λ (m : ℕ). held_shard (back.nodes m) key) (sym e) ∙ found) one-low
    go (inr e) same found = subst AtMost (ap (λ (m : ℕ). held_shard (back.nodes m) key) (sym e) ∙ found) two-low

leads-back : Leads back key 2 2
unfolding opened start started created cut back
leads-back = record { held = _; found = refl; role = refl; highest = highest }

-- ---- the rounds

-- node 2's only other holder is node 1
one-other : (p : ℕ) → holds p info.replicas ≡ true → (2 ≡ p → ⊥) → p ≡ 1
one-other p y ne = go (two-holders p y)
  where
    go : (p ≡ 1) ⊎ (p ≡ 2) → p ≡ 1
    go (inl e) = e
    go (inr e) = absurd (ne (sym e))

back-holders : holders_in (shard_at back.map.shards key) ≡ info.replicas
unfolding opened start started created cut back
back-holders = refl

later_holders : holders_in (shard_at (run back first).map.shards key) ≡ info.replicas
unfolding opened start started created cut back first
later_holders = refl

first_step : steps_for key 2 2 1 back first ≡ true
unfolding opened start started created cut back first steps_for step_for
first_step = refl

second-step : steps_for key 2 2 1 (run back first) second ≡ true
unfolding opened start started created cut back first second steps_for step_for
second-step = refl

first-steps : (p : ℕ) → is_holder back.map key p ≡ true → (2 ≡ p → ⊥) → steps_for key 2 2 p back first ≡ true
unfolding is_holder
first-steps p y ne = subst (λ (m : ℕ). steps_for key 2 2 m back first ≡ true) (sym (one-other p (sym (ap (holds p) back-holders) ∙ y) ne)) first_step

second-steps : (p : ℕ) → is_holder (run back first).map key p ≡ true → (2 ≡ p → ⊥) → steps_for key 2 2 p (run back first) second ≡ true
unfolding is_holder
second-steps p y ne =
    subst (λ (m : ℕ). steps_for key 2 2 m (run back first) second ≡ true) (sym (one-other p (sym (ap (holds p) later_holders) ∙ y) ne)) second-step

first-allowed : allowed_run back first ≡ true
unfolding opened start started created cut back first
first-allowed = refl

second-allowed : allowed_run (run back first) second ≡ true
unfolding opened start started created cut back first second
second-allowed = refl

two : Rounds key 2 2 back (first ∷ second ∷ [])
two = (
  record { rules = first-allowed; kinds = (unfold first in unfold every in refl); steps = first-steps; ends = still-first },
  (record { rules = second-allowed; kinds = (unfold second in unfold every in refl); steps = second-steps; ends = still-second }, tt),
)

-- the theorem, met
pub all_alike : CaughtUp back (run (run back first) second) key 2
unfolding back
all_alike =
    subst (λ (k : Key). Leads (run start cut) k 2 2 → Rounds k 2 2 (run start cut) (first ∷ second ∷ []) → length (log_of ((run start cut).nodes 2) k) ≤ 256
    → CaughtUp (run start cut) (run (run (run start cut) first) second) k 2) (ap (λ (i : ShardInfo). i.key) start-shard)
    (λ l r n. caught_up_lem start start-fresh cut may_happen 2 2 l still_back first (second ∷ []) r n) leads-back two
    (let z : length (log_of ((run start cut).nodes 2) key) ≡ 1 = ap length primary's in omega arith)
