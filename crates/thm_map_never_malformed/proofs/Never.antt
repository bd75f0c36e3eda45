-- `apply` on a map answers no 24: that is the test of the map alone. Assumes nothing.
use Prim.Native.Nat.{ℕ, ◌≤◌}
use mathlib.Core.Path.{◌≡◌, refl, sym, ap, subst, ◌∙◌}
use mathlib.Core.Bool.{true, not}
use mathlib.Core.Option.{Option, none, some}
use lib.ListN.{length}
use lib.Dec.{eqb, ltb}
use native.Mathlib.Omega.{arith}
use borrow.Author.Tests.{eq-eqb}
use Rattle.spec.specs.Limits.{max_clients}
use Rattle.spec.specs.Refusals as said
use Rattle.spec.specs.Refusals.{number_of}
use Rattle.spec.specs.Map.Tables.{Outcome, applied, rejected, Session, Map, Answer, outcome, refused}
use Rattle.spec.specs.Map.Apply.{Applied, apply, apply_to, settle, decide, session_at}
use Rattle.spec.specs.Map.Calls.{reason_number}
use Rattle.spec.specs.Layout.Request.{Request}
use Rattle.spec_laws.proofs.Lists.{by-test, not_both}
use Rattle.map_apply.proofs.Apply.{settle-answer}
use Rattle.calls_map.proofs.Kept.{Now, decide-now}

-- 1 to 16
rejection_small : (r : said.Rejection) → reason_number (outcome (rejected r)) ≤ 16
rejection_small said.older = omega arith
rejection_small (said.exists n) = omega arith
rejection_small said.zero_spec = omega arith
rejection_small said.placement_mismatch = omega arith
rejection_small (said.not_alive n) = omega arith
rejection_small (said.no_collection n) = omega arith
rejection_small (said.known_incarnation n i) = omega arith
rejection_small (said.not_at_incarnation n i) = omega arith
rejection_small (said.no_shard k) = omega arith
rejection_small (said.other_epoch k own given) = omega arith
rejection_small (said.already_held n) = omega arith
rejection_small said.removes_primary = omega arith
rejection_small (said.not_held n) = omega arith
rejection_small (said.not_in_sync n) = omega arith
rejection_small said.shrinks_primary = omega arith
rejection_small (said.already_in_sync n) = omega arith

outcome_small : (o : Outcome) → reason_number (outcome o) ≤ 16
outcome_small applied = omega arith
outcome_small (rejected r) = rejection_small r

abbrev Never : Answer → Type 0
Never a = reason_number a ≡ 24 → ⊥

outcome_never : (o : Outcome) → Never (outcome o)
outcome_never o e = let h = outcome_small o in omega arith

now_never : (a : Answer) → Now a → Never a
now_never (outcome o) n e = outcome_never o e
now_never (refused r) n e = not_both (not (eqb (number_of r) 24)) n (ap not (eq-eqb (number_of r) 24 e))

module _ (m : Map) (r : Request) where
  abbrev P : Applied → Type 0
  P v = Never v.answer

  decided : P (settle m r (decide m r.command))
  decided = subst Never (sym (settle-answer m r (decide m r.command))) (now_never (decide m r.command) (decide-now m r.command))

  pub apply_never : Never (apply m r).answer
  unfolding apply apply_to
  apply_never = go (session_at m.sessions r.client)
    where
      go : (o : Option Session) → P (apply_to m r o)
      go none = by-test P (ltb (length m.sessions) max_clients) (λ q. decided) (λ q e. omega arith)
      go (some s) =
          by-test P (ltb r.seq s.seq) (λ q. outcome_never (rejected said.older))
          (λ q. by-test P (eqb r.seq s.seq) (λ w. outcome_never s.outcome) (λ w. decided))
