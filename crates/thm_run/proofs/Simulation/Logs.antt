-- A longer log keeps what a primary's record says of it, and what fits on the wire. Assumes nothing.
use Prim.Native.Nat.{ℕ, zero, suc, ◌+◌, ◌≤◌}
use mathlib.Core.Path.{◌≡◌, refl, sym, ap, ◌∙◌}
use mathlib.Core.List.{List, [], ◌∷◌, ◌++◌}
use native.Mathlib.Omega.{arith}
use lib.ListN.{length, take, length-append}
use Rattle.spec.specs.Limits.{max_u64}
use Rattle.spec.specs.Log.{Entry, Log, End, ShardReplica, push, store, store_all, cut_to, promote, epoch_ends}
use Rattle.spec.specs.declared.Peer.{Peer}
use Rattle.spec.specs.declared.Role as role
use Rattle.spec_laws.proofs.Lists.{nth_snoc}
use Rattle.spec_laws.proofs.Log.Keep.{keep-within}
use Rattle.spec_laws.proofs.Log.Store.{store_cases}
use Rattle.thm_run.proofs.Protocol.Base.{All}
use Rattle.thm_run.proofs.Protocol.State.{Lead, Role, backup, lead}
use Rattle.thm_run.proofs.Simulation.Ops.{IdFits}
use Rattle.thm_run.proofs.Simulation.Relation.{World, LeadSim, RoleSim, LogFits}

pub take-start : (n : ℕ) (l m : Log) → n ≤ length l → take n (l ++ m) ≡ take n l
take-start zero l m h = refl
take-start (suc n) [] m h = absurd (omega arith)
take-start (suc n) (x ∷ xs) m h = ap (λ (v : Log). x ∷ v) (take-start n xs m (omega arith))

module _ (w : World) (top n : ℕ) (r : role.Role) (rows : List Peer) where
  pub lead-push : (s : ShardReplica) (e : Entry) (l : Lead) → LeadSim w top n r s rows l → LeadSim w top n r (push s e) rows l
  unfolding push
  lead-push s e l c = record {
    role = c.role;
    epoch = c.epoch;
    end = (let p = c.end in let q = length-append s.log (e ∷ []) in omega arith);
    table = c.table ∙ ap epoch_ends (sym (take-start l.end s.log (e ∷ []) c.end));
    upto = c.upto;
    rows = c.rows;
  }

  role_push : (s : ShardReplica) (e : Entry) (b : Role) → RoleSim w top n r s rows b → RoleSim w top n r (push s e) rows b
  role_push s e backup c = c
  role_push s e (lead l) c = lead-push s e l c

  pub role_store : (s : ShardReplica) (epoch : ℕ) (es : Log) (b : Role) → RoleSim w top n r s rows b → RoleSim w top n r (store_all s epoch es) rows b
  unfolding store_all
  role_store s epoch [] b c = c
  role_store s epoch (e ∷ es) b c =
      role_store (store s epoch e).replica epoch es b
      (store_cases (λ v. RoleSim w top n r v.replica rows b) s epoch e (λ p q. role_push s e b c) (λ p q. c) (λ p q. c) (λ p. c))

module _ (w : World) where
  pub fits-push : (s : ShardReplica) (e : Entry) → e.epoch ≤ s.epoch → IdFits e.op → LogFits w s → LogFits w (push s e)
  unfolding push
  fits-push s e h i k = record {
    epoch = k.epoch;
    entries = nth_snoc (λ i v. (v.epoch ≤ s.epoch) × IdFits v.op) s.log e k.entries (h, i);
  }

  pub fits-store : (s : ShardReplica) (epoch : ℕ) (es : Log) → All (λ (x : Entry). (x.epoch ≤ epoch) × IdFits x.op) es → LogFits w s
      → LogFits w (store_all s epoch es)
  unfolding store_all
  fits-store s epoch [] h k = k
  fits-store s epoch (e ∷ es) h k =
      fits-store (store s epoch e).replica epoch es h.1
      (store_cases (λ v. LogFits w v.replica) s epoch e
      (λ p q. fits-push s e (let z = h.0.0 in omega arith) h.0.1 k) (λ p q. k) (λ p q. k) (λ p. k))

  pub fits-adopted : (s : ShardReplica) (epoch end : ℕ) (t : List End) → s.epoch ≤ epoch → epoch ≤ max_u64 → LogFits w s
      → LogFits w (cut_to s epoch end t)
  unfolding cut_to
  fits-adopted s epoch end t more upto k = record {
    epoch = upto;
    entries = λ i x q. let h = k.entries i x (keep-within end t s.log i x q) in (let z = h.0 in omega arith, h.1);
  }

  pub fits-promoted : (s : ShardReplica) (epoch : ℕ) → s.epoch ≤ epoch → epoch ≤ max_u64 → LogFits w s → LogFits w (promote s epoch)
  unfolding promote
  fits-promoted s epoch more upto k = record {
    epoch = omega arith;
    entries = λ i x q. let h = k.entries i x q in (let z = h.0 in omega arith, h.1);
  }
