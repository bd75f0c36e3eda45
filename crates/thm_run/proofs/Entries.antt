-- Request 2.5, of every run that the rules allow, from every fresh state: entries of any two nodes with equal offset and epoch are equal,
-- and every entry is a Write that was accepted in its epoch. Assumes nothing.
use Prim.Native.Nat.{ℕ, zero, suc}
use mathlib.Core.Path.{◌≡◌, sym, ap, ◌∙◌}
use mathlib.Core.Bool.{true}
use mathlib.Core.List.{List, []}
use mathlib.Core.Option.{Option, some}
use native.Mathlib.Omega.{arith}
use Rattle.spec.specs.Keys.{Key}
use Rattle.spec.specs.Lists.{nth}
use Rattle.spec.specs.Log.{Entry, ShardReplica, entry_at}
use Rattle.spec.specs.Node.Held.{Held}
use Rattle.spec_laws.proofs.Lists.{none_some}
use Rattle.spec_laws.proofs.Log.Numbered.{entry_lt, entry-offset}
use Rattle.spec_run.specs.State.{State}
use Rattle.spec_run.specs.Event.{Event}
use Rattle.spec_run.specs.Step.{run}
use Rattle.spec_run.specs.Rules.{allowed_run}
use Rattle.spec_run.specs.Fresh.{Fresh}
use Rattle.spec_run.specs.Claim.{log_in, log_of, Alike, Origin, Written}
use Rattle.thm_run.proofs.Protocol.Base.{All, all-nth}
use Rattle.thm_run.proofs.Protocol.State as proto
use Rattle.thm_run.proofs.Protocol.Run as protocol
use Rattle.thm_run.proofs.Protocol.Written.{EntryIn}
use Rattle.thm_run.proofs.Simulation.Lists.{nth-made}
use Rattle.thm_run.proofs.Simulation.Relation.{World, WriteKey, accepted_of, Sim}
use Rattle.thm_run.proofs.Simulation.AtNode.{shard_cases, log_facts}
use Rattle.thm_run.proofs.Demand3.{Invariant, world_of, invariant}

-- an entry of a log: the run's shard is asked for, the protocol's node has the entry, and its offset is its place
record Entered (w : World) (a : proto.State) (key : Key) (n o : ℕ) (x : Entry) : Type 0 where
  own : key ≡ w.key
  there : entry_at (a.nodes n).replica.log o ≡ some x
  numbered : x.offset ≡ o

entered : (w : World) (s : State) (a : proto.State) → Sim w s a → (key : Key) (n o : ℕ) (x : Entry)
    → entry_at (log_of (s.nodes n) key) o ≡ some x → Entered w a key n o x
unfolding log_of
entered w s a k key n o x =
    shard_cases w a.map.epoch n (s.nodes n) (a.nodes n) (k.nodes n)
    (λ (v : Option Held). entry_at (log_in v) o ≡ some x → Entered w a key n o x) key
    (λ e. let f = entry_lt [] o x e in absurd (omega (arith, f.0, f.1)))
    (λ y h is hs same e. record {
      own = same;
      there = ap (λ (z : ShardReplica). entry_at z.log o) (sym hs.replica) ∙ e;
      numbered = entry-offset h.replica.log o x (log_facts w a.map.epoch n (s.nodes n) (a.nodes n) (k.nodes n) h is).numbered e;
    })

-- an entry of the protocol's log is among what its nodes accepted
known_at : (a : proto.State) (n o : ℕ) (x : Entry) → ((m : ℕ) → All (EntryIn a.accepted) (a.nodes m).replica.log)
    → entry_at (a.nodes n).replica.log o ≡ some x → EntryIn a.accepted x
unfolding entry_at
known_at a n zero x k p = none_some p
known_at a n (suc i) x k p = all-nth (EntryIn a.accepted) (a.nodes n).replica.log i x (k n) p

module _ (s : State) (f : Fresh s) (es : List Event) (t : allowed_run s es ≡ true) where
  v : Invariant (world_of s f) (run s es)
  v = invariant s f es t

  stands : (k : Key) (n o : ℕ) (x : Entry) → entry_at (log_of ((run s es).nodes n) k) o ≡ some x → Entered (world_of s f) v.abstract k n o x
  stands = entered (world_of s f) (run s es) v.abstract v.related

  pub alike : Alike (run s es)
  alike = record {
    entries = λ k n m o x y p q.
        protocol.entries_alike v.abstract v.kept n m o x y (stands k n o x p).there (stands k m o y q).there;
  }

  origin : (k : Key) (n o : ℕ) (x : Entry) → entry_at (log_of ((run s es).nodes n) k) o ≡ some x → Origin (run s es) k o x
  origin k n o x p =
      let e = stands k n o x p in
      let z = known_at v.abstract n o x v.known.logs e.there in
      let m = nth-made (accepted_of (world_of s f)) (run s es).accepted z.0
      (record { node = z.1; epoch = x.epoch; offset = x.offset; op = x.op })
      (ap (λ (l : List proto.Accepted). nth l z.0) v.related.accepted ∙ z.2) in
      record {
        place = z.0;
        write = m.0;
        found = m.1;
        key = all-nth (WriteKey (world_of s f)) (run s es).accepted z.0 m.0 v.related.written m.1 ∙ sym e.own;
        epoch = ap (λ (w : proto.Accepted). w.epoch) m.2;
        offset = ap (λ (w : proto.Accepted). w.offset) m.2 ∙ e.numbered;
        numbered = e.numbered;
        op = ap (λ (w : proto.Accepted). w.op) m.2;
      }

  pub written : Written (run s es)
  written = record { entries = origin }
