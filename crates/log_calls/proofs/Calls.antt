-- Laws of the checks that every call on a replica makes first. Assumes nothing.
use Prim.Native.Nat.{ℕ}
use mathlib.Core.Path.{◌≡◌, refl, sym}
use mathlib.Core.Bool.{Bool, true, false}
use mathlib.Core.Option.{Option, none, some}
use Rattle.spec.specs.Refusals.{Refusal, number_of, undecodable, outside_domain, malformed}
use Rattle.spec.specs.Log.{ShardReplica}
use Rattle.spec.specs.declared.Metric.{Metric}
use Rattle.spec.specs.declared.Epoch.{Epoch}
use Rattle.log_store.specs.Store.{Store, replica_in}
use Rattle.log_store.proofs.Spared.{spares_none}
use Rattle.log_calls.specs.Fits.{lent_fits}
use Rattle.log_calls.specs.Calls.{After, refused, tested, Calls}
use Rattle.log_calls.specs.declared.Answer.TheVariants as A

-- where nothing shows a value there is none
pub none_of : {M : Type 0} (o : Option M) → ((m : M) → o ≡ some m → ⊥) → o ≡ none
none_of none h = refl
none_of (some m) h = absurd (h m refl)

module _ {M : Type 0} (o : Option M) (inside : M → Bool) (s : Store) (r : ShardReplica) (f : M → After) where
  pub tested-none : o ≡ none → tested o inside s r f ≡ refused undecodable r
  unfolding tested
  tested-none e = rw e

  module _ (m : M) (e : o ≡ some m) where
    pub tested_outside : inside m ≡ false → tested o inside s r f ≡ refused outside_domain r
    unfolding tested
    tested_outside i = rw e (rw i)

    pub tested_malformed : inside m ≡ true → lent_fits s ≡ false → tested o inside s r f ≡ refused malformed r
    unfolding tested
    tested_malformed i w = rw e (rw i (rw w))

    pub tested-there : inside m ≡ true → lent_fits s ≡ true → tested o inside s r f ≡ f m
    unfolding tested
    tested-there i w = rw e (rw i (rw w))

-- a refused call leaves the store as it was
pub calls-refused : (call : Metric → After) (own : Epoch) (s : Store) (x : Refusal) (count stored : ℕ)
    → ((m : Metric) → call m ≡ refused x (replica_in own.0 m s))
    → Calls call own.0 s s (record { answer = A.Refused (number_of x); epoch = own; count = count; stored = stored })
calls-refused call own s x count stored e = record { same = λ m. sym (e m); kept = λ k. (refl, refl); fits = λ w. w; spares = spares_none s }
