-- The count of refused calls, by its tests. Assumes nothing.
use Prim.Native.Nat.{ℕ, ◌≤◌, ◌<◌}
use mathlib.Core.Path.{◌≡◌, refl, ap}
use mathlib.Core.List.{List}
use native.Mathlib.Omega.{arith}
use lib.ListN.{length}
use lib.Seq.{sets}
use borrow.Author.Tests.{eq-eqb, ne_eqb, le-leb, lt-leb}
use Rattle.std.specs.Prelude.{true, false, Result, Ok, Err, is_ok}
use Rattle.spec.specs.Layout.Format.{bytes_of, number_at}
use Rattle.spec_laws.proofs.Lists.{not_both}
use Rattle.node_refused.specs.Count.{bumped}
use Rattle.calls_parts.specs.declared.refusal.Refusal.{Refusal}
use Rattle.calls_parts.specs.declared.refusal.Refusal.TheVariants.{
  UnknownShard,
  NotPrimary,
  NoLease,
  TooFewInSync,
  Undecodable,
  OutsideDomain,
  NoRoom,
  Malformed,
  LastEpoch,
  NoWorker,
}
use Rattle.calls_parts.specs.Refusals.{code_of, number_of}
use Rattle.calls_client_out.specs.Count.{count_put}

-- no refusal has the number 0
code_some : (why : Refusal) → code_of why ≡ 0 → ⊥
code_some UnknownShard e = absurd (omega (arith, e))
code_some NotPrimary e = absurd (omega (arith, e))
code_some NoLease e = absurd (omega (arith, e))
code_some TooFewInSync e = absurd (omega (arith, e))
code_some Undecodable e = absurd (omega (arith, e))
code_some OutsideDomain e = absurd (omega (arith, e))
code_some NoRoom e = absurd (omega (arith, e))
code_some Malformed e = absurd (omega (arith, e))
code_some LastEpoch e = absurd (omega (arith, e))
code_some NoWorker e = absurd (omega (arith, e))

pub said_done : (said : Result (Unit {0}) Refusal) → is_ok said ≡ true → number_of said ≡ 0
said_done (Ok done) e = refl
said_done (Err why) e = not_both false e refl

pub said_refused : (said : Result (Unit {0}) Refusal) → is_ok said ≡ false → number_of said ≡ 0 → ⊥
said_refused (Ok done) e z = not_both true refl e
said_refused (Err why) e z = code_some why z

module _ (c : List ℕ) (r : ℕ) where
  pub count-done : r ≡ 0 → c ≡ count_put c r
  unfolding count_put
  count-done e = rw (eq-eqb r 0 e) refl

  module _ (ne : r ≡ 0 → ⊥) where
    pub count-short : length c < 4 → c ≡ count_put c r
    unfolding count_put
    count-short h = rw (ne_eqb r 0 ne) (rw (lt-leb 4 (length c) h) refl)

    pub count-more : 4 ≤ length c → (n : ℕ) → n ≡ bumped (number_at 4 c 0) → sets c 0 (bytes_of 4 n) ≡ count_put c r
    unfolding count_put
    count-more h n e = rw (ne_eqb r 0 ne) (rw (le-leb 4 (length c) h) (ap (λ (x : ℕ). sets c 0 (bytes_of 4 x)) e))
