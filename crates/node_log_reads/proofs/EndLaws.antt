-- Laws of an epoch table that is told in two columns. Assumes nothing.
use Prim.Native.Nat.{ℕ, suc, ◌≤◌, ◌<◌, min}
use mathlib.Core.Path.{◌≡◌, refl, sym, ap, ◌∙◌}
use mathlib.Core.Bool.{Bool, true, false, not, cond}
use mathlib.Core.List.{List, [], ◌∷◌, ◌++◌, map}
use native.Mathlib.Omega.{arith}
use borrow.Author.Tests.{lt-ltb, le-ltb}
use lib.Dec.{ltb}
use lib.ListN.{length, take, drop}
use lib.Seq.{length-take-le}
use Rattle.std.specs.Prelude.{Ok, Err}
use Rattle.spec.specs.Log.{End, epoch_ends}
use Rattle.log_store.specs.Align.{paired, table_of}
use Rattle.log_store.specs.Store.{Store, store_log}
use Rattle.log_calls.specs.Fits.{lent_fits}
use Rattle.node_log_reads.specs.Ends.{ends_lent, epoch_of, end_of, EndsAnswered}
use Rattle.node_log_reads.specs.declared.Refusal.TheVariants.{Malformed, NoRoom}

-- ---- the pairs of two columns, and the columns of the pairs

pairs-length : (es os : List ℕ) → length es ≡ length os → length (paired es os) ≡ length es
unfolding paired
pairs-length [] os h = refl
pairs-length (e ∷ es) [] h = absurd (omega arith)
pairs-length (e ∷ es) (o ∷ os) h = ap suc (pairs-length es os (omega arith))

pairs-epochs : (es os : List ℕ) → length es ≡ length os → map epoch_of (paired es os) ≡ es
unfolding paired
pairs-epochs [] os h = refl
pairs-epochs (e ∷ es) [] h = absurd (omega arith)
pairs-epochs (e ∷ es) (o ∷ os) h = ap (λ (l : List ℕ). e ∷ l) (pairs-epochs es os (omega arith))

pairs-ends : (es os : List ℕ) → length es ≡ length os → map end_of (paired es os) ≡ os
unfolding paired
pairs-ends [] [] h = refl
pairs-ends [] (o ∷ os) h = absurd (omega arith)
pairs-ends (e ∷ es) [] h = absurd (omega arith)
pairs-ends (e ∷ es) (o ∷ os) h = ap (λ (l : List ℕ). o ∷ l) (pairs-ends es os (omega arith))

-- ---- what the call answers, one law for each way out

module _ (s : Store) (froms ends : List ℕ) where
  abbrev table : List End
  table = epoch_ends (store_log s)

  abbrev room : ℕ
  room = min (length froms) (length ends)

  ends_by : (a b : Bool) → lent_fits s ≡ a → ltb room (length table) ≡ b
      → ends_lent s room ≡ cond (not a) (Err Malformed) (cond b (Err NoRoom) (Ok (length table)))
  unfolding ends_lent
  ends_by a b e h = rw (e, h)

  pub ends_malformed : lent_fits s ≡ false → EndsAnswered s froms froms ends ends (Err Malformed)
  ends_malformed e = record { answer = sym (ends_by false (ltb room (length table)) e refl); epochs = refl; offsets = refl }

  -- the table in the two columns of a store that is not malformed
  module _ (f : lent_fits s ≡ true) (each last : List ℕ) (n : ℕ) (he : n ≤ length each) (hl : n ≤ length last)
      (t : table_of each last n ≡ table) where
    same : length (take n each) ≡ length (take n last)
    same = length-take-le n each he ∙ sym (length-take-le n last hl)

    pub table-length : length table ≡ n
    unfolding table_of
    table-length = ap length (sym t) ∙ pairs-length (take n each) (take n last) same ∙ length-take-le n each he

    pub ends-short : room < n → EndsAnswered s froms froms ends ends (Err NoRoom)
    ends-short h = record { answer = sym (ends_by true true f (lt-ltb room (length table) (rw table-length h))); epochs = refl; offsets = refl }

    pub ends-told : n ≤ length froms → n ≤ length ends → (froms' ends' : List ℕ) → froms' ≡ take n each ++ drop n froms → ends' ≡ take n last ++ drop n ends
        → EndsAnswered s froms froms' ends ends' (Ok n)
    unfolding table_of
    ends-told hf ho froms' ends' p q = record {
      answer = ap Ok (sym table-length) ∙ sym (ends_by true false f (le-ltb room (length table) (rw table-length (omega arith))));
      epochs = p ∙ ap (λ (l : List ℕ). l ++ drop n froms) (sym (pairs-epochs (take n each) (take n last) same) ∙ ap (map epoch_of) t);
      offsets = q ∙ ap (λ (l : List ℕ). l ++ drop n ends) (sym (pairs-ends (take n each) (take n last) same) ∙ ap (map end_of) t);
    }
