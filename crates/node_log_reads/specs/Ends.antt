-- The epoch table of a log, in two lent columns (paper 01, 'The log', 'Who is turned down'; shard.rs, epoch_ends). Definitions only.
use Rattle.std.specs.Prelude.{ℕ, min, ◌≡◌, not, cond, List, ◌++◌, map, ltb, length, drop, Result, Ok, Err}
use Rattle.spec.specs.Log.{End, epoch_ends}
use Rattle.log_store.specs.Store.{Store, store_log}
use Rattle.log_calls.specs.Fits.{lent_fits}
use Rattle.node_log_reads.specs.declared.Refusal.{Refusal}
use Rattle.node_log_reads.specs.declared.Refusal.TheVariants.{Malformed, NoRoom}

-- 'Who is turned down': 24, then 23 if the lent output is short of the answer
unfoldable pub ends_lent : Store → (room : ℕ) → Result ℕ Refusal
ends_lent s room =
    let t = epoch_ends (store_log s) in
    cond (not (lent_fits s)) (Err Malformed)
    (cond (ltb room (length t)) (Err NoRoom) (Ok (length t)))

-- a column afterwards: what is told from its start on, the rest as it was; a refusal leaves all of it as it was
abbrev pub left_in : Result ℕ Refusal → (told before : List ℕ) → List ℕ
left_in (Ok n) told before = told ++ drop n before
left_in (Err x) told before = before

abbrev pub epoch_of : End → ℕ
epoch_of t = t.epoch

abbrev pub end_of : End → ℕ
end_of t = t.end

-- the answer, and both columns at exit
pub record EndsAnswered (s : Store) (froms froms' ends ends' : List ℕ) (r : Result ℕ Refusal) : Type 0 where
  pub answer : r ≡ ends_lent s (min (length froms) (length ends))
  pub epochs : froms' ≡ left_in r (map epoch_of (epoch_ends (store_log s))) froms
  pub offsets : ends' ≡ left_in r (map end_of (epoch_ends (store_log s))) ends
