-- The calls of one replica over its lent store (paper 01, 'The log', 'Who is turned down'; shard.rs, ShardReplica): what each message
-- makes of `spec`'s replica, and what is promised of the lent columns. Definitions only.
use Rattle.std.specs.Prelude.{ℕ, ◌≡◌, Bool, true, false, not, cond, List, map, eqb, ltb}
use Rattle.std.proofs.Math.Option.{Option, none, some}
use Rattle.spec.specs.Lists.{every}
use Rattle.spec.specs.Refusals.{Refusal, number_of, undecodable, outside_domain, malformed, no_room}
use Rattle.spec.specs.Log.{Op, Entry, End, ShardReplica, last_offset, append, Stored, through, gap, stale, store, store_all, adopted}
use Rattle.spec.specs.Layout.Message as message
use Rattle.spec.specs.Node.Wire.{op_in_domain, entry_in_domain, stored_op, stored_entry}
use Rattle.spec.specs.Node.Shards.{Result, gives}
use Rattle.spec.specs.Node.Client.{overfull}
use Rattle.spec.specs.Node.Backup.{is_empty}
use Rattle.spec.specs.declared.Metric.{Metric}
use Rattle.log_store.specs.Store.{Store, Spares, replica_in}
use Rattle.log_store.specs.declared.replica.Outcome.{Outcome}
use Rattle.log_store.specs.declared.replica.Outcome.TheVariants.{Through, Gap, Stale, Full}
use Rattle.log_calls.specs.Fits.{lent_fits}
use Rattle.log_calls.specs.declared.Answer.{Answer}
use Rattle.log_calls.specs.declared.Answer.TheVariants as A
use Rattle.log_calls.specs.declared.Done.{Done}

-- an answer with the replica after
abbrev pub After : Type 0
After = Result Answer ShardReplica

-- a refusal's number, and the replica as it was
abbrev pub refused : Refusal → ShardReplica → After
refused x r = gives (A.Refused (number_of x)) r

-- 'Who is turned down', every call first: 21 where nothing was read, 22, 24
unfoldable pub tested : {M : Type 0} → Option M → (M → Bool) → Store → ShardReplica → (M → After) → After
tested none inside s r f = refused undecodable r
tested (some m) inside s r f = cond (not (inside m)) (refused outside_domain r) (cond (not (lent_fits s)) (refused malformed r) (f m))

-- shard.rs, append: a new write under the replica's epoch; 23 a full log
unfoldable pub append_to : ShardReplica → Op → After
append_to r op =
    let n = append r op in
    cond (overfull n) (refused no_room r) (gives (A.Appended (record { 0 = last_offset n })) n)

-- 23 on the wire: a Write's operation; neither its key nor its epoch is looked at
unfoldable pub append_lent : List ℕ → (own : ℕ) → Store → Metric → After
append_lent b own s m =
    tested (message.decode_write b) (λ w. op_in_domain w.op) s (replica_in own m s) (λ w. append_to (replica_in own m s) (stored_op w.op))

-- shard.rs, Stored: 30, 31 or 32 on the wire
abbrev pub stored_as : Stored → Answer
stored_as (through o) = A.Stored (record { 0 = o })
stored_as (gap o) = A.Gap (record { 0 = o })
stored_as (stale e) = A.StaleEpoch (record { 0 = e })

-- shard.rs, store: an entry sent by the primary of `epoch`; 23 if it would be number 1,025
unfoldable pub store_to : ShardReplica → (epoch : ℕ) → Entry → After
store_to r epoch e =
    let q = store r epoch e in
    cond (overfull q.replica) (refused no_room r) (gives (stored_as q.answer) q.replica)

-- 20 on the wire: one entry, stored under the message's epoch
unfoldable pub store_lent : List ℕ → (own : ℕ) → Store → Metric → After
store_lent b own s m =
    tested (message.decode_replicate b) (λ w. op_in_domain w.op) s (replica_in own m s)
    (λ w. store_to (replica_in own m s) w.epoch (record { epoch = w.epoch; offset = w.offset; op = stored_op w.op }))

-- node.rs, on_copy: entries one after the other; an empty batch is Stored at any epoch, and 23 stores nothing
unfoldable pub copy_to : ShardReplica → (epoch : ℕ) → List Entry → After
copy_to r epoch es =
    let n = store_all r epoch es in
    cond (is_empty es) (gives (A.Stored (record { 0 = last_offset r })) r)
    (cond (eqb epoch r.epoch) (cond (overfull n) (refused no_room r) (gives (A.Stored (record { 0 = last_offset n })) n))
    (gives (A.StaleEpoch (record { 0 = r.epoch })) r))

-- 22 on the wire: entries under their own epochs
unfoldable pub copy_lent : List ℕ → (own : ℕ) → Store → Metric → After
copy_lent b own s m =
    tested (message.decode_copy_shard b) (λ w. every entry_in_domain w.entries) s (replica_in own m s)
    (λ w. copy_to (replica_in own m s) w.epoch (map stored_entry w.entries))

-- shard.rs, adopt: an older epoch is StaleEpoch own; else the log is aligned, under the new epoch
unfoldable pub adopt_to : ShardReplica → (epoch end : ℕ) → List End → After
adopt_to r epoch end t =
    let n = adopted r epoch end t in
    cond (ltb epoch r.epoch) (gives (A.StaleEpoch (record { 0 = r.epoch })) r) (gives (A.Adopted (record { 0 = last_offset n })) n)

-- 21 on the wire: it has no vector
unfoldable pub adopt_lent : List ℕ → (own : ℕ) → Store → Metric → After
adopt_lent b own s m =
    tested (message.decode_new_epoch b) (λ w. true) s (replica_in own m s) (λ w. adopt_to (replica_in own m s) w.epoch w.end w.table)

-- what became of entries, as an answer; Full is 23
abbrev pub outcome_as : Outcome → Answer
outcome_as (Through o) = A.Stored o
outcome_as (Gap o) = A.Gap o
outcome_as (Stale e) = A.StaleEpoch e
outcome_as Full = A.Refused (number_of no_room)

-- a refusal, or StaleEpoch
abbrev pub turned_down : Answer → Bool
turned_down (A.Appended o) = false
turned_down (A.Stored o) = false
turned_down (A.Gap o) = false
turned_down (A.StaleEpoch e) = true
turned_down (A.Adopted o) = false
turned_down (A.Refused n) = true

-- the definition's answer, and the definition's replica, read from the store at exit under the epoch that is answered. Turned down,
-- every place of the lent columns and both counts are as they were, the free places too; so they are after a Gap, a repeated Stored and an
-- Adopted that cuts nothing. Else new entries are all that the log's columns differ by (`Spares`)
pub record Calls (call : Metric → After) (own : ℕ) (s t : Store) (d : Done) : Type 0 where
  pub same : (m : Metric) → gives d.answer (replica_in d.epoch.0 m t) ≡ call m
  pub kept : turned_down d.answer ≡ true → (t ≡ s) × (d.epoch.0 ≡ own)
  pub fits : lent_fits s ≡ true → lent_fits t ≡ true
  pub spares : Spares s t
