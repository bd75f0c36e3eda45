-- Laws of a batch that a primary sends, one for each way out. Assumes nothing.
use Prim.Native.Nat.{ℕ}
use mathlib.Core.Path.{◌≡◌, refl, sym, ap, ◌∙◌}
use mathlib.Core.Bool.{Bool, true, false, cond}
use mathlib.Core.List.{List, [], map}
use mathlib.Core.Option.{some}
use lib.Dec.{eqb}
use Rattle.spec.specs.Lists.{every}
use Rattle.spec.specs.Refusals.{number_of, undecodable, outside_domain, malformed, no_room}
use Rattle.spec.specs.Log.{Entry, ShardReplica, last_offset, store_all}
use Rattle.spec.specs.Layout.Message as message
use Rattle.spec.specs.Layout.Message.{Reply, reply_stored, reply_gap, reply_stale, reply_adopted}
use Rattle.spec.specs.Layout.Parts.{WireEntry}
use Rattle.spec.specs.Node.Wire.{entry_in_domain, stored_entry}
use Rattle.spec.specs.Node.Held.{Held}
use Rattle.spec.specs.Node.Shards.{Result, gives, with_replica}
use Rattle.spec.specs.Node.Client.{overfull}
use Rattle.spec.specs.Node.Backup.{BackupAnswer, replied, backup_refused, is_empty, copy_held}
use Rattle.spec.specs.declared.Epoch.{Epoch}
use Rattle.spec.specs.declared.Metric.{Metric}
use Rattle.spec.specs.declared.Role.TheVariants.{Backup}
use Rattle.wire_read.specs.Shown.{message_of, copy_part}
use Rattle.wire_read.specs.declared.CopyPart.{CopyPart}
use Rattle.wire_read.specs.declared.Message.TheVariants.{CopyShard}
use Rattle.wire_read.proofs.Decoded.{copy_decoded, copy_answered}
use Rattle.log_store.specs.Store.{Store, replica_in}
use Rattle.log_store.specs.declared.replica.Outcome.{Outcome}
use Rattle.log_store.specs.declared.replica.Outcome.TheVariants.{Through, Gap, Stale, Full}
use Rattle.log_arrive.specs.Parts.{entries_in}
use Rattle.log_arrive.specs.Arrivals.{answer_as, Copies}
use Rattle.log_arrive.proofs.Messages.{copy_part_lem, copy_entries}
use Rattle.log_calls.specs.Fits.{lent_fits}
use Rattle.log_calls.specs.Calls.{After, copy_to, copy_lent, outcome_as, turned_down, Calls}
use Rattle.log_calls.specs.declared.Answer.{Answer}
use Rattle.log_calls.specs.declared.Answer.TheVariants as A
use Rattle.log_calls.proofs.FitLaws.{fits-from}
use Rattle.log_calls.proofs.ArriveLaws.{down_as}
use Rattle.log_calls.proofs.Calls.{none_of, tested-none, tested_outside, tested_malformed, tested-there, calls-refused}

-- ---- an answer to the primary, as the replica's own

abbrev back_as : BackupAnswer → Answer
back_as (replied (reply_stored o)) = A.Stored (record { 0 = o })
back_as (replied (reply_gap o)) = A.Gap (record { 0 = o })
back_as (replied (reply_stale e)) = A.StaleEpoch (record { 0 = e })
back_as (replied (reply_adopted o)) = A.Adopted (record { 0 = o })
back_as (backup_refused x) = A.Refused (number_of x)

back-outcome : (a : Outcome) → outcome_as a ≡ back_as (answer_as a)
back-outcome (Through o) = refl
back-outcome (Gap o) = refl
back-outcome (Stale o) = refl
back-outcome Full = refl

abbrev back : Result BackupAnswer Held → After
back x = gives (back_as x.answer) x.after.replica

back_tests : (a b c : Bool) (w x y z : Result BackupAnswer Held)
    → back (cond a w (cond b (cond c x y) z)) ≡ cond a (back w) (cond b (cond c (back x) (back y)) (back z))
back_tests true b c w x y z = refl
back_tests false true true w x y z = refl
back_tests false true false w x y z = refl
back_tests false false c w x y z = refl

-- a shard that has this replica
abbrev held : ShardReplica → Held
held r = record { key = record { collection = []; shard = 0 }; replica = r; holders = []; role = Backup; own = false; peers = [] }

copy_is : (r : ShardReplica) (epoch : ℕ) (es : List Entry) → back (copy_held epoch es (held r)) ≡ copy_to r epoch es
unfolding copy_held copy_to
copy_is r epoch es =
    let n = store_all r epoch es in
    back_tests (is_empty es) (eqb epoch r.epoch) (overfull n) (gives (replied (reply_stored (last_offset r))) (held r))
    (gives (backup_refused no_room) (held r)) (gives (replied (reply_stored (last_offset n))) (with_replica (held r) n))
    (gives (replied (reply_stale r.epoch)) (held r))

-- ---- 22, by the message

module _ (b : List ℕ) (own : Epoch) (s : Store) (count stored : ℕ) where
  pub copies-unread : ((p : CopyPart) → message_of b ≡ CopyShard p → ⊥)
      → Calls (copy_lent b own.0 s) own.0 s s (record { answer = A.Refused 21; epoch = own; count = count; stored = stored })
  unfolding copy_lent
  copies-unread h =
      let n = none_of (message.decode_copy_shard b) (λ w e. h (copy_part w) (copy_answered b w e)) in
      calls-refused (copy_lent b own.0 s) own s undecodable count stored (λ m. tested-none _ _ _ _ _ n)

  module _ (p : CopyPart) (i : message_of b ≡ CopyShard p) where
    abbrev w : message.Copied
    w = (copy_decoded b p i).read

    read : message.decode_copy_shard b ≡ some w
    read = (copy_decoded b p i).decoded

    entries_is : entries_in b p.entries ≡ w.entries
    entries_is = copy_entries b p i w read

    part-is : p ≡ copy_part w
    part-is = copy_part_lem b p i w read

    pub copies_outside : every entry_in_domain (entries_in b p.entries) ≡ false
        → Calls (copy_lent b own.0 s) own.0 s s (record { answer = A.Refused 22; epoch = own; count = count; stored = stored })
    unfolding copy_lent
    copies_outside o =
        calls-refused (copy_lent b own.0 s) own s outside_domain count stored
        (λ m. tested_outside _ _ _ _ _ w read (sym (ap (every entry_in_domain) entries_is) ∙ o))

    module _ (o : every entry_in_domain (entries_in b p.entries) ≡ true) where
      pub copies_malformed : lent_fits s ≡ false
          → Calls (copy_lent b own.0 s) own.0 s s (record { answer = A.Refused 24; epoch = own; count = count; stored = stored })
      unfolding copy_lent
      copies_malformed f =
          calls-refused (copy_lent b own.0 s) own s malformed count stored
          (λ m. tested_malformed _ _ _ _ _ w read (sym (ap (every entry_in_domain) entries_is) ∙ o) f)

      abbrev batch : List Entry
      batch = map stored_entry (entries_in b p.entries)

      there : lent_fits s ≡ true → (m : Metric) → copy_lent b own.0 s m ≡ copy_to (replica_in own.0 m s) p.epoch.0 batch
      unfolding copy_lent
      there f m =
          tested-there _ _ _ _ _ w read (sym (ap (every entry_in_domain) entries_is) ∙ o) f
          ∙ ap (λ (x : List WireEntry). copy_to (replica_in own.0 m s) w.epoch (map stored_entry x)) (sym entries_is)
          ∙ ap (λ (z : CopyPart). copy_to (replica_in own.0 m s) z.epoch.0 batch) (sym part-is)

      pub copies-taken : (t : Store) (a : Outcome) (r : Answer) → lent_fits s ≡ true → r ≡ outcome_as a
          → Copies own.0 p.epoch.0 batch s t a
          → Calls (copy_lent b own.0 s) own.0 s t (record { answer = r; epoch = own; count = count; stored = stored })
      copies-taken t a r f e d = record {
        same = λ m.
            ap (λ (x : Answer). gives {S = ShardReplica} x (replica_in own.0 m t)) (e ∙ back-outcome a)
            ∙ ap back (d.same m (held (replica_in own.0 m s)) refl)
            ∙ copy_is (replica_in own.0 m s) p.epoch.0 batch ∙ sym (there f m);
        kept = λ k. (d.kept (down_as a (sym (ap turned_down e) ∙ k)), refl);
        fits = λ _. fits-from t d.sized d.well;
        spares = d.spares;
      }
