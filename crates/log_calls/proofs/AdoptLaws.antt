-- Laws of a new epoch, one for each way out. Assumes nothing.
use Prim.Native.Nat.{ℕ, ◌<◌, ◌≤◌}
use mathlib.Core.Path.{◌≡◌, refl, sym, ap, ◌∙◌}
use mathlib.Core.Bool.{Bool, true, false, cond}
use mathlib.Core.List.{List}
use mathlib.Core.Option.{some}
use lib.Dec.{ltb}
use borrow.Author.Tests.{lt-ltb, le-ltb}
use Rattle.spec.specs.Refusals.{undecodable, malformed}
use Rattle.spec.specs.Log.{End, ShardReplica, last_offset, adopted}
use Rattle.spec.specs.Layout.Message as message
use Rattle.spec.specs.Node.Shards.{gives}
use Rattle.spec.specs.declared.Epoch.{Epoch}
use Rattle.spec.specs.declared.Metric.{Metric}
use Rattle.spec_laws.proofs.Lists.{not_both}
use Rattle.wire_read.specs.Shown.{message_of, new_epoch_part}
use Rattle.wire_read.specs.declared.NewEpochPart.{NewEpochPart}
use Rattle.wire_read.specs.declared.Message.TheVariants.{NewEpoch}
use Rattle.wire_read.proofs.Decoded.{new_epoch_decoded, new_epoch_answered}
use Rattle.log_store.specs.Store.{Store, replica_in}
use Rattle.log_store.specs.Align.{Aligned}
use Rattle.log_store.specs.declared.replica.Adoption.{Adoption}
use Rattle.log_arrive.specs.Parts.{table_in}
use Rattle.log_arrive.proofs.Messages.{new_epoch_part_lem, new_epoch_table}
use Rattle.log_arrive.proofs.Stores.{last-is}
use Rattle.log_store.proofs.Spared.{spares_none}
use Rattle.log_calls.specs.Fits.{lent_fits}
use Rattle.log_calls.specs.Calls.{adopt_to, adopt_lent, Calls}
use Rattle.log_calls.specs.declared.Answer.TheVariants as A
use Rattle.log_calls.proofs.FitLaws.{fits-from}
use Rattle.log_calls.proofs.Calls.{none_of, tested-none, tested_malformed, tested-there, calls-refused}

-- the definition by the two epochs
adopt_by : (own : ℕ) (m : Metric) (s : Store) (epoch end : ℕ) (t : List End) (b : Bool) → ltb epoch own ≡ b
    → adopt_to (replica_in own m s) epoch end t ≡ cond b (gives (A.StaleEpoch (record { 0 = own })) (replica_in own m s))
    (gives (A.Adopted (record { 0 = last_offset (adopted (replica_in own m s) epoch end t) })) (adopted (replica_in own m s) epoch end t))
unfolding adopt_to replica_in
adopt_by own m s epoch end t b e =
    ap (λ (x : Bool). cond x (gives (A.StaleEpoch (record { 0 = own })) (replica_in own m s))
    (gives (A.Adopted (record { 0 = last_offset (adopted (replica_in own m s) epoch end t) })) (adopted (replica_in own m s) epoch end t))) e

module _ (b : List ℕ) (own : Epoch) (s : Store) (count stored : ℕ) where
  pub adopts_unread : ((p : NewEpochPart) → message_of b ≡ NewEpoch p → ⊥)
      → Calls (adopt_lent b own.0 s) own.0 s s (record { answer = A.Refused 21; epoch = own; count = count; stored = stored })
  unfolding adopt_lent
  adopts_unread h =
      let n = none_of (message.decode_new_epoch b) (λ w e. h (new_epoch_part w) (new_epoch_answered b w e)) in
      calls-refused (adopt_lent b own.0 s) own s undecodable count stored (λ m. tested-none _ _ _ _ _ n)

  module _ (p : NewEpochPart) (i : message_of b ≡ NewEpoch p) where
    abbrev w : message.NewEpoch
    w = (new_epoch_decoded b p i).read

    read : message.decode_new_epoch b ≡ some w
    read = (new_epoch_decoded b p i).decoded

    pub adopts_malformed : lent_fits s ≡ false
        → Calls (adopt_lent b own.0 s) own.0 s s (record { answer = A.Refused 24; epoch = own; count = count; stored = stored })
    unfolding adopt_lent
    adopts_malformed f =
        calls-refused (adopt_lent b own.0 s) own s malformed count stored (λ m. tested_malformed _ _ _ _ _ w read refl f)

    there : lent_fits s ≡ true → (m : Metric)
        → adopt_lent b own.0 s m ≡ adopt_to (replica_in own.0 m s) p.epoch.0 p.end.0 (table_in b p.table)
    unfolding adopt_lent
    there f m =
        tested-there _ _ _ _ _ w read refl f
        ∙ ap (λ (x : List End). adopt_to (replica_in own.0 m s) w.epoch w.end x) (sym (new_epoch_table b p i w read))
        ∙ ap (λ (z : NewEpochPart). adopt_to (replica_in own.0 m s) z.epoch.0 z.end.0 (table_in b p.table)) (sym (new_epoch_part_lem b p i w read))

    pub adopts_older : lent_fits s ≡ true → p.epoch.0 < own.0
        → Calls (adopt_lent b own.0 s) own.0 s s (record { answer = A.StaleEpoch own; epoch = own; count = count; stored = stored })
    adopts_older f l = record {
      same = λ m. sym (there f m ∙ adopt_by own.0 m s p.epoch.0 p.end.0 (table_in b p.table) true (lt-ltb _ _ l));
      kept = λ k. (refl, refl);
      fits = λ x. x;
      spares = spares_none s;
    }

    pub adopts_taken : (t : Store) (a : Adoption) → lent_fits s ≡ true → own.0 ≤ p.epoch.0
        → Aligned own.0 p.epoch.0 p.end.0 (table_in b p.table) s t a
        → Calls (adopt_lent b own.0 s) own.0 s t (record { answer = A.Adopted (record { 0 = t.count }); epoch = p.epoch; count = count; stored = stored })
    adopts_taken t a f l d = record {
      same = λ m.
          let r = replica_in own.0 m s in
          let n = adopted r p.epoch.0 p.end.0 (table_in b p.table) in
          let o : ltb p.epoch.0 own.0 ≡ false = le-ltb _ _ l in
          let q : replica_in p.epoch.0 m t ≡ n =
          ap (λ (x : Bool). replica_in (cond x own.0 p.epoch.0) m t) (sym o) ∙ d.replica m ∙ ap (λ (x : Bool). cond x r n) o in
          ap (λ (k : ℕ). gives {S = ShardReplica} (A.Adopted (record { 0 = k })) (replica_in p.epoch.0 m t)) (sym (last-is p.epoch.0 m t))
          ∙ ap (λ (x : ShardReplica). gives {S = ShardReplica} (A.Adopted (record { 0 = last_offset x })) x) q
          ∙ sym (there f m ∙ adopt_by own.0 m s p.epoch.0 p.end.0 (table_in b p.table) false o);
      kept = λ k. not_both false k refl;
      fits = λ _. fits-from t d.sized d.well;
      spares = d.spares;
    }
