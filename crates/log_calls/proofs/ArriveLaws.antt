-- Laws of entries that a primary sends, one for each way out. Assumes nothing.
use Prim.Native.Nat.{ℕ}
use mathlib.Core.Path.{◌≡◌, refl, sym, ap, ◌∙◌}
use mathlib.Core.Bool.{Bool, true, false, cond}
use mathlib.Core.List.{List}
use mathlib.Core.Option.{none, some}
use Rattle.spec.specs.Refusals.{undecodable, outside_domain, malformed, no_room}
use Rattle.spec.specs.Log.{Entry, ShardReplica, Stored, StoreResult, store}
use Rattle.spec.specs.Layout.Message as message
use Rattle.spec.specs.Layout.Parts.{WireOp}
use Rattle.spec.specs.Node.Wire.{op_in_domain, stored_op}
use Rattle.spec.specs.Node.Shards.{gives}
use Rattle.spec.specs.Node.Client.{overfull}
use Rattle.spec.specs.declared.Epoch.{Epoch}
use Rattle.spec.specs.declared.Metric.{Metric}
use Rattle.spec_laws.proofs.Lists.{none_some, some_same}
use Rattle.wire_read.specs.Shown.{message_of, replicate_part}
use Rattle.wire_read.specs.declared.ReplicatePart.{ReplicatePart}
use Rattle.wire_read.specs.declared.Message.TheVariants.{Replicate}
use Rattle.wire_read.proofs.Decoded.{replicate_decoded, replicate_answered}
use Rattle.log_store.specs.Store.{Store, answer_of, replica_in}
use Rattle.log_store.specs.declared.replica.Outcome.{Outcome}
use Rattle.log_store.specs.declared.replica.Outcome.TheVariants.{Through, Gap, Stale, Full}
use Rattle.log_arrive.specs.Parts.{op_in}
use Rattle.log_arrive.specs.Arrivals.{Arrives}
use Rattle.log_arrive.specs.Arrivals as arrivals
use Rattle.log_arrive.proofs.Messages.{replicate_part_lem, replicate_op}
use Rattle.log_calls.specs.Fits.{lent_fits}
use Rattle.log_calls.specs.Calls.{refused, stored_as, store_to, store_lent, outcome_as, turned_down, Calls}
use Rattle.log_calls.specs.declared.Answer.{Answer}
use Rattle.log_calls.specs.declared.Answer.TheVariants as A
use Rattle.log_calls.proofs.FitLaws.{fits-from}
use Rattle.log_calls.proofs.Calls.{none_of, tested-none, tested_outside, tested_malformed, tested-there, calls-refused}

-- what became of an entry, told as the definition does
outcome_as_lem : (a : Outcome) (b : Bool) (x : Stored) (r n : ShardReplica) → answer_of a ≡ cond b none (some x)
    → gives (outcome_as a) (cond b r n) ≡ cond b (refused no_room r) (gives (stored_as x) n)
outcome_as_lem (Through o) true x r n e = none_some (sym e)
outcome_as_lem (Through o) false x r n e = ap (λ (v : Stored). gives {S = ShardReplica} (stored_as v) n) (some_same e)
outcome_as_lem (Gap o) true x r n e = none_some (sym e)
outcome_as_lem (Gap o) false x r n e = ap (λ (v : Stored). gives {S = ShardReplica} (stored_as v) n) (some_same e)
outcome_as_lem (Stale o) true x r n e = none_some (sym e)
outcome_as_lem (Stale o) false x r n e = ap (λ (v : Stored). gives {S = ShardReplica} (stored_as v) n) (some_same e)
outcome_as_lem Full true x r n e = refl
outcome_as_lem Full false x r n e = none_some e

pub down_as : (a : Outcome) → turned_down (outcome_as a) ≡ true → arrivals.turned_down a ≡ true
down_as (Through o) e = e
down_as (Gap o) e = e
down_as (Stale o) e = e
down_as Full e = e

-- ---- 20, by the message

module _ (b : List ℕ) (own : Epoch) (s : Store) (count stored : ℕ) where
  pub stores-unread : ((p : ReplicatePart) → message_of b ≡ Replicate p → ⊥)
      → Calls (store_lent b own.0 s) own.0 s s (record { answer = A.Refused 21; epoch = own; count = count; stored = stored })
  unfolding store_lent
  stores-unread h =
      let n = none_of (message.decode_replicate b) (λ w e. h (replicate_part w) (replicate_answered b w e)) in
      calls-refused (store_lent b own.0 s) own s undecodable count stored (λ m. tested-none _ _ _ _ _ n)

  module _ (p : ReplicatePart) (i : message_of b ≡ Replicate p) where
    abbrev w : message.Replicated
    w = (replicate_decoded b p i).read

    read : message.decode_replicate b ≡ some w
    read = (replicate_decoded b p i).decoded

    op-is : op_in b p.op ≡ w.op
    op-is = replicate_op b p i w read

    part-is : p ≡ replicate_part w
    part-is = replicate_part_lem b p i w read

    pub stores_outside : op_in_domain (op_in b p.op) ≡ false
        → Calls (store_lent b own.0 s) own.0 s s (record { answer = A.Refused 22; epoch = own; count = count; stored = stored })
    unfolding store_lent
    stores_outside o =
        calls-refused (store_lent b own.0 s) own s outside_domain count stored
        (λ m. tested_outside _ _ _ _ _ w read (sym (ap op_in_domain op-is) ∙ o))

    module _ (o : op_in_domain (op_in b p.op) ≡ true) where
      pub stores_malformed : lent_fits s ≡ false
          → Calls (store_lent b own.0 s) own.0 s s (record { answer = A.Refused 24; epoch = own; count = count; stored = stored })
      unfolding store_lent
      stores_malformed f =
          calls-refused (store_lent b own.0 s) own s malformed count stored
          (λ m. tested_malformed _ _ _ _ _ w read (sym (ap op_in_domain op-is) ∙ o) f)

      abbrev sent : Entry
      sent = record { epoch = p.epoch.0; offset = p.offset.0; op = stored_op (op_in b p.op) }

      there : lent_fits s ≡ true → (m : Metric) → store_lent b own.0 s m ≡ store_to (replica_in own.0 m s) p.epoch.0 sent
      unfolding store_lent
      there f m =
          tested-there _ _ _ _ _ w read (sym (ap op_in_domain op-is) ∙ o) f
          ∙ ap (λ (x : WireOp). store_to (replica_in own.0 m s) w.epoch (record { epoch = w.epoch; offset = w.offset; op = stored_op x })) (sym op-is)
          ∙ ap (λ (z : ReplicatePart). store_to (replica_in own.0 m s) z.epoch.0 (record { epoch = z.epoch.0; offset = z.offset.0; op = stored_op (op_in b p.op) })) (sym part-is)

      abbrev taken : Metric → StoreResult
      taken m = store (replica_in own.0 m s) p.epoch.0 sent

      pub stores-taken : (t : Store) (a : Outcome) (r : Answer) → lent_fits s ≡ true → r ≡ outcome_as a
          → Arrives own.0 p.epoch.0 sent s t a
          → Calls (store_lent b own.0 s) own.0 s t (record { answer = r; epoch = own; count = count; stored = stored })
      unfolding store_to
      stores-taken t a r f e d = record {
        same = λ m.
            ap (λ (x : Answer). gives {S = ShardReplica} x (replica_in own.0 m t)) e
            ∙ ap (λ (x : ShardReplica). gives {S = ShardReplica} (outcome_as a) x) (d.arrived.replica m)
            ∙ outcome_as_lem a (overfull (taken m).replica) (taken m).answer (replica_in own.0 m s) (taken m).replica (d.arrived.answer m) ∙ sym (there f m);
        kept = λ k. (d.kept (down_as a (sym (ap turned_down e) ∙ k)), refl);
        fits = λ _. fits-from t d.arrived.sized d.arrived.well;
        spares = d.arrived.spares;
      }
