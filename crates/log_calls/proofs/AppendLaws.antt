-- Laws of an append, one for each way out. Assumes nothing.
use Prim.Native.Nat.{ℕ, ◌+◌, ◌<◌}
use mathlib.Core.Path.{◌≡◌, refl, sym, ap, ◌∙◌}
use mathlib.Core.Bool.{Bool, true, false, cond}
use mathlib.Core.List.{List}
use mathlib.Core.Option.{some}
use native.Mathlib.Omega.{arith}
use borrow.Author.Tests.{lt-ltb, le-ltb}
use Rattle.spec.specs.Refusals.{undecodable, outside_domain, malformed, no_room}
use Rattle.spec.specs.Log.{Op, ShardReplica, last_offset, push, append}
use Rattle.spec.specs.Layout.Message as message
use Rattle.spec.specs.Layout.Parts.{WireOp}
use Rattle.spec.specs.Node.Wire.{op_in_domain, stored_op}
use Rattle.spec.specs.Node.Shards.{gives}
use Rattle.spec.specs.Node.Client.{overfull}
use Rattle.spec.specs.declared.Epoch.{Epoch}
use Rattle.spec.specs.declared.Metric.{Metric}
use Rattle.spec_laws.proofs.Lists.{not_both}
use Rattle.spec_laws.proofs.Log.Store.{push-length}
use Rattle.wire_read.specs.Shown.{message_of, write_part}
use Rattle.wire_read.specs.declared.WritePart.{WritePart}
use Rattle.wire_read.specs.declared.Message.TheVariants.{Write}
use Rattle.wire_read.proofs.Decoded.{write_decoded, write-answered}
use Rattle.log_store.specs.Store.{Store, Pushed, replica_in}
use Rattle.log_arrive.specs.Parts.{op_in}
use Rattle.log_arrive.proofs.Messages.{write-op}
use Rattle.log_arrive.proofs.Stores.{last-is}
use Rattle.log_calls.specs.Fits.{lent_fits}
use Rattle.log_calls.specs.Calls.{refused, append_to, append_lent, Calls}
use Rattle.log_calls.specs.declared.Answer.TheVariants as A
use Rattle.log_calls.proofs.FitLaws.{fits-from}
use Rattle.log_calls.proofs.Calls.{none_of, tested-none, tested_outside, tested_malformed, tested-there, calls-refused}

-- an append makes the log one longer
longer : (own : ℕ) (m : Metric) (s : Store) (op : Op) → last_offset (append (replica_in own m s) op) ≡ s.count + 1
unfolding append
longer own m s op =
    push-length (replica_in own m s) (record { epoch = (replica_in own m s).epoch; offset = last_offset (replica_in own m s) + 1; op = op })
    ∙ ap (λ (n : ℕ). n + 1) (last-is own m s)

-- 23 at 1,024 entries
append-full : (own : ℕ) (m : Metric) (s : Store) (op : Op) → s.count ≡ 1024 → append_to (replica_in own m s) op ≡ refused no_room (replica_in own m s)
unfolding append_to
append-full own m s op e =
    let l = longer own m s op in
    let o : overfull (append (replica_in own m s) op) ≡ true = lt-ltb 1024 (last_offset (append (replica_in own m s) op)) (omega arith) in
    ap (λ (b : Bool). cond b (refused no_room (replica_in own m s)) (gives (A.Appended (record { 0 = last_offset (append (replica_in own m s) op) })) (append (replica_in own m s) op))) o

-- the entry pushed at the next offset under the own epoch is the append
module _ (own : ℕ) (m : Metric) (s t : Store) (op : Op) (room : s.count < 1024)
    (p : Pushed s t (record { epoch = own; offset = s.count + 1; op = op })) where
  pushed_is : replica_in own m t ≡ append (replica_in own m s) op
  unfolding replica_in append
  pushed_is =
      p.replica own m
      ∙ ap (λ (n : ℕ). push (replica_in own m s) (record { epoch = own; offset = n + 1; op = op })) (sym (last-is own m s))

  append-there : gives (A.Appended (record { 0 = s.count + 1 })) (replica_in own m t) ≡ append_to (replica_in own m s) op
  unfolding append_to
  append-there =
      let l = longer own m s op in
      let n = append (replica_in own m s) op in
      let o : overfull n ≡ false = le-ltb 1024 (last_offset n) (omega arith) in
      ap (λ (x : ℕ). gives {S = ShardReplica} (A.Appended (record { 0 = x })) (replica_in own m t)) (sym l)
      ∙ ap (λ (r : ShardReplica). gives {S = ShardReplica} (A.Appended (record { 0 = last_offset n })) r) pushed_is
      ∙ sym (ap (λ (b : Bool). cond b (refused no_room (replica_in own m s)) (gives (A.Appended (record { 0 = last_offset n })) n)) o)

-- ---- by the message

module _ (b : List ℕ) (own : Epoch) (s : Store) (count stored : ℕ) where
  pub appends_unread : ((p : WritePart) → message_of b ≡ Write p → ⊥)
      → Calls (append_lent b own.0 s) own.0 s s (record { answer = A.Refused 21; epoch = own; count = count; stored = stored })
  unfolding append_lent
  appends_unread h =
      let n = none_of (message.decode_write b) (λ w e. h (write_part w) (write-answered b w e)) in
      calls-refused (append_lent b own.0 s) own s undecodable count stored (λ m. tested-none _ _ _ _ _ n)

  module _ (p : WritePart) (i : message_of b ≡ Write p) where
    -- what was read
    abbrev w : message.Write
    w = (write_decoded b p i).read

    read : message.decode_write b ≡ some w
    read = (write_decoded b p i).decoded

    op-is : op_in b p.op ≡ w.op
    op-is = write-op b p i w read

    pub appends_outside : op_in_domain (op_in b p.op) ≡ false
        → Calls (append_lent b own.0 s) own.0 s s (record { answer = A.Refused 22; epoch = own; count = count; stored = stored })
    unfolding append_lent
    appends_outside o =
        calls-refused (append_lent b own.0 s) own s outside_domain count stored
        (λ m. tested_outside _ _ _ _ _ w read (sym (ap op_in_domain op-is) ∙ o))

    module _ (o : op_in_domain (op_in b p.op) ≡ true) where
      pub appends_malformed : lent_fits s ≡ false
          → Calls (append_lent b own.0 s) own.0 s s (record { answer = A.Refused 24; epoch = own; count = count; stored = stored })
      unfolding append_lent
      appends_malformed f =
          calls-refused (append_lent b own.0 s) own s malformed count stored
          (λ m. tested_malformed _ _ _ _ _ w read (sym (ap op_in_domain op-is) ∙ o) f)

      there : lent_fits s ≡ true → (m : Metric) → append_lent b own.0 s m ≡ append_to (replica_in own.0 m s) (stored_op (op_in b p.op))
      unfolding append_lent
      there f m =
          tested-there _ _ _ _ _ w read (sym (ap op_in_domain op-is) ∙ o) f
          ∙ ap (λ (x : WireOp). append_to (replica_in own.0 m s) (stored_op x)) (sym op-is)

      pub appends_full : lent_fits s ≡ true → s.count ≡ 1024
          → Calls (append_lent b own.0 s) own.0 s s (record { answer = A.Refused 23; epoch = own; count = count; stored = stored })
      appends_full f e =
          calls-refused (append_lent b own.0 s) own s no_room count stored
          (λ m. there f m ∙ append-full own.0 m s (stored_op (op_in b p.op)) e)

      pub appends_pushed : (t : Store) (op : Op) → lent_fits s ≡ true → s.count < 1024 → op ≡ stored_op (op_in b p.op)
          → Pushed s t (record { epoch = own.0; offset = s.count + 1; op = op })
          → Calls (append_lent b own.0 s) own.0 s t (record { answer = A.Appended (record { 0 = s.count + 1 }); epoch = own; count = count; stored = stored })
      appends_pushed t op f l q d = record {
        same = λ m. append-there own.0 m s t op l d ∙ ap (append_to (replica_in own.0 m s)) q ∙ sym (there f m);
        kept = λ k. not_both false k refl;
        fits = λ _. fits-from t d.sized d.well;
        spares = d.spares;
      }
