-- Laws of the epoch table of a NewEpoch: it is that of the first entries of the log. Assumes nothing.
use Prim.Native.Nat.{ℕ, ◌+◌, ◌*◌, ◌≤◌, ◌<◌, min}
use mathlib.Core.Path.{◌≡◌, refl, sym, ap, ◌∙◌}
use mathlib.Core.Bool.{Bool, true, false}
use mathlib.Core.List.{List, [], ◌∷◌, map}
use mathlib.Core.Option.{some}
use native.Mathlib.Omega.{arith}
use borrow.Author.Tests.{leb-true, leb-false}
use lib.Dec.{leb}
use lib.ListN.{length, take, set}
use lib.Seq.{sets, take_all}
use Rattle.spec.specs.Log.{End, epoch_ends}
use Rattle.spec.specs.Layout.Format.{◌▸◌, bytes_of}
use Rattle.spec.specs.Layout.Parts.{u64, table_f, metric_f, metric_code, end_value}
use Rattle.spec.specs.Layout.Message.{encode_new_epoch}
use Rattle.spec.specs.Node.Worker.{message_bytes, new_epoch_message}
use Rattle.spec.specs.declared.Metric.{Metric}
use Rattle.spec.specs.declared.Epoch.{Epoch}
use Rattle.spec.specs.declared.Offset.{Offset}
use Rattle.wire_write.specs.Tables.{ends_given, new_epoch_given, table_bytes}
use Rattle.wire_write.proofs.Writes.{head_bytes, message-length, message-put}
use Rattle.wire_write.proofs.Pairs.{new_epoch_put, new_epoch_length}
use Rattle.log_store.specs.Align.{paired, table_of, EndsOf}
use Rattle.log_store.specs.View.{Columns, columns, entry_of, log_of}
use Rattle.log_store.proofs.Columns.{log-length}
use Rattle.log_store.proofs.Firsts.{firsts-take}
use Rattle.node_send.specs.Aligning.{Aligns}
use Rattle.node_send.specs.Requested.{Requested}
use Rattle.node_send.specs.declared.Request.{Request}

-- the first `end` entries of a log, of which it may have fewer
log-first : (c : Columns) (end count : ℕ) → take end (log_of c count) ≡ log_of c (min end count)
unfolding log_of
log-first c end count = go (leb end count) refl
  where
    go : (b : Bool) → leb end count ≡ b → take end (log_of c count) ≡ log_of c (min end count)
    go true e =
        let h : end ≤ count = leb-true _ _ e in
        let m : min end count ≡ end = omega arith in
        firsts-take (entry_of c) count end h ∙ ap (log_of c) (sym m)
    go false e =
        let h : count < end = leb-false _ _ e in
        let m : min end count ≡ count = omega arith in
        take_all end (log_of c count) (omega (arith, log-length c count)) ∙ ap (log_of c) (sym m)

-- the pairs of two columns, in both crates' words
paired-given : (es os : List ℕ) → paired es os ≡ ends_given es os
unfolding paired
paired-given [] os = refl
paired-given (e ∷ es) [] = refl
paired-given (e ∷ es) (o ∷ os) = ap (λ (t : List End). record { epoch = e; end = o } ∷ t) (paired-given es os)

module _ (name : List ℕ) (shard : ℕ) (epoch : Epoch) (end : Offset) (metric : Metric) where
  -- a request that tells the table tells the log
  pub aligns : (es os : List ℕ) (count n pairs k : ℕ) (froms ends before after : List ℕ) (r : Request) → n ≡ min end.0 count → k ≡ pairs
      → EndsOf es os n (table_of froms ends pairs)
      → Requested (some (new_epoch_message (new_epoch_given name shard epoch end (take k froms) (take k ends) metric))) before after r
      → Aligns name shard epoch.0 end.0 es os count metric before after r
  unfolding table_of
  aligns es os count n pairs k froms ends before after r m e t q is cs ls fs =
      let c = columns es os is cs ls fs in
      let z : ends_given (take k froms) (take k ends) ≡ epoch_ends (take end.0 (log_of c count)) =
      ap (λ (j : ℕ). ends_given (take j froms) (take j ends)) e
      ∙ sym (paired-given (take pairs froms) (take pairs ends)) ∙ t is cs ls fs ∙ ap (λ (j : ℕ). epoch_ends (log_of c j)) m
      ∙ ap epoch_ends (sym (log-first c end.0 count)) in
      rw z at q

  -- ---- 21

  module _ (froms ends : List ℕ) (same : length froms ≡ length ends) (fits : length name ≤ 32) where
    pub table-put : (l : List ℕ)
        → set (sets (sets (sets (sets l 0 (head_bytes 0x21 name shard epoch.0)) 46 (bytes_of 8 end.0)) 54 (bytes_of 2 (length froms))) 56 (table_bytes froms ends))
        (56 + 16 * length froms) (metric_code metric)
        ≡ sets l 0 (message_bytes (new_epoch_message (new_epoch_given name shard epoch end froms ends metric)))
    unfolding message_bytes encode_new_epoch
    table-put l =
        new_epoch_put (sets l 0 (head_bytes 0x21 name shard epoch.0)) end.0 froms ends (metric_code metric) same
        ∙ message-put 0x21 name shard epoch.0 (u64 ▸ (table_f ▸ metric_f)) (end.0, (map end_value (ends_given froms ends), metric_code metric)) l fits

    pub table-length : length (message_bytes (new_epoch_message (new_epoch_given name shard epoch end froms ends metric))) ≡ 57 + 16 * length froms
    unfolding message_bytes encode_new_epoch
    table-length =
        message-length 0x21 name shard epoch.0 (u64 ▸ (table_f ▸ metric_f)) (end.0, (map end_value (ends_given froms ends), metric_code metric)) fits
        ∙ omega (arith, new_epoch_length end.0 froms ends (metric_code metric) same)
