-- Paper 01, 'Only what the writer writes is read': both round trips of every message, over the plain data.
--   X-back   what is written is read:  GoodX m → decodeX (encodeX m) ≡ some m
--   X-forth  what is read is written:  Bytes s → decodeX s ≡ some m → GoodX m × (encodeX m ≡ s)
-- Assumes nothing.
use Prim.Native.Nat.{ℕ}
use mathlib.Core.Path.{◌≡◌, refl, subst}
use mathlib.Core.Logic.{inl, inr}
use mathlib.Core.List.{List, map}
use mathlib.Core.Option.{some}
use native.Mathlib.Omega.{arith}
use Rattle.spec.specs.Lists.{◌and◌}
use Rattle.spec.specs.Log.{End}
use Rattle.spec.specs.Layout.Format.{◌▸◌, All, Value, Good, Bytes}
use Rattle.spec.specs.Layout.Parts.{u64, entry_f, op_of, entry_of, entry_value, end_of, end_value, WireEntry}
use Rattle.spec.specs.Layout.Message.{replicate_f, replicate_of, replicate_value, Replicated, decode_replicate, encode_replicate, new_epoch_f, new_epoch_of, new_epoch_value, NewEpoch, decode_new_epoch, encode_new_epoch, copy_shard_f, copy_shard_of, copy_shard_value, Copied, decode_copy_shard, encode_copy_shard, write_f, write_of, write_value, Write, decode_write, encode_write, search_f, search_of, search_value, Query, decode_search, encode_search, reply_f, reply_of, reply_value, Reply, reply_stored, reply_gap, reply_stale, reply_adopted, decode_reply, encode_reply}
use Rattle.spec.specs.Layout.Writable.{GoodEnd, GoodEntry, GoodReplicated, GoodNewEpoch, GoodCopied, GoodWrite, GoodQuery, GoodReply}
use Rattle.spec_laws.proofs.Wire.Data.{length_mapped, map_undone, all_mapped, all_any, metric_code_lem, metric_below, metric_of_lem, op_of_lem, op-value, op_good, good_op, entry_of_lem, entry_value_lem, back, forth}

-- ---- 30 to 33

reply_of_lem : (r : Reply) → reply_of (reply_value r) ≡ r
reply_of_lem (reply_stored n) = refl
reply_of_lem (reply_gap n) = refl
reply_of_lem (reply_stale n) = refl
reply_of_lem (reply_adopted n) = refl

reply-value : (v : Value reply_f) → Good reply_f v → reply_value (reply_of v) ≡ v
reply-value (inl n) g = refl
reply-value (inr (inl n)) g = refl
reply-value (inr (inr (inl n))) g = refl
reply-value (inr (inr (inr v))) g = refl

reply_good : (r : Reply) → GoodReply r → Good reply_f (reply_value r)
reply_good (reply_stored n) g = g
reply_good (reply_gap n) g = g
reply_good (reply_stale n) g = g
reply_good (reply_adopted n) g = (tt, g)

good_reply : (r : Reply) → Good reply_f (reply_value r) → GoodReply r
good_reply (reply_stored n) g = g
good_reply (reply_gap n) g = g
good_reply (reply_stale n) g = g
good_reply (reply_adopted n) g = g.1

pub reply-back : (r : Reply) → GoodReply r → decode_reply (encode_reply r) ≡ some r
unfolding decode_reply encode_reply ◌and◌
reply-back r g = back reply_f reply_of reply_value refl r (reply_good r g) (reply_of_lem r)

pub reply_forth : (s : List ℕ) → Bytes s → (r : Reply) → decode_reply s ≡ some r → GoodReply r × (encode_reply r ≡ s)
unfolding decode_reply encode_reply
reply_forth s b r e = let h = forth reply_f reply_of reply_value reply-value s b r e in (good_reply r h.0, h.1)

-- ---- 20

replicate_of_lem : (m : Replicated) → replicate_of (replicate_value m) ≡ m
replicate_of_lem m = rw (op_of_lem m.op)

replicate_value_lem : (v : Value replicate_f) → Good replicate_f v → replicate_value (replicate_of v) ≡ v
replicate_value_lem v g = rw (op-value v.1.1.1.1)

pub replicate_back : (m : Replicated) → GoodReplicated m → decode_replicate (encode_replicate m) ≡ some m
unfolding decode_replicate encode_replicate ◌and◌
replicate_back m g =
    back replicate_f replicate_of replicate_value refl m (tt, (g.0, (g.1, (g.2, op_good m.op g.3)))) (replicate_of_lem m)

pub replicate_forth : (s : List ℕ) → Bytes s → (m : Replicated) → decode_replicate s ≡ some m
    → GoodReplicated m × (encode_replicate m ≡ s)
unfolding decode_replicate encode_replicate
replicate_forth s b m e =
    let h = forth replicate_f replicate_of replicate_value replicate_value_lem s b m e in
    let g = h.0.1 in
    ((g.0, g.1.0, g.1.1.0, good_op m.op g.1.1.1), h.1)

-- ---- 23

write_of_lem : (m : Write) → write_of (write_value m) ≡ m
write_of_lem m = rw (op_of_lem m.op)

write-value : (v : Value write_f) → Good write_f v → write_value (write_of v) ≡ v
write-value v g = rw (op-value v.1.1.1)

pub write-back : (m : Write) → GoodWrite m → decode_write (encode_write m) ≡ some m
unfolding decode_write encode_write ◌and◌
write-back m g = back write_f write_of write_value refl m (tt, (g.0, (g.1, op_good m.op g.2))) (write_of_lem m)

pub write_forth : (s : List ℕ) → Bytes s → (m : Write) → decode_write s ≡ some m → GoodWrite m × (encode_write m ≡ s)
unfolding decode_write encode_write
write_forth s b m e =
    let h = forth write_f write_of write_value write-value s b m e in
    let g = h.0.1 in
    ((g.0, g.1.0, good_op m.op g.1.1), h.1)

-- ---- 24

pub search_back : (m : Query) → GoodQuery m → decode_search (encode_search m) ≡ some m
unfolding decode_search encode_search ◌and◌
search_back m g = back search_f search_of search_value refl m (tt, (g.0, (g.1, (g.2, g.3)))) refl

pub search_forth : (s : List ℕ) → Bytes s → (m : Query) → decode_search s ≡ some m → GoodQuery m × (encode_search m ≡ s)
unfolding decode_search encode_search
search_forth s b m e = let h = forth search_f search_of search_value (λ v g. refl) s b m e in
    let g = h.0.1 in
    ((g.0, g.1.0, g.1.1.0, g.1.1.1), h.1)

-- ---- 21

new_epoch_of_lem : (m : NewEpoch) → new_epoch_of (new_epoch_value m) ≡ m
new_epoch_of_lem m =
    rw (map_undone end_value end_of (λ (t : End). Unit {0}) (λ t u. refl) m.table (all_any m.table), metric_of_lem m.metric)

new_epoch_value_lem : (v : Value new_epoch_f) → Good new_epoch_f v → new_epoch_value (new_epoch_of v) ≡ v
new_epoch_value_lem v g =
    rw (
      map_undone end_of end_value (λ (t : Value (u64 ▸ u64)). Unit {0}) (λ t u. refl) v.1.1.1.1.0 (all_any v.1.1.1.1.0),
      metric_code_lem v.1.1.1.1.1 g.1.1.1.1.1,
    )

pub new_epoch_back : (m : NewEpoch) → GoodNewEpoch m → decode_new_epoch (encode_new_epoch m) ≡ some m
unfolding decode_new_epoch encode_new_epoch ◌and◌
new_epoch_back m g =
    let l = length_mapped end_value m.table in
    let n = g.3 in
    let a = all_mapped end_value GoodEnd (Good (u64 ▸ u64)) (λ t h. h) m.table g.4 in
    back new_epoch_f new_epoch_of new_epoch_value refl m
    (tt, (g.0, (g.1, (g.2, ((omega arith, omega arith, a), metric_below m.metric))))) (new_epoch_of_lem m)

pub new_epoch_forth : (s : List ℕ) → Bytes s → (m : NewEpoch) → decode_new_epoch s ≡ some m
    → GoodNewEpoch m × (encode_new_epoch m ≡ s)
unfolding decode_new_epoch encode_new_epoch
new_epoch_forth s b m e =
    let h = forth new_epoch_f new_epoch_of new_epoch_value new_epoch_value_lem s b m e in
    let g = h.0.1 in
    let t = g.1.1.1.0 in
    let n = t.1 in
    let l = length_mapped end_value m.table in
    let u = map_undone end_value end_of (λ (t : End). Unit {0}) (λ t u. refl) m.table (all_any m.table) in
    let a = subst (All GoodEnd) u (all_mapped end_of (Good (u64 ▸ u64)) GoodEnd (λ t h. h) (map end_value m.table) t.2) in
    ((g.0, g.1.0, g.1.1.0, omega arith, a), h.1)

-- ---- 22

entry_good : (e : WireEntry) → GoodEntry e → Good entry_f (entry_value e)
entry_good e g = (g.0, (g.1, op_good e.op g.2))

good_entry : (v : Value entry_f) → Good entry_f v → GoodEntry (entry_of v)
good_entry v g = (g.0, g.1.0, good_op (op_of v.1.1) (rw (op-value v.1.1) g.1.1))

copy_of_lem : (m : Copied) → copy_shard_of (copy_shard_value m) ≡ m
copy_of_lem m = rw (map_undone entry_value entry_of (λ (t : WireEntry). Unit {0}) (λ t u. entry_of_lem t) m.entries (all_any m.entries))

copy_value : (v : Value copy_shard_f) → Good copy_shard_f v → copy_shard_value (copy_shard_of v) ≡ v
copy_value v g =
    rw (map_undone entry_of entry_value (λ (t : Value entry_f). Unit {0}) (λ t u. entry_value_lem t) v.1.1.1 (all_any v.1.1.1))

pub copy_back : (m : Copied) → GoodCopied m → decode_copy_shard (encode_copy_shard m) ≡ some m
unfolding decode_copy_shard encode_copy_shard ◌and◌
copy_back m g =
    let l = length_mapped entry_value m.entries in
    let n = g.2 in
    let a = all_mapped entry_value GoodEntry (Good entry_f) entry_good m.entries g.3 in
    back copy_shard_f copy_shard_of copy_shard_value refl m (tt, (g.0, (g.1, (omega arith, omega arith, a)))) (copy_of_lem m)

pub copy_forth : (s : List ℕ) → Bytes s → (m : Copied) → decode_copy_shard s ≡ some m → GoodCopied m × (encode_copy_shard m ≡ s)
unfolding decode_copy_shard encode_copy_shard
copy_forth s b m e =
    let h = forth copy_shard_f copy_shard_of copy_shard_value copy_value s b m e in
    let g = h.0.1 in
    let t = g.1.1 in
    let n = t.1 in
    let l = length_mapped entry_value m.entries in
    let u = map_undone entry_value entry_of (λ (t : WireEntry). Unit {0}) (λ t u. entry_of_lem t) m.entries (all_any m.entries) in
    let a = subst (All GoodEntry) u (all_mapped entry_of (Good entry_f) GoodEntry good_entry (map entry_value m.entries) t.2) in
    ((g.0, g.1.0, omega arith, a), h.1)
