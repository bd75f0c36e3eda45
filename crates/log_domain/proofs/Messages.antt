-- For the crates above: where `wire_read` answered a kind of message, its parts stand in the bytes (the tests of the functions here), and what
-- is read there is what `spec`'s decoder reads. Assumes nothing.
use Prim.Native.Nat.{ℕ, zero, suc, ◌+◌, ◌-◌, ◌*◌, ◌≤◌}
use mathlib.Core.Path.{◌≡◌, sym, ap, subst, ◌∙◌}
use mathlib.Core.Bool.{true}
use mathlib.Core.List.{List, map}
use mathlib.Core.Option.{some}
use lib.ListN.{length}
use native.Mathlib.Omega.{arith}
use borrow.Author.Tests.{leb-true}
use Rattle.spec.specs.Layout.Format.{◌▸◌, fits, fits_n, next, value, value_n, number_at, whole}
use Rattle.spec.specs.Layout.Parts.{u32, u64, vector_f, table_f, entries_f, entry_f, entry_of, end_of}
use Rattle.spec.specs.Layout.Message as message
use Rattle.spec_laws.proofs.Wire.Tests.{and_left, and_right}
use Rattle.spec_laws.proofs.Wire.Data.{length_mapped, whenever_some}
use Rattle.wire_read.specs.Shown.{part, op_shown, message_of, replicate_part, copy_part, new_epoch_part, write_part, search_part}
use Rattle.wire_read.specs.declared.ReplicatePart.{ReplicatePart}
use Rattle.wire_read.specs.declared.CopyPart.{CopyPart}
use Rattle.wire_read.specs.declared.NewEpochPart.{NewEpochPart}
use Rattle.wire_read.specs.declared.WritePart.{WritePart}
use Rattle.wire_read.specs.declared.SearchPart.{SearchPart}
use Rattle.wire_read.specs.declared.Message.TheVariants.{Replicate, NewEpoch, CopyShard, Write, Search}
use Rattle.wire_read.proofs.Places.{length-value_n}
use Rattle.wire_read.proofs.Items.{word_room}
use Rattle.wire_read.proofs.Decoded.{replicate_decoded, replicate_answered, copy_decoded, copy_answered, new_epoch_decoded, new_epoch_answered, write_decoded, write-answered, search_decoded, search_answered_lem}
use Rattle.log_domain.specs.Parts.{bits_in, op_in, entries_in, table_in, VectorThere, OpThere, EntriesThere, TableThere}
use Rattle.log_domain.proofs.InMessage.{op-there, op-is}

-- ---- counted items at a place

module _ (s : List ℕ) where
  pairs-room : (n p : ℕ) → p ≤ length s → fits_n (fits (u64 ▸ u64) s) (next (u64 ▸ u64) s) n p ≡ true → p + n * 16 ≤ length s
  pairs-room zero p l e = omega arith
  pairs-room (suc n) p l e =
      let a : p + 8 + 8 ≤ length s = leb-true _ _ (and_right _ _ (and_left _ _ e)) in
      let b : p + 8 + 8 + n * 16 ≤ length s = pairs-room n (p + 8 + 8) a (and_right _ _ e) in
      omega arith

  module _ (at : ℕ) where
    table-there : fits table_f s at ≡ true → TableThere s (part (at + 2) (length (map end_of (value table_f s at))))
    table-there e =
        let n = number_at 2 s at in
        let q : length (map end_of (value table_f s at)) ≡ n =
        length_mapped end_of (value table_f s at) ∙ length-value_n (value (u64 ▸ u64) s) (next (u64 ▸ u64) s) n (at + 2) in
        let l : at + 2 ≤ length s = leb-true _ _ (and_left _ _ e) in
        let m : n ≤ 1024 = leb-true _ _ (and_left _ _ (and_right _ _ (and_right _ _ e))) in
        let r : at + 2 + n * 16 ≤ length s = pairs-room n (at + 2) l (and_right _ _ (and_right _ _ (and_right _ _ e))) in
        subst (λ (k : ℕ). TableThere s (part (at + 2) k)) (sym q) (m, r)

    table_is : table_in s (part (at + 2) (length (map end_of (value table_f s at)))) ≡ map end_of (value table_f s at)
    unfolding table_in
    table_is =
        ap (λ (n : ℕ). map end_of (value_n (value (u64 ▸ u64) s) (next (u64 ▸ u64) s) n (at + 2)))
        (length_mapped end_of (value table_f s at) ∙ length-value_n (value (u64 ▸ u64) s) (next (u64 ▸ u64) s) (number_at 2 s at) (at + 2))

    entries_there : fits entries_f s at ≡ true → EntriesThere s (part (at + 2) (length (map entry_of (value entries_f s at))))
    entries_there e =
        let n = number_at 2 s at in
        let q : length (map entry_of (value entries_f s at)) ≡ n =
        length_mapped entry_of (value entries_f s at) ∙ length-value_n (value entry_f s) (next entry_f s) n (at + 2) in
        let m : n ≤ 256 = leb-true _ _ (and_left _ _ (and_right _ _ (and_right _ _ e))) in
        subst (λ (k : ℕ). EntriesThere s (part (at + 2) k)) (sym q) (m, and_right _ _ (and_right _ _ (and_right _ _ e)))

    entries_is : entries_in s (part (at + 2) (length (map entry_of (value entries_f s at)))) ≡ map entry_of (value entries_f s at)
    unfolding entries_in
    entries_is =
        ap (λ (n : ℕ). map entry_of (value_n (value entry_f s) (next entry_f s) n (at + 2)))
        (length_mapped entry_of (value entries_f s at) ∙ length-value_n (value entry_f s) (next entry_f s) (number_at 2 s at) (at + 2))

    vector-there : fits vector_f s at ≡ true → VectorThere s (part (at + 1) (length (value vector_f s at)))
    vector-there e =
        let n = number_at 1 s at in
        let l : at + 1 ≤ length s = leb-true _ _ (and_left _ _ e) in
        let least : 1 ≤ n = leb-true _ _ (and_left _ _ (and_right _ _ e)) in
        let most : n ≤ 32 = leb-true _ _ (and_left _ _ (and_right _ _ (and_right _ _ e))) in
        let r = word_room 4 s n (at + 1) (n - 1) l (and_right _ _ (and_right _ _ (and_right _ _ e))) (omega arith) in
        subst (λ (k : ℕ). VectorThere s (part (at + 1) k)) (sym (length-value_n (value u32 s) (next u32 s) n (at + 1)))
        (least, most, omega arith)

    vector-is : bits_in s (part (at + 1) (length (value vector_f s at))) ≡ value vector_f s at
    unfolding bits_in
    vector-is =
        ap (λ (n : ℕ). value_n (value u32 s) (next u32 s) n (at + 1)) (length-value_n (value u32 s) (next u32 s) (number_at 1 s at) (at + 1))

-- ---- the messages as `spec`'s decoder reads them

module _ (s : List ℕ) where
  replicated : (m : message.Replicated) → message.decode_replicate s ≡ some m → OpThere s (op_shown 54 m.op) × (op_in s (op_shown 54 m.op) ≡ m.op)
  unfolding message.decode_replicate whole
  replicated m d =
      let w = whenever_some (whole message.replicate_f s) (message.replicate_of (value message.replicate_f s 0)) m d in
      subst (λ (z : message.Replicated). OpThere s (op_shown 54 z.op) × (op_in s (op_shown 54 z.op) ≡ z.op)) w.1
      (op-there s 54 (and_right _ _ (and_right _ _ (and_right _ _ (and_right _ _ (and_left _ _ w.0))))), op-is s 54)

  written : (m : message.Write) → message.decode_write s ≡ some m → OpThere s (op_shown 46 m.op) × (op_in s (op_shown 46 m.op) ≡ m.op)
  unfolding message.decode_write whole
  written m d =
      let w = whenever_some (whole message.write_f s) (message.write_of (value message.write_f s 0)) m d in
      subst (λ (z : message.Write). OpThere s (op_shown 46 z.op) × (op_in s (op_shown 46 z.op) ≡ z.op)) w.1
      (op-there s 46 (and_right _ _ (and_right _ _ (and_right _ _ (and_left _ _ w.0)))), op-is s 46)

  queried : (m : message.Query) → message.decode_search s ≡ some m → VectorThere s (part 51 (length m.bits)) × (bits_in s (part 51 (length m.bits)) ≡ m.bits)
  unfolding message.decode_search whole
  queried m d =
      let w = whenever_some (whole message.search_f s) (message.search_of (value message.search_f s 0)) m d in
      subst (λ (z : message.Query). VectorThere s (part 51 (length z.bits)) × (bits_in s (part 51 (length z.bits)) ≡ z.bits)) w.1
      (vector-there s 50 (and_right _ _ (and_right _ _ (and_right _ _ (and_right _ _ (and_left _ _ w.0))))), vector-is s 50)

  copied : (m : message.Copied) → message.decode_copy_shard s ≡ some m
      → EntriesThere s (part 48 (length m.entries)) × (entries_in s (part 48 (length m.entries)) ≡ m.entries)
  unfolding message.decode_copy_shard whole
  copied m d =
      let w = whenever_some (whole message.copy_shard_f s) (message.copy_shard_of (value message.copy_shard_f s 0)) m d in
      subst (λ (z : message.Copied). EntriesThere s (part 48 (length z.entries)) × (entries_in s (part 48 (length z.entries)) ≡ z.entries)) w.1
      (entries_there s 46 (and_right _ _ (and_right _ _ (and_right _ _ (and_left _ _ w.0)))), entries_is s 46)

  announced : (m : message.NewEpoch) → message.decode_new_epoch s ≡ some m
      → TableThere s (part 56 (length m.table)) × (table_in s (part 56 (length m.table)) ≡ m.table)
  unfolding message.decode_new_epoch whole
  announced m d =
      let w = whenever_some (whole message.new_epoch_f s) (message.new_epoch_of (value message.new_epoch_f s 0)) m d in
      subst (λ (z : message.NewEpoch). TableThere s (part 56 (length z.table)) × (table_in s (part 56 (length z.table)) ≡ z.table)) w.1 (
        table-there s 54 (and_left _ _ (and_right _ _ (and_right _ _ (and_right _ _ (and_right _ _ (and_left _ _ w.0)))))),
        table_is s 54,
      )

-- ---- the parts that `wire_read` answered

module _ (s : List ℕ) where
  pub replicate_part_lem : (p : ReplicatePart) → message_of s ≡ Replicate p → (m : message.Replicated) → message.decode_replicate s ≡ some m
      → p ≡ replicate_part m
  replicate_part_lem p e m d = let q = replicate_answered s m d in cc

  pub replicate_there : (p : ReplicatePart) → message_of s ≡ Replicate p → OpThere s p.op
  replicate_there p e =
      let d = replicate_decoded s p e in
      subst (λ (z : ReplicatePart). OpThere s z.op) (sym (replicate_part_lem p e d.read d.decoded)) (replicated s d.read d.decoded).0

  pub replicate_op : (p : ReplicatePart) → message_of s ≡ Replicate p → (m : message.Replicated) → message.decode_replicate s ≡ some m
      → op_in s p.op ≡ m.op
  replicate_op p e m d = ap (λ (z : ReplicatePart). op_in s z.op) (replicate_part_lem p e m d) ∙ (replicated s m d).1

  pub write-part : (p : WritePart) → message_of s ≡ Write p → (m : message.Write) → message.decode_write s ≡ some m → p ≡ write_part m
  write-part p e m d = let q = write-answered s m d in cc

  pub write-there : (p : WritePart) → message_of s ≡ Write p → OpThere s p.op
  write-there p e =
      let d = write_decoded s p e in
      subst (λ (z : WritePart). OpThere s z.op) (sym (write-part p e d.read d.decoded)) (written s d.read d.decoded).0

  pub write-op : (p : WritePart) → message_of s ≡ Write p → (m : message.Write) → message.decode_write s ≡ some m → op_in s p.op ≡ m.op
  write-op p e m d = ap (λ (z : WritePart). op_in s z.op) (write-part p e m d) ∙ (written s m d).1

  pub search_part_lem : (p : SearchPart) → message_of s ≡ Search p → (m : message.Query) → message.decode_search s ≡ some m → p ≡ search_part m
  search_part_lem p e m d = let q = search_answered_lem s m d in cc

  pub search_there : (p : SearchPart) → message_of s ≡ Search p → VectorThere s p.vector
  search_there p e =
      let d = search_decoded s p e in
      subst (λ (z : SearchPart). VectorThere s z.vector) (sym (search_part_lem p e d.read d.decoded)) (queried s d.read d.decoded).0

  pub search_bits : (p : SearchPart) → message_of s ≡ Search p → (m : message.Query) → message.decode_search s ≡ some m
      → bits_in s p.vector ≡ m.bits
  search_bits p e m d = ap (λ (z : SearchPart). bits_in s z.vector) (search_part_lem p e m d) ∙ (queried s m d).1

  pub copy_part_lem : (p : CopyPart) → message_of s ≡ CopyShard p → (m : message.Copied) → message.decode_copy_shard s ≡ some m → p ≡ copy_part m
  copy_part_lem p e m d = let q = copy_answered s m d in cc

  pub copy_there : (p : CopyPart) → message_of s ≡ CopyShard p → EntriesThere s p.entries
  copy_there p e =
      let d = copy_decoded s p e in
      subst (λ (z : CopyPart). EntriesThere s z.entries) (sym (copy_part_lem p e d.read d.decoded)) (copied s d.read d.decoded).0

  pub copy_entries : (p : CopyPart) → message_of s ≡ CopyShard p → (m : message.Copied) → message.decode_copy_shard s ≡ some m
      → entries_in s p.entries ≡ m.entries
  copy_entries p e m d = ap (λ (z : CopyPart). entries_in s z.entries) (copy_part_lem p e m d) ∙ (copied s m d).1

  pub new_epoch_part_lem : (p : NewEpochPart) → message_of s ≡ NewEpoch p → (m : message.NewEpoch) → message.decode_new_epoch s ≡ some m
      → p ≡ new_epoch_part m
  new_epoch_part_lem p e m d = let q = new_epoch_answered s m d in cc

  pub new_epoch_there : (p : NewEpochPart) → message_of s ≡ NewEpoch p → TableThere s p.table
  new_epoch_there p e =
      let d = new_epoch_decoded s p e in
      subst (λ (z : NewEpochPart). TableThere s z.table) (sym (new_epoch_part_lem p e d.read d.decoded)) (announced s d.read d.decoded).0

  pub new_epoch_table : (p : NewEpochPart) → message_of s ≡ NewEpoch p → (m : message.NewEpoch) → message.decode_new_epoch s ≡ some m
      → table_in s p.table ≡ m.table
  new_epoch_table p e m d = ap (λ (z : NewEpochPart). table_in s z.table) (new_epoch_part_lem p e m d) ∙ (announced s m d).1
