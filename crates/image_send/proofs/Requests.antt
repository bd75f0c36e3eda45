-- The requests as bytes: what each takes, and that it is the definition's. Assumes nothing.
use Prim.Native.Nat.{ℕ, suc, ◌+◌, ◌-◌, ◌*◌, ◌≤◌, ◌<◌}
use mathlib.Core.Path.{◌≡◌, refl, sym, ap, ◌∙◌, subst}
use mathlib.Core.Bool.{Bool, true, false, not}
use mathlib.Core.List.{List, [], ◌∷◌, map}
use mathlib.Core.Option.{Option, some}
use native.Mathlib.Omega.{arith}
use borrow.Author.Tests.{eqb-true, eqb-false, eq-eqb, ne_eqb}
use lib.Dec.{eqb}
use lib.ListN.{length, get_or, set, length-map}
use lib.Seq.{sets}
use Rattle.spec.specs.Lists.{◌and◌}
use Rattle.spec.specs.Keys.{Key}
use Rattle.spec.specs.Log.{Log, End, entries_from}
use Rattle.spec.specs.Layout.Format.{bytes_of, number_at}
use Rattle.spec.specs.Layout.Parts.{metric_code}
use Rattle.spec.specs.Layout.Message.{NewEpoch}
use Rattle.spec.specs.Node.Worker.{Message, message_bytes, new_epoch_message, copies, copy_of, lone_of, sending}
use Rattle.spec.specs.declared.Metric.{Metric}
use Rattle.spec.specs.declared.Epoch.{Epoch}
use Rattle.spec.specs.declared.Offset.{Offset}
use Rattle.spec_laws.proofs.Lists.{and_left, and_right, and_true, not_both}
use Rattle.wire_write.specs.Rows.{rows_size}
use Rattle.wire_write.specs.Tables.{ends_given}
use Rattle.wire_write.specs.Written.{op_size}
use Rattle.wire_write.proofs.Writes.{head_bytes}
use Rattle.log_store.specs.View.{Columns, entry_of, log_of}
use Rattle.node_send_entries.specs.Sent.{key_named, entries_at, entries_sent, op_sent}
use Rattle.node_send_entries.proofs.EntryLaws.{op_bytes_lem, op-length, lone-put, lone-length}
use Rattle.node_send_entries.proofs.EntriesLaws.{at_length, from-within, from_one, copy_put, copy_length}
use Rattle.node_send.proofs.Step.{send_copy, send_lone, send_many}
use Rattle.node_send.proofs.Table.{table-put, table-length}
use Rattle.image_store.specs.Read.{codes_in, lengths_in, columns_at}
use Rattle.image_send_entries.specs.Store.{store_columns, Sends, pairs_bytes}
use Rattle.image_send_entries.proofs.Store.{size_is, offset-is, epoch-is}

-- ---- 21

abbrev epochs : List End → List ℕ
epochs t = map (λ (x : End). x.epoch) t

abbrev ends : List End → List ℕ
ends t = map (λ (x : End). x.end) t

given : (t : List End) → ends_given (epochs t) (ends t) ≡ t
given [] = refl
given (x ∷ t) = ap (λ (l : List End). x ∷ l) (given t)

module _ (name : List ℕ) (shard epoch end : ℕ) (metric : Metric) (t : List End) (fits : length name ≤ 32) where
  abbrev pub aligning : NewEpoch
  aligning = record { key = key_named name shard; epoch = epoch; end = end; table = t; metric = metric }

  long : length (epochs t) ≡ length t
  long = length-map t (λ (x : End). x.epoch)

  same : length (epochs t) ≡ length (ends t)
  same = long ∙ sym (length-map t (λ (x : End). x.end))

  abbrev with : List End → NewEpoch
  with l = record { key = key_named name shard; epoch = epoch; end = end; table = l; metric = metric }

  pub align_put : (l : List ℕ)
      → set (sets (sets (sets (sets l 0 (head_bytes 0x21 name shard epoch)) 46 (bytes_of 8 end)) 54 (bytes_of 2 (length t))) 56 (pairs_bytes t)) (56 + 16 * length t) (metric_code metric)
      ≡ sets l 0 (message_bytes (new_epoch_message aligning))
  align_put l =
      let e : Epoch = record { 0 = epoch } in
      let o : Offset = record { 0 = end } in
      let q = sets (sets l 0 (head_bytes 0x21 name shard epoch)) 46 (bytes_of 8 end) in
      ap (λ (n : ℕ). set (sets (sets q 54 (bytes_of 2 n)) 56 (pairs_bytes t)) (56 + 16 * n) (metric_code metric)) (sym long)
      ∙ ap (λ (u : List End). set (sets (sets q 54 (bytes_of 2 (length (epochs t)))) 56 (pairs_bytes u)) (56 + 16 * length (epochs t)) (metric_code metric)) (sym (given t))
      ∙ table-put name shard e o metric (epochs t) (ends t) same fits l
      ∙ ap (λ (u : List End). sets l 0 (message_bytes (new_epoch_message (with u)))) (given t)

  pub align_length_lem : length (message_bytes (new_epoch_message aligning)) ≡ 57 + 16 * length t
  align_length_lem =
      let e : Epoch = record { 0 = epoch } in
      let o : Offset = record { 0 = end } in
      ap (λ (u : List End). length (message_bytes (new_epoch_message (with u)))) (sym (given t))
      ∙ table-length name shard e o metric (epochs t) (ends t) same fits
      ∙ ap (λ (n : ℕ). 57 + 16 * n) long

-- ---- 20 and 22

-- an operation takes nine bytes at least
pub op_some : (u : Bool) (n : ℕ) → 9 ≤ op_size u n
op_some true n = omega arith
op_some false n = omega arith

module _ (s : List ℕ) (base count : ℕ) (d : Sends s base count) (name : List ℕ) (shard epoch : ℕ) (fits : length name ≤ 32) where
  abbrev c : Columns
  c = store_columns s base count

  abbrev k : Key
  k = key_named name shard

  module _ (i : ℕ) (h : i < count) (r : ℕ) (is : r ≡ rows_size (codes_in s base) (lengths_in s base) (i + 1 - i) i) where
    one_size : r ≡ 16 + op_size (eqb (get_or c.codes i 0) 1) (get_or c.lengths i 0)
    unfolding columns_at
    one_size = let q : i + 1 - i ≡ 1 = omega arith in is ∙ ap (λ (m : ℕ). rows_size (codes_in s base) (lengths_in s base) m i) q ∙ omega arith

    pub lone_room : r ≡ 16 + op_size (eqb (get_or s (base + 24576 + i) 0) 1) (get_or s (base + 25600 + i) 0)
    lone_room = one_size ∙ ap (λ (m : ℕ). 16 + m) (size_is s base count d i h)

    pub lone-size : 38 + r ≡ length (message_bytes (lone_of k epoch (entry_of c i)))
    lone-size =
        let z = lone-length c count d.sendable i h name shard epoch fits in
        let w = op-length c count d.sendable i h in
        let q = one_size in
        omega arith

    pub lone-sent : (l : List ℕ)
        → sets (sets (sets l 0 (head_bytes 0x20 name shard epoch)) 46 (bytes_of 8 (number_at 8 s (base + 8192 + i * 8)))) 54 (op_sent c i)
        ≡ sets l 0 (message_bytes (lone_of k epoch (entry_of c i)))
    lone-sent l =
        ap (λ (o : ℕ). sets (sets (sets l 0 (head_bytes 0x20 name shard epoch)) 46 (bytes_of 8 o)) 54 (op_sent c i)) (sym (offset-is s base count d i h))
        ∙ ap (λ (b : List ℕ). sets (sets (sets l 0 (head_bytes 0x20 name shard epoch)) 46 (bytes_of 8 (get_or c.offsets i 0))) 54 b) (sym (op_bytes_lem c count d.sendable i h))
        ∙ lone-put c count d.sendable i h name shard epoch fits l

  module _ (from end : ℕ) (le : from ≤ end) (most : end ≤ count) where
    pub copy_size : (r : ℕ) → r ≡ rows_size (codes_in s base) (lengths_in s base) (end - from) from → 48 + r ≡ length (message_bytes (copy_of k epoch (entries_at c (end - from) from)))
    unfolding columns_at
    copy_size r e = let z = copy_length c count d.sendable name shard epoch (end - from) from fits (omega arith) in omega arith

    pub copy_sent : (l : List ℕ)
        → sets (sets (sets l 0 (head_bytes 0x22 name shard epoch)) 46 (bytes_of 2 (end - from))) 48 (entries_sent c (end - from) from)
        ≡ sets l 0 (message_bytes (copy_of k epoch (entries_at c (end - from) from)))
    copy_sent l = copy_put c count d.sendable name shard epoch (end - from) from fits l

  -- ---- which of them

  module _ (first n : ℕ) (one : 1 ≤ first) (Some-of : 1 ≤ n) (fit : first + n ≤ count + 1) (own : ℕ) (own_is : own ≡ number_at 8 s (base + (first - 1) * 8))
      (b : Bool) (is : b ≡ (eqb n 1 and eqb own epoch)) where
    abbrev sends : Option Message
    sends = sending k epoch (entries_from (log_of c count) first n)

    abbrev i : ℕ
    i = first - 1

    there : i < count
    there = omega arith

    own-epoch : (entry_of c i).epoch ≡ own
    unfolding entry_of
    own-epoch = epoch-is s base count d i there ∙ sym own_is

    single : n ≡ 1 → entries_from (log_of c count) first n ≡ entry_of c i ∷ []
    single e = from_one c count first n e one (omega arith)

    pub sends_alone : b ≡ true → sends ≡ some (lone_of k epoch (entry_of c i))
    sends_alone e =
        let t = sym is ∙ e in
        let e₁ = eqb-true n 1 (and_left (eqb n 1) (eqb own epoch) t) in
        let e₂ = and_right (eqb n 1) (eqb own epoch) t in
        ap (sending k epoch) (single e₁) ∙ send_lone k epoch (entry_of c i) (ap not (ap (λ (x : ℕ). eqb x epoch) own-epoch ∙ e₂))

    copied : i + n - i ≡ n
    copied = omega arith

    pub sends-copied : b ≡ false → sends ≡ some (copy_of k epoch (entries_at c (i + n - i) i))
    unfolding ◌and◌
    sends-copied e =
        go (eqb n 1) refl (eqb own epoch) refl (sym is ∙ e)
        ∙ ap (λ (l : Log). some (copy_of k epoch l)) (from-within c count first n one fit ∙ ap (λ (m : ℕ). entries_at c m i) (sym copied))
      where
        many : (n ≡ 1 → ⊥) → sends ≡ some (copy_of k epoch (entries_from (log_of c count) first n))
        many q =
            let z : length (entries_from (log_of c count) first n) ≡ n = ap length (from-within c count first n one fit) ∙ at_length c n i in
            send_many k epoch (entries_from (log_of c count) first n) (omega arith)

        go : (u : Bool) → eqb n 1 ≡ u → (v : Bool) → eqb own epoch ≡ v → (u and v) ≡ false → sends ≡ some (copy_of k epoch (entries_from (log_of c count) first n))
        go false p v q z = many (eqb-false n 1 p)
        go true p false q z =
            let w = single (eqb-true n 1 p) in
            ap (sending k epoch) w ∙ send_copy k epoch (entry_of c i) (ap not (ap (λ (x : ℕ). eqb x epoch) own-epoch ∙ q)) ∙ ap (λ (l : Log). some (copy_of k epoch l)) (sym w)
        go true p true q z = not_both true refl z
