-- A batch makes a log longer by no more than its entries. Assumes nothing.
use Prim.Native.Nat.{ℕ, ◌+◌, ◌≤◌}
use mathlib.Core.Path.{◌≡◌, refl, ◌∙◌}
use mathlib.Core.Bool.{true}
use mathlib.Core.List.{List, [], ◌∷◌, map}
use native.Mathlib.Omega.{arith}
use borrow.Author.Tests.{leb-true, leb-false}
use lib.Dec.{leb}
use lib.ListN.{length, length-map}
use Rattle.spec.specs.Log.{Entry, ShardReplica, last_offset, store, store_all}
use Rattle.spec.specs.Layout.Format.{next, value, value_n}
use Rattle.spec.specs.Layout.Parts.{entry_f, entry_of, WireEntry}
use Rattle.spec.specs.Node.Wire.{stored_entry}
use Rattle.spec_laws.proofs.Lists.{not_both}
use Rattle.spec_laws.proofs.Log.Store.{store_one_more}
use Rattle.wire_read.specs.declared.Part.{Part}
use Rattle.wire_read.proofs.Places.{length-value_n}
use Rattle.log_domain.specs.Parts.{entries_in}
use Rattle.log_domain.specs.Growth.{GrowsTo}
use Rattle.image_node_batch.specs.Batch.{RoomAnswered}

most-more : (epoch : ℕ) (r : ShardReplica) (es : List Entry) → last_offset (store_all r epoch es) ≤ last_offset r + length es
unfolding store_all
most-more epoch r [] = omega arith
most-more epoch r (e ∷ es) =
    let a = most-more epoch (store r epoch e).replica es in
    let b = store_one_more r epoch e in
    omega arith

entries_length : (m : List ℕ) (p : Part) → length (map stored_entry (entries_in m p)) ≡ p.len
unfolding entries_in
entries_length m p =
    length-map (entries_in m p) stored_entry
    ∙ length-map (value_n (value entry_f m) (next entry_f m) p.len p.at) entry_of
    ∙ length-value_n (value entry_f m) (next entry_f m) p.len p.at

-- as many free places as entries
pub room-free : (m : List ℕ) (p : Part) (n : ℕ) → n + p.len ≤ 1024 → RoomAnswered (entries_in m p) n true
room-free m p n h = record {
  yes = λ e q l. (let a = most-more q.epoch q (map stored_entry (entries_in m p)) in let b = entries_length m p in omega arith);
  over = λ e. not_both true refl e;
}

-- by how far the log goes
pub room-grown : (es : List WireEntry) (n k : ℕ) → GrowsTo es n k → RoomAnswered es n (leb k 1024)
room-grown es n k g = record {
  yes = λ e q l. (let a = g q l in let h = leb-true k 1024 e in omega arith);
  over = λ e q l. (let a = g q l in let h = leb-false k 1024 e in omega arith);
}
