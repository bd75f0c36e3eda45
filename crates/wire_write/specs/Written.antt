-- What a writer answers and leaves in the buffer: all of a message's bytes from the start, or nothing. A value that the
-- layout cannot carry is `Unfit`: a text too long or with a byte outside 20 to 7E, a count outside its limits.
use Rattle.std.specs.Prelude.{ℕ, ◌≡◌, Bool, cond, List, length, leb}
use Rattle.std.proofs.lemmas.List.Edits.{sets}
use Rattle.spec.specs.Layout.Parts.{WireOp}
use Rattle.spec.specs.Layout.Message.{Replicated, Write, Query}
use Rattle.spec.specs.Layout.Message as message
use Rattle.spec.specs.declared.Epoch.{Epoch}
use Rattle.spec.specs.declared.Offset.{Offset}
use Rattle.wire_write.specs.declared.Reply.{Reply}
use Rattle.wire_write.specs.declared.Reply.TheVariants.{Stored, Gap, StaleEpoch, Adopted}
use Rattle.std.specs.Prelude.{Result, Ok, Err}
use Rattle.wire_write.specs.declared.Unwritten.{Unwritten}
use Rattle.wire_write.specs.declared.Unwritten.TheVariants.{Short, Unfit}
unfoldable pub use Rattle.wire_put.specs.Fields.{text_fits, count_fits}
pub use Rattle.wire_put.specs.Fields.{wire_of, op_bytes, op_fits, op_size, key_given}

-- the answer for n bytes and a buffer of w
abbrev pub answered : (fit : Bool) (n w : ℕ) → Result ℕ Unwritten
answered fit n w = cond fit (cond (leb n w) (Ok n) (Err Short)) (Err Unfit)

-- the buffer afterwards
abbrev pub left : (fit : Bool) → (bs out : List ℕ) → List ℕ
left fit bs out = cond fit (cond (leb (length bs) (length out)) (sets out 0 bs) out) out

-- what a writer of the bytes promises, of the buffer before and after
pub record Written (fit : Bool) (bs before after : List ℕ) (r : Result ℕ Unwritten) : Type 0 where
  pub answer : r ≡ answered fit (length bs) (length before)
  pub bytes : after ≡ left fit bs before

-- ---- messages as a writer is handed them

abbrev pub replicate_given : List ℕ → ℕ → Epoch → Offset → WireOp → Replicated
replicate_given name shard epoch offset op =
    record { key = key_given name shard; epoch = epoch.0; offset = offset.0; op = op }

abbrev pub write_given : List ℕ → ℕ → Epoch → WireOp → Write
write_given name shard epoch op = record { key = key_given name shard; epoch = epoch.0; op = op }

abbrev pub search_given : List ℕ → ℕ → Epoch → ℕ → List ℕ → Query
search_given name shard epoch k bits = record { key = key_given name shard; epoch = epoch.0; k = k; bits = bits }

abbrev pub reply_given : Reply → message.Reply
reply_given (Stored n) = message.reply_stored n.0
reply_given (Gap n) = message.reply_gap n.0
reply_given (StaleEpoch n) = message.reply_stale n.0
reply_given (Adopted n) = message.reply_adopted n.0

-- the code and the number of a reply
abbrev pub reply_code : Reply → ℕ
reply_code (Stored n) = 0x30
reply_code (Gap n) = 0x31
reply_code (StaleEpoch n) = 0x32
reply_code (Adopted n) = 0x33

abbrev pub reply_number : Reply → ℕ
reply_number (Stored n) = n.0
reply_number (Gap n) = n.0
reply_number (StaleEpoch n) = n.0
reply_number (Adopted n) = n.0
