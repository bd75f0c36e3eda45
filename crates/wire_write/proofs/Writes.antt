-- What a writer answers. The laws of the stores are crate `wire_put`'s, passed on to the crates above. Assumes nothing.
use Prim.Native.Nat.{ℕ, ◌≤◌, ◌<◌}
use mathlib.Core.Path.{◌≡◌, refl}
use mathlib.Core.Bool.{Bool, true, false}
use mathlib.Core.List.{List, ◌∷◌}
use lib.ListN.{length}
use lib.Seq.{sets}
use borrow.Author.Tests.{lt-leb, le-leb}
use Rattle.spec.specs.Layout.Format.{bytes_of}
use Rattle.wire_write.specs.Written.{Written}
use Rattle.wire_write.specs.Written.{reply_given, reply_code, reply_number}
use Rattle.wire_write.specs.declared.Reply.{Reply}
use Rattle.wire_write.specs.declared.Reply.TheVariants.{Stored, Gap, StaleEpoch, Adopted}
use Rattle.spec.specs.Layout.Message.{encode_reply}
use Rattle.std.specs.Prelude.{Ok, Err}
use Rattle.wire_write.specs.declared.Unwritten.TheVariants.{Short, Unfit}
pub use Rattle.wire_put.proofs.Writes.{sets_then, length-text, length-words, length-key, upsert_put, delete_put, upsert_count, text-short, op-size, op_small, head_bytes, message-length, message-put, no_first, no_second, fits_count, search_put}

-- ---- what a writer answers

module _ (bs out : List ℕ) where
  pub unfit : (fit : Bool) → fit ≡ false → Written fit bs out out (Err Unfit)
  unfit fit e = record { answer = rw e; bytes = rw e }

  pub short : (fit : Bool) → fit ≡ true → length out < length bs → Written fit bs out out (Err Short)
  short fit e h = record { answer = rw (e, lt-leb _ _ h); bytes = rw (e, lt-leb _ _ h) }

  pub wrote : (fit : Bool) (n : ℕ) (after : List ℕ) → fit ≡ true → n ≡ length bs → length bs ≤ length out → after ≡ sets out 0 bs
      → Written fit bs out after (Ok n)
  wrote fit n after e l h s = record { answer = rw (e, le-leb _ _ h, l); bytes = rw (e, le-leb _ _ h) s }

pub reply-bytes : (r : Reply) → encode_reply (reply_given r) ≡ reply_code r ∷ bytes_of 8 (reply_number r)
unfolding encode_reply
reply-bytes (Stored n) = refl
reply-bytes (Gap n) = refl
reply-bytes (StaleEpoch n) = refl
reply-bytes (Adopted n) = refl
