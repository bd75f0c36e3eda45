-- For the crates above: what follows of the bytes where `decode` answered a kind, and where it did not.
--   X-decoded  message_of s ≡ X p gives the value that `spec`'s decoder of the kind reads, shown as p
--   X-answered where `spec`'s decoder reads a value, `decode` answers it, so that another answer means `none`
-- Assumes nothing.
use Rattle.std.proofs.Common.{◌≡◌, ℕ, Bool, true, false, cond, eqb, List, get_or, sym, refl, ap, ◌∙◌, arith, eqb-true}
use mathlib.Core.Option.{Option, none, some}
use Rattle.spec.specs.Layout.Format.{Format, code, ◌▸◌, fits, value, whole}
use Rattle.spec.specs.Layout.Request as request
use Rattle.spec.specs.Layout.Message as message
use Rattle.spec_laws.proofs.Wire.Tests.{and_left, and_right, false_not_true}
use Rattle.spec_laws.proofs.Wire.Data.{whenever_some}
use Rattle.wire_read.specs.Shown.{shown_or, request_shown, replicate_shown, new_epoch_shown, copy_shown, write_shown, search_shown, reply_shown, message_of}
use Rattle.spec.specs.declared.Epoch.{Epoch}
use Rattle.spec.specs.declared.Offset.{Offset}
use Rattle.wire_read.specs.declared.Message.{Message}
use Rattle.wire_read.specs.declared.Message.TheVariants.{Undecodable, Request, Replicate, NewEpoch, CopyShard, Write, Search, Stored, Gap, StaleEpoch, Adopted}
use Rattle.wire_read.specs.declared.RequestPart.{RequestPart}
use Rattle.wire_read.specs.declared.ReplicatePart.{ReplicatePart}
use Rattle.wire_read.specs.declared.NewEpochPart.{NewEpochPart}
use Rattle.wire_read.specs.declared.CopyPart.{CopyPart}
use Rattle.wire_read.specs.declared.WritePart.{WritePart}
use Rattle.wire_read.specs.declared.SearchPart.{SearchPart}
use Rattle.wire_read.proofs.Messages.{message_01, message_20, message_21, message_22, message_23, message_24, message-reply}

-- a value that was read, and is shown as m
pub record Decoded {A : Type 0} (f : A → Message) (o : Option A) (m : Message) : Type 0 where
  pub read : A
  pub decoded : o ≡ some read
  pub shown : f read ≡ m

-- ---- the kind of a message

kind_of : Message → ℕ
kind_of Undecodable = 0
kind_of (Request p) = 1
kind_of (Replicate p) = 2
kind_of (NewEpoch p) = 3
kind_of (CopyShard p) = 4
kind_of (Write p) = 5
kind_of (Search p) = 6
kind_of (Stored n) = 7
kind_of (Gap n) = 7
kind_of (StaleEpoch n) = 7
kind_of (Adopted n) = 7

-- a message is of a kind, or was not read
record OfKind (k : ℕ) (m : Message) : Type 0 where
  none_or : (kind_of m ≡ 0 → ⊥) → kind_of m ≡ k

reply_kind : (o : Option message.Reply) → OfKind 7 (shown_or reply_shown o)
unfolding kind_of
reply_kind none = record { none_or = λ n. absurd (n refl) }
reply_kind (some (message.reply_stored n)) = record { none_or = λ n. refl }
reply_kind (some (message.reply_gap n)) = record { none_or = λ n. refl }
reply_kind (some (message.reply_stale n)) = record { none_or = λ n. refl }
reply_kind (some (message.reply_adopted n)) = record { none_or = λ n. refl }

request_kind : (o : Option request.Request) → OfKind 1 (shown_or (request_shown 0) o)
unfolding kind_of
request_kind none = record { none_or = λ n. absurd (n refl) }
request_kind (some v) = record { none_or = λ n. refl }

replicate_kind : (o : Option message.Replicated) → OfKind 2 (shown_or replicate_shown o)
unfolding kind_of
replicate_kind none = record { none_or = λ n. absurd (n refl) }
replicate_kind (some v) = record { none_or = λ n. refl }

new_epoch_kind : (o : Option message.NewEpoch) → OfKind 3 (shown_or new_epoch_shown o)
unfolding kind_of
new_epoch_kind none = record { none_or = λ n. absurd (n refl) }
new_epoch_kind (some v) = record { none_or = λ n. refl }

copy_kind : (o : Option message.Copied) → OfKind 4 (shown_or copy_shown o)
unfolding kind_of
copy_kind none = record { none_or = λ n. absurd (n refl) }
copy_kind (some v) = record { none_or = λ n. refl }

write_kind : (o : Option message.Write) → OfKind 5 (shown_or write_shown o)
unfolding kind_of
write_kind none = record { none_or = λ n. absurd (n refl) }
write_kind (some v) = record { none_or = λ n. refl }

search_kind : (o : Option message.Query) → OfKind 6 (shown_or search_shown o)
unfolding kind_of
search_kind none = record { none_or = λ n. absurd (n refl) }
search_kind (some v) = record { none_or = λ n. refl }

module _ (b : Bool) (x y m : Message) (e : cond b x y ≡ m) where
  -- a message of another kind than x was picked from y
  passed : (k n : ℕ) → OfKind k x → kind_of m ≡ n → (n ≡ 0 → ⊥) → (k ≡ n → ⊥) → y ≡ m
  passed k n o h z d = passed' b e
    where
      passed' : (c : Bool) → cond c x y ≡ m → y ≡ m
      passed' true f = absurd (d (sym (o.none_or (λ q. z (sym (ap kind_of f ∙ h) ∙ q))) ∙ ap kind_of f ∙ h))
      passed' false f = f

  -- a message that was not picked from y was picked from x
  taken : (y ≡ m → ⊥) → x ≡ m
  taken d = taken' b e
    where
      taken' : (c : Bool) → cond c x y ≡ m → x ≡ m
      taken' true f = f
      taken' false f = absurd (d f)

module _ {A : Type 0} (f : A → Message) (m : Message) where
  shown_some : (o : Option A) → (kind_of m ≡ 0 → ⊥) → shown_or f o ≡ m → Decoded f o m
  unfolding kind_of
  shown_some none z e = absurd (z (ap kind_of (sym e)))
  shown_some (some v) z e = record { read = v; decoded = refl; shown = e }

-- ---- where `decode` answered a kind

module _ (s : List ℕ) (m : Message) where
  abbrev rest_6 : Message
  rest_6 = shown_or reply_shown (message.decode_reply s)

  abbrev rest_5 : Message
  rest_5 = cond (eqb (get_or s 0 0) 0x24) (shown_or search_shown (message.decode_search s)) (shown_or reply_shown (message.decode_reply s))

  abbrev rest_4 : Message
  rest_4 = cond (eqb (get_or s 0 0) 0x23) (shown_or write_shown (message.decode_write s)) (cond (eqb (get_or s 0 0) 0x24) (shown_or search_shown (message.decode_search s)) (shown_or reply_shown (message.decode_reply s)))

  abbrev rest_3 : Message
  rest_3 = cond (eqb (get_or s 0 0) 0x22) (shown_or copy_shown (message.decode_copy_shard s)) (cond (eqb (get_or s 0 0) 0x23) (shown_or write_shown (message.decode_write s)) (cond (eqb (get_or s 0 0) 0x24) (shown_or search_shown (message.decode_search s)) (shown_or reply_shown (message.decode_reply s))))

  abbrev rest_2 : Message
  rest_2 = cond (eqb (get_or s 0 0) 0x21) (shown_or new_epoch_shown (message.decode_new_epoch s)) (cond (eqb (get_or s 0 0) 0x22) (shown_or copy_shown (message.decode_copy_shard s)) (cond (eqb (get_or s 0 0) 0x23) (shown_or write_shown (message.decode_write s)) (cond (eqb (get_or s 0 0) 0x24) (shown_or search_shown (message.decode_search s)) (shown_or reply_shown (message.decode_reply s)))))

  abbrev rest_1 : Message
  rest_1 = cond (eqb (get_or s 0 0) 0x20) (shown_or replicate_shown (message.decode_replicate s)) (cond (eqb (get_or s 0 0) 0x21) (shown_or new_epoch_shown (message.decode_new_epoch s)) (cond (eqb (get_or s 0 0) 0x22) (shown_or copy_shown (message.decode_copy_shard s)) (cond (eqb (get_or s 0 0) 0x23) (shown_or write_shown (message.decode_write s)) (cond (eqb (get_or s 0 0) 0x24) (shown_or search_shown (message.decode_search s)) (shown_or reply_shown (message.decode_reply s))))))

  -- no reply is of another kind
  not_reply : (n : ℕ) → kind_of m ≡ n → (n ≡ 0 → ⊥) → (7 ≡ n → ⊥) → rest_6 ≡ m → ⊥
  not_reply n h z d e = d (sym ((reply_kind (message.decode_reply s)).none_or (λ q. z (sym (ap kind_of e ∙ h) ∙ q))) ∙ ap kind_of e ∙ h)

  request-picked : kind_of m ≡ 1 → message_of s ≡ m → shown_or (request_shown 0) (request.decode_request s) ≡ m
  unfolding message_of
  request-picked h e =
      taken (eqb (get_or s 0 0) 0x01) (shown_or (request_shown 0) (request.decode_request s)) rest_1 m e (λ f.
      let f2 : rest_2 ≡ m = passed (eqb (get_or s 0 0) 0x20) (shown_or replicate_shown (message.decode_replicate s)) rest_2 m f 2 1 (replicate_kind (message.decode_replicate s)) h (λ z. omega arith) (λ z. omega arith) in
      let f3 : rest_3 ≡ m = passed (eqb (get_or s 0 0) 0x21) (shown_or new_epoch_shown (message.decode_new_epoch s)) rest_3 m f2 3 1 (new_epoch_kind (message.decode_new_epoch s)) h (λ z. omega arith) (λ z. omega arith) in
      let f4 : rest_4 ≡ m = passed (eqb (get_or s 0 0) 0x22) (shown_or copy_shown (message.decode_copy_shard s)) rest_4 m f3 4 1 (copy_kind (message.decode_copy_shard s)) h (λ z. omega arith) (λ z. omega arith) in
      let f5 : rest_5 ≡ m = passed (eqb (get_or s 0 0) 0x23) (shown_or write_shown (message.decode_write s)) rest_5 m f4 5 1 (write_kind (message.decode_write s)) h (λ z. omega arith) (λ z. omega arith) in
      let f6 : rest_6 ≡ m = passed (eqb (get_or s 0 0) 0x24) (shown_or search_shown (message.decode_search s)) rest_6 m f5 6 1 (search_kind (message.decode_search s)) h (λ z. omega arith) (λ z. omega arith) in
      not_reply 1 h (λ z. omega arith) (λ z. omega arith) f6)

  replicate_picked : kind_of m ≡ 2 → message_of s ≡ m → shown_or replicate_shown (message.decode_replicate s) ≡ m
  unfolding message_of
  replicate_picked h e =
      let e1 : rest_1 ≡ m = passed (eqb (get_or s 0 0) 0x01) (shown_or (request_shown 0) (request.decode_request s)) rest_1 m e 1 2 (request_kind (request.decode_request s)) h (λ z. omega arith) (λ z. omega arith) in
      taken (eqb (get_or s 0 0) 0x20) (shown_or replicate_shown (message.decode_replicate s)) rest_2 m e1 (λ f.
      let f3 : rest_3 ≡ m = passed (eqb (get_or s 0 0) 0x21) (shown_or new_epoch_shown (message.decode_new_epoch s)) rest_3 m f 3 2 (new_epoch_kind (message.decode_new_epoch s)) h (λ z. omega arith) (λ z. omega arith) in
      let f4 : rest_4 ≡ m = passed (eqb (get_or s 0 0) 0x22) (shown_or copy_shown (message.decode_copy_shard s)) rest_4 m f3 4 2 (copy_kind (message.decode_copy_shard s)) h (λ z. omega arith) (λ z. omega arith) in
      let f5 : rest_5 ≡ m = passed (eqb (get_or s 0 0) 0x23) (shown_or write_shown (message.decode_write s)) rest_5 m f4 5 2 (write_kind (message.decode_write s)) h (λ z. omega arith) (λ z. omega arith) in
      let f6 : rest_6 ≡ m = passed (eqb (get_or s 0 0) 0x24) (shown_or search_shown (message.decode_search s)) rest_6 m f5 6 2 (search_kind (message.decode_search s)) h (λ z. omega arith) (λ z. omega arith) in
      not_reply 2 h (λ z. omega arith) (λ z. omega arith) f6)

  new_epoch_picked : kind_of m ≡ 3 → message_of s ≡ m → shown_or new_epoch_shown (message.decode_new_epoch s) ≡ m
  unfolding message_of
  new_epoch_picked h e =
      let e1 : rest_1 ≡ m = passed (eqb (get_or s 0 0) 0x01) (shown_or (request_shown 0) (request.decode_request s)) rest_1 m e 1 3 (request_kind (request.decode_request s)) h (λ z. omega arith) (λ z. omega arith) in
      let e2 : rest_2 ≡ m = passed (eqb (get_or s 0 0) 0x20) (shown_or replicate_shown (message.decode_replicate s)) rest_2 m e1 2 3 (replicate_kind (message.decode_replicate s)) h (λ z. omega arith) (λ z. omega arith) in
      taken (eqb (get_or s 0 0) 0x21) (shown_or new_epoch_shown (message.decode_new_epoch s)) rest_3 m e2 (λ f.
      let f4 : rest_4 ≡ m = passed (eqb (get_or s 0 0) 0x22) (shown_or copy_shown (message.decode_copy_shard s)) rest_4 m f 4 3 (copy_kind (message.decode_copy_shard s)) h (λ z. omega arith) (λ z. omega arith) in
      let f5 : rest_5 ≡ m = passed (eqb (get_or s 0 0) 0x23) (shown_or write_shown (message.decode_write s)) rest_5 m f4 5 3 (write_kind (message.decode_write s)) h (λ z. omega arith) (λ z. omega arith) in
      let f6 : rest_6 ≡ m = passed (eqb (get_or s 0 0) 0x24) (shown_or search_shown (message.decode_search s)) rest_6 m f5 6 3 (search_kind (message.decode_search s)) h (λ z. omega arith) (λ z. omega arith) in
      not_reply 3 h (λ z. omega arith) (λ z. omega arith) f6)

  copy_picked : kind_of m ≡ 4 → message_of s ≡ m → shown_or copy_shown (message.decode_copy_shard s) ≡ m
  unfolding message_of
  copy_picked h e =
      let e1 : rest_1 ≡ m = passed (eqb (get_or s 0 0) 0x01) (shown_or (request_shown 0) (request.decode_request s)) rest_1 m e 1 4 (request_kind (request.decode_request s)) h (λ z. omega arith) (λ z. omega arith) in
      let e2 : rest_2 ≡ m = passed (eqb (get_or s 0 0) 0x20) (shown_or replicate_shown (message.decode_replicate s)) rest_2 m e1 2 4 (replicate_kind (message.decode_replicate s)) h (λ z. omega arith) (λ z. omega arith) in
      let e3 : rest_3 ≡ m = passed (eqb (get_or s 0 0) 0x21) (shown_or new_epoch_shown (message.decode_new_epoch s)) rest_3 m e2 3 4 (new_epoch_kind (message.decode_new_epoch s)) h (λ z. omega arith) (λ z. omega arith) in
      taken (eqb (get_or s 0 0) 0x22) (shown_or copy_shown (message.decode_copy_shard s)) rest_4 m e3 (λ f.
      let f5 : rest_5 ≡ m = passed (eqb (get_or s 0 0) 0x23) (shown_or write_shown (message.decode_write s)) rest_5 m f 5 4 (write_kind (message.decode_write s)) h (λ z. omega arith) (λ z. omega arith) in
      let f6 : rest_6 ≡ m = passed (eqb (get_or s 0 0) 0x24) (shown_or search_shown (message.decode_search s)) rest_6 m f5 6 4 (search_kind (message.decode_search s)) h (λ z. omega arith) (λ z. omega arith) in
      not_reply 4 h (λ z. omega arith) (λ z. omega arith) f6)

  write-picked : kind_of m ≡ 5 → message_of s ≡ m → shown_or write_shown (message.decode_write s) ≡ m
  unfolding message_of
  write-picked h e =
      let e1 : rest_1 ≡ m = passed (eqb (get_or s 0 0) 0x01) (shown_or (request_shown 0) (request.decode_request s)) rest_1 m e 1 5 (request_kind (request.decode_request s)) h (λ z. omega arith) (λ z. omega arith) in
      let e2 : rest_2 ≡ m = passed (eqb (get_or s 0 0) 0x20) (shown_or replicate_shown (message.decode_replicate s)) rest_2 m e1 2 5 (replicate_kind (message.decode_replicate s)) h (λ z. omega arith) (λ z. omega arith) in
      let e3 : rest_3 ≡ m = passed (eqb (get_or s 0 0) 0x21) (shown_or new_epoch_shown (message.decode_new_epoch s)) rest_3 m e2 3 5 (new_epoch_kind (message.decode_new_epoch s)) h (λ z. omega arith) (λ z. omega arith) in
      let e4 : rest_4 ≡ m = passed (eqb (get_or s 0 0) 0x22) (shown_or copy_shown (message.decode_copy_shard s)) rest_4 m e3 4 5 (copy_kind (message.decode_copy_shard s)) h (λ z. omega arith) (λ z. omega arith) in
      taken (eqb (get_or s 0 0) 0x23) (shown_or write_shown (message.decode_write s)) rest_5 m e4 (λ f.
      let f6 : rest_6 ≡ m = passed (eqb (get_or s 0 0) 0x24) (shown_or search_shown (message.decode_search s)) rest_6 m f 6 5 (search_kind (message.decode_search s)) h (λ z. omega arith) (λ z. omega arith) in
      not_reply 5 h (λ z. omega arith) (λ z. omega arith) f6)

  search_picked : kind_of m ≡ 6 → message_of s ≡ m → shown_or search_shown (message.decode_search s) ≡ m
  unfolding message_of
  search_picked h e =
      let e1 : rest_1 ≡ m = passed (eqb (get_or s 0 0) 0x01) (shown_or (request_shown 0) (request.decode_request s)) rest_1 m e 1 6 (request_kind (request.decode_request s)) h (λ z. omega arith) (λ z. omega arith) in
      let e2 : rest_2 ≡ m = passed (eqb (get_or s 0 0) 0x20) (shown_or replicate_shown (message.decode_replicate s)) rest_2 m e1 2 6 (replicate_kind (message.decode_replicate s)) h (λ z. omega arith) (λ z. omega arith) in
      let e3 : rest_3 ≡ m = passed (eqb (get_or s 0 0) 0x21) (shown_or new_epoch_shown (message.decode_new_epoch s)) rest_3 m e2 3 6 (new_epoch_kind (message.decode_new_epoch s)) h (λ z. omega arith) (λ z. omega arith) in
      let e4 : rest_4 ≡ m = passed (eqb (get_or s 0 0) 0x22) (shown_or copy_shown (message.decode_copy_shard s)) rest_4 m e3 4 6 (copy_kind (message.decode_copy_shard s)) h (λ z. omega arith) (λ z. omega arith) in
      let e5 : rest_5 ≡ m = passed (eqb (get_or s 0 0) 0x23) (shown_or write_shown (message.decode_write s)) rest_5 m e4 5 6 (write_kind (message.decode_write s)) h (λ z. omega arith) (λ z. omega arith) in
      taken (eqb (get_or s 0 0) 0x24) (shown_or search_shown (message.decode_search s)) rest_6 m e5 (λ f.
      not_reply 6 h (λ z. omega arith) (λ z. omega arith) f)

  reply-picked : kind_of m ≡ 7 → message_of s ≡ m → shown_or reply_shown (message.decode_reply s) ≡ m
  unfolding message_of
  reply-picked h e =
      let e1 : rest_1 ≡ m = passed (eqb (get_or s 0 0) 0x01) (shown_or (request_shown 0) (request.decode_request s)) rest_1 m e 1 7 (request_kind (request.decode_request s)) h (λ z. omega arith) (λ z. omega arith) in
      let e2 : rest_2 ≡ m = passed (eqb (get_or s 0 0) 0x20) (shown_or replicate_shown (message.decode_replicate s)) rest_2 m e1 2 7 (replicate_kind (message.decode_replicate s)) h (λ z. omega arith) (λ z. omega arith) in
      let e3 : rest_3 ≡ m = passed (eqb (get_or s 0 0) 0x21) (shown_or new_epoch_shown (message.decode_new_epoch s)) rest_3 m e2 3 7 (new_epoch_kind (message.decode_new_epoch s)) h (λ z. omega arith) (λ z. omega arith) in
      let e4 : rest_4 ≡ m = passed (eqb (get_or s 0 0) 0x22) (shown_or copy_shown (message.decode_copy_shard s)) rest_4 m e3 4 7 (copy_kind (message.decode_copy_shard s)) h (λ z. omega arith) (λ z. omega arith) in
      let e5 : rest_5 ≡ m = passed (eqb (get_or s 0 0) 0x23) (shown_or write_shown (message.decode_write s)) rest_5 m e4 5 7 (write_kind (message.decode_write s)) h (λ z. omega arith) (λ z. omega arith) in
      let e6 : rest_6 ≡ m = passed (eqb (get_or s 0 0) 0x24) (shown_or search_shown (message.decode_search s)) rest_6 m e5 6 7 (search_kind (message.decode_search s)) h (λ z. omega arith) (λ z. omega arith) in
      e6

module _ (s : List ℕ) where
  pub request_decoded : (p : RequestPart) → message_of s ≡ Request p → Decoded (request_shown 0) (request.decode_request s) (Request p)
  unfolding kind_of
  request_decoded p e = shown_some (request_shown 0) (Request p) (request.decode_request s) (λ z. omega arith) (request-picked s (Request p) refl e)

  pub replicate_decoded : (p : ReplicatePart) → message_of s ≡ Replicate p → Decoded replicate_shown (message.decode_replicate s) (Replicate p)
  unfolding kind_of
  replicate_decoded p e = shown_some replicate_shown (Replicate p) (message.decode_replicate s) (λ z. omega arith) (replicate_picked s (Replicate p) refl e)

  pub new_epoch_decoded : (p : NewEpochPart) → message_of s ≡ NewEpoch p → Decoded new_epoch_shown (message.decode_new_epoch s) (NewEpoch p)
  unfolding kind_of
  new_epoch_decoded p e = shown_some new_epoch_shown (NewEpoch p) (message.decode_new_epoch s) (λ z. omega arith) (new_epoch_picked s (NewEpoch p) refl e)

  pub copy_decoded : (p : CopyPart) → message_of s ≡ CopyShard p → Decoded copy_shown (message.decode_copy_shard s) (CopyShard p)
  unfolding kind_of
  copy_decoded p e = shown_some copy_shown (CopyShard p) (message.decode_copy_shard s) (λ z. omega arith) (copy_picked s (CopyShard p) refl e)

  pub write_decoded : (p : WritePart) → message_of s ≡ Write p → Decoded write_shown (message.decode_write s) (Write p)
  unfolding kind_of
  write_decoded p e = shown_some write_shown (Write p) (message.decode_write s) (λ z. omega arith) (write-picked s (Write p) refl e)

  pub search_decoded : (p : SearchPart) → message_of s ≡ Search p → Decoded search_shown (message.decode_search s) (Search p)
  unfolding kind_of
  search_decoded p e = shown_some search_shown (Search p) (message.decode_search s) (λ z. omega arith) (search_picked s (Search p) refl e)

  pub stored_decoded : (n : Offset) → message_of s ≡ Stored n → Decoded reply_shown (message.decode_reply s) (Stored n)
  unfolding kind_of
  stored_decoded n e = shown_some reply_shown (Stored n) (message.decode_reply s) (λ z. omega arith) (reply-picked s (Stored n) refl e)

  pub gap_decoded : (n : Offset) → message_of s ≡ Gap n → Decoded reply_shown (message.decode_reply s) (Gap n)
  unfolding kind_of
  gap_decoded n e = shown_some reply_shown (Gap n) (message.decode_reply s) (λ z. omega arith) (reply-picked s (Gap n) refl e)

  pub stale_decoded : (n : Epoch) → message_of s ≡ StaleEpoch n → Decoded reply_shown (message.decode_reply s) (StaleEpoch n)
  unfolding kind_of
  stale_decoded n e = shown_some reply_shown (StaleEpoch n) (message.decode_reply s) (λ z. omega arith) (reply-picked s (StaleEpoch n) refl e)

  pub adopted_decoded : (n : Offset) → message_of s ≡ Adopted n → Decoded reply_shown (message.decode_reply s) (Adopted n)
  unfolding kind_of
  adopted_decoded n e = shown_some reply_shown (Adopted n) (message.decode_reply s) (λ z. omega arith) (reply-picked s (Adopted n) refl e)

-- ---- where `spec`'s decoder reads a value

first_byte : (c : ℕ) (r : Format) (s : List ℕ) → whole (code c ▸ r) s ≡ true → get_or s 0 0 ≡ c
unfolding whole
first_byte c r s w = eqb-true _ _ (and_right _ _ (and_left _ _ (and_left _ _ w)))

module _ (s : List ℕ) where
  pub request-answered : (v : request.Request) → request.decode_request s ≡ some v → message_of s ≡ (request_shown 0) v
  unfolding request.decode_request
  request-answered v e =
      let w = (whenever_some (whole request.request_f s) (request.request_of (value request.request_f s 0)) v e).0 in
      sym (message_01 s (first_byte 0x01 _ s w)) ∙ ap (shown_or (request_shown 0)) e

  pub replicate_answered : (v : message.Replicated) → message.decode_replicate s ≡ some v → message_of s ≡ replicate_shown v
  unfolding message.decode_replicate
  replicate_answered v e =
      let w = (whenever_some (whole message.replicate_f s) (message.replicate_of (value message.replicate_f s 0)) v e).0 in
      sym (message_20 s (first_byte 0x20 _ s w)) ∙ ap (shown_or replicate_shown) e

  pub new_epoch_answered : (v : message.NewEpoch) → message.decode_new_epoch s ≡ some v → message_of s ≡ new_epoch_shown v
  unfolding message.decode_new_epoch
  new_epoch_answered v e =
      let w = (whenever_some (whole message.new_epoch_f s) (message.new_epoch_of (value message.new_epoch_f s 0)) v e).0 in
      sym (message_21 s (first_byte 0x21 _ s w)) ∙ ap (shown_or new_epoch_shown) e

  pub copy_answered : (v : message.Copied) → message.decode_copy_shard s ≡ some v → message_of s ≡ copy_shown v
  unfolding message.decode_copy_shard
  copy_answered v e =
      let w = (whenever_some (whole message.copy_shard_f s) (message.copy_shard_of (value message.copy_shard_f s 0)) v e).0 in
      sym (message_22 s (first_byte 0x22 _ s w)) ∙ ap (shown_or copy_shown) e

  pub write-answered : (v : message.Write) → message.decode_write s ≡ some v → message_of s ≡ write_shown v
  unfolding message.decode_write
  write-answered v e =
      let w = (whenever_some (whole message.write_f s) (message.write_of (value message.write_f s 0)) v e).0 in
      sym (message_23 s (first_byte 0x23 _ s w)) ∙ ap (shown_or write_shown) e

  pub search_answered_lem : (v : message.Query) → message.decode_search s ≡ some v → message_of s ≡ search_shown v
  unfolding message.decode_search
  search_answered_lem v e =
      let w = (whenever_some (whole message.search_f s) (message.search_of (value message.search_f s 0)) v e).0 in
      sym (message_24 s (first_byte 0x24 _ s w)) ∙ ap (shown_or search_shown) e

  pub reply-answered : (v : message.Reply) → message.decode_reply s ≡ some v → message_of s ≡ reply_shown v
  unfolding message.decode_reply whole
  reply-answered v e =
      let w = (whenever_some (whole message.reply_f s) (message.reply_of (value message.reply_f s 0)) v e).0 in
      let f : fits message.reply_f s 0 ≡ true = and_left _ _ w in
      let no : (c : ℕ) → eqb c 0x30 ≡ false → eqb c 0x31 ≡ false → eqb c 0x32 ≡ false → eqb c 0x33 ≡ false → get_or s 0 0 ≡ c → ⊥ =
      λ c p q t u h. false_not_true (and_right _ _ (and_left _ _ (and_right _ _ (and_right _ _ (and_right _ _ (rw (h, p, q, t, u) at f)))))) in
      sym (message-reply s (no 0x01 refl refl refl refl) (no 0x20 refl refl refl refl) (no 0x21 refl refl refl refl)
      (no 0x22 refl refl refl refl) (no 0x23 refl refl refl refl) (no 0x24 refl refl refl refl))
      ∙ ap (shown_or reply_shown) e
