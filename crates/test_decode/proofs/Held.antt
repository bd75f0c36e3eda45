-- What the reader answers lies in the message: `held` says it of every answer. The lemmas on rows serve the loops that
-- show lists and entries one after the other. Assumes nothing.
use Prim.Native.Nat.{ℕ, zero, suc, ◌+◌, ◌-◌, ◌*◌, ◌≤◌, ◌<◌}
use mathlib.Core.Path.{◌≡◌, refl, sym, ap, subst, ◌∙◌}
use mathlib.Core.Bool.{Bool, true, false, cond}
use mathlib.Core.Logic.{inl, inr}
use mathlib.Core.List.{List, map}
use mathlib.Core.Option.{Option, none, some}
use lib.ListN.{length, get_or}
use lib.Dec.{eqb}
use native.Mathlib.Omega.{arith}
use native.Mathlib.Nat.{zero-mul, suc-mul}
use borrow.Author.Tests.{eqb-true, eqb-false, leb-true}
use Rattle.spec.specs.Layout.Format.{Format, Value, many, ◌▸◌, fits, fits_n, next, value, value_n, number_at, whole}
use Rattle.spec.specs.Layout.Parts.{u64, u32, op_f, entry_f, op_of, entry_of, end_of, whenever}
use Rattle.spec.specs.Layout.Request as request
use Rattle.spec.specs.Layout.Message as message
use Rattle.spec_laws.proofs.Wire.Tests.{and_left, and_right}
use Rattle.spec_laws.proofs.Wire.Data.{length_mapped}
use Rattle.wire_read.specs.Shown.{part, op_shown, entry_shown, command_shown, shown_or, request_shown, replicate_shown, new_epoch_shown, copy_shown, write_shown, search_shown, reply_shown, message_of}
use Rattle.wire_read.specs.declared.Part.{Part}
use Rattle.wire_read.specs.declared.EntryPart.{EntryPart}
use Rattle.wire_read.specs.declared.Message.{Message}
use Rattle.wire_read.proofs.Places.{length-value_n, upsert_is, upsert_room, delete_is}
use Rattle.wire_read.proofs.Skips.{fixed_next}
use Rattle.wire_read.proofs.Commands.{fits_10, shown_10}
use Rattle.test_decode.specs.Held.{Run, Row, OpHeld, CommandHeld, Held}

-- ---- items of one width

module _ (w : ℕ) (f : Format) (s : List ℕ) (step : (p : ℕ) → next f s p ≡ p + w) (room : (p : ℕ) → fits f s p ≡ true → p + w ≤ length s) where
  -- as many as fit reach no further than the bytes
  run_room : (n p : ℕ) → p ≤ length s → fits_n (fits f s) (next f s) n p ≡ true → p + n * w ≤ length s
  run_room zero p l e = omega (arith, zero-mul w)
  run_room (suc n) p l e =
      let a : p + w ≤ length s = room p (and_left _ _ e) in
      let r : fits_n (fits f s) (next f s) n (p + w) ≡ true =
      subst (λ (q : ℕ). fits_n (fits f s) (next f s) n q ≡ true) (step p) (and_right _ _ e) in
      let b : p + w + n * w ≤ length s = run_room n (p + w) a r in
      omega (arith, suc-mul n w)

  -- a count of k bytes, and as many items
  run-held : (k lo hi at : ℕ) → fits (many k lo hi f) s at ≡ true → (n : ℕ) → n ≡ number_at k s at → at + k + n * w ≤ length s
  run-held k lo hi at e n h =
      let l : at + k ≤ length s = leb-true _ _ (and_left _ _ e) in
      let r : fits_n (fits f s) (next f s) n (at + k) ≡ true = rw h (and_right _ _ (and_right _ _ (and_right _ _ e))) in
      run_room n (at + k) l r

module _ (s : List ℕ) where
  vector-run : (lo hi at : ℕ) → fits (many 1 lo hi u32) s at ≡ true → Run 4 s (part (at + 1) (length (value (many 1 lo hi u32) s at)))
  vector-run lo hi at e =
      run-held 4 u32 s (λ p. refl) (λ p h. leb-true _ _ h) 1 lo hi at e _ (length-value_n (value u32 s) (next u32 s) (number_at 1 s at) (at + 1))

  nodes-run : (at : ℕ) → fits (many 1 0 8 u64) s at ≡ true → Run 8 s (part (at + 1) (length (value (many 1 0 8 u64) s at)))
  nodes-run at e =
      run-held 8 u64 s (λ p. refl) (λ p h. leb-true _ _ h) 1 0 8 at e _ (length-value_n (value u64 s) (next u64 s) (number_at 1 s at) (at + 1))

  table-run : (hi at : ℕ) → fits (many 2 0 hi (u64 ▸ u64)) s at ≡ true
      → Run 16 s (part (at + 2) (length (map end_of (value (many 2 0 hi (u64 ▸ u64)) s at))))
  table-run hi at e =
      run-held 16 (u64 ▸ u64) s (λ p. omega arith) (λ p h. let l : p + 8 + 8 ≤ length s = leb-true _ _ (and_right _ _ h) in omega arith) 2 0 hi at e _
      (length_mapped end_of (value_n (value (u64 ▸ u64) s) (next (u64 ▸ u64) s) (number_at 2 s at) (at + 2)) ∙ length-value_n (value (u64 ▸ u64) s) (next (u64 ▸ u64) s) (number_at 2 s at) (at + 2))

  -- the list after the nodes at a place
  nodes-next : (at : ℕ) → at + 1 + length (value (many 1 0 8 u64) s at) * 8 ≡ next (many 1 0 8 u64) s at
  nodes-next at =
      ap (λ (n : ℕ). at + 1 + n * 8) (length-value_n (value u64 s) (next u64 s) (number_at 1 s at) (at + 1))
      ∙ sym (fixed_next s 8 (number_at 1 s at) (at + 1))

-- ---- items of any format

module _ (f : Format) (s : List ℕ) where
  row-held : (k lo hi at : ℕ) → fits (many k lo hi f) s at ≡ true → (n : ℕ) → n ≡ number_at k s at → Row f s (part (at + k) n)
  row-held k lo hi at e n h = rw h (and_right _ _ (and_right _ _ (and_right _ _ e)))

  -- a loop over a row of n items: before the first turn, at the item of a turn, and after it
  pub row-start : (n at : ℕ) → Row f s (part at n) → Row f s (part at (n - 0))
  row-start n at h = let e : n - 0 ≡ n = omega arith in rw e h

  module _ (n at i : ℕ) (l : i < n) (h : Row f s (part at (n - i))) where
    more : Row f s (part at (suc (n - (i + 1))))
    more = let e : n - i ≡ suc (n - (i + 1)) = omega arith in rw e at h

    pub row_first : fits f s at ≡ true
    row_first = and_left _ _ more

    pub row-rest : Row f s (part (next f s at) (n - (i + 1)))
    row-rest = and_right _ _ more

-- ---- the parts

op-held : (s : List ℕ) (at : ℕ) → fits op_f s at ≡ true → OpHeld s (op_shown at (op_of (value op_f s at)))
op-held s at e = by (eqb (get_or s at 0) 1) refl
  where
    by : (b : Bool) → eqb (get_or s at 0) 1 ≡ b → OpHeld s (op_shown at (op_of (value op_f s at)))
    by true h = subst (OpHeld s) (upsert_is s at (eqb-true _ _ h)) (upsert_room s at e (eqb-true _ _ h))
    by false h = subst (OpHeld s) (delete_is s at (eqb-false _ _ h)) tt

entry-held : (s : List ℕ) (at : ℕ) → fits entry_f s at ≡ true → OpHeld s (op_shown (at + 8 + 8) (entry_of (value entry_f s at)).op)
entry-held s at e = op-held s (at + 8 + 8) (and_right _ _ (and_right _ _ e))

module _ (s : List ℕ) (at : ℕ) where
  create_held : fits request.create_f s (at + 1) ≡ true → CommandHeld s (command_shown at (request.create_of (value request.create_f s (at + 1))))
  create_held e =
      let p = at + 1 + 1 + 32 + 4 + 1 + 4 + 4 in
      row-held (many 1 0 8 u64) s 1 0 16 p (and_right _ _ (and_right _ _ (and_right _ _ (and_right _ _ (and_right _ _ e))))) _
      (length-value_n (value (many 1 0 8 u64) s) (next (many 1 0 8 u64) s) (number_at 1 s p) (p + 1))

  -- the commands 11 to 19 have no items
  others : (v : Value request.command_f) → ((w : Value request.create_f) → v ≡ inl w → ⊥) → CommandHeld s (command_shown at (request.command_of v))
  others (inl w) h = absurd (h w refl)
  others (inr (inl w)) h = tt
  others (inr (inr (inl w))) h = tt
  others (inr (inr (inr (inl w)))) h = tt
  others (inr (inr (inr (inr (inl w))))) h = tt
  others (inr (inr (inr (inr (inr (inl w)))))) h = tt
  others (inr (inr (inr (inr (inr (inr (inl w))))))) h = tt
  others (inr (inr (inr (inr (inr (inr (inr (inl w)))))))) h = tt
  others (inr (inr (inr (inr (inr (inr (inr (inr (inl w))))))))) h = tt
  others (inr (inr (inr (inr (inr (inr (inr (inr (inr w))))))))) h = tt

  command_held : fits request.command_f s at ≡ true → CommandHeld s (command_shown at (request.command_of (value request.command_f s at)))
  command_held e = by (eqb (get_or s at 0) 0x10) refl
    where
      by : (b : Bool) → eqb (get_or s at 0) 0x10 ≡ b → CommandHeld s (command_shown at (request.command_of (value request.command_f s at)))
      by true h =
          let q = eqb-true _ _ h in
          subst (CommandHeld s) (shown_10 s at q) (create_held (fits_10 s at e q))
      by false h = others (value request.command_f s at) (λ w q. let r = rw h at q in let z : ◌≡◌ {A = ℕ} 0 1 = cc in omega arith)

-- ---- a turn of a loop: the list or the entry that was read, and the place after it

module _ (s : List ℕ) (n at i : ℕ) (l : i < n) where
  module _ (h : Row (many 1 0 8 u64) s (part at (n - i))) (p : Part) (q : p ≡ part (at + 1) (length (value (many 1 0 8 u64) s at))) where
    pub list-run : Run 8 s p
    list-run = subst (Run 8 s) (sym q) (nodes-run s at (row_first (many 1 0 8 u64) s n at i l h))

    pub list-after : Row (many 1 0 8 u64) s (part (p.at + p.len * 8) (n - (i + 1)))
    list-after =
        subst (λ (z : ℕ). Row (many 1 0 8 u64) s (part z (n - (i + 1))))
        (sym (ap (λ (z : Part). z.at + z.len * 8) q ∙ nodes-next s at))
        (row-rest (many 1 0 8 u64) s n at i l h)

  module _ (h : Row entry_f s (part at (n - i))) (p : EntryPart) (q : p ≡ entry_shown at (entry_of (value entry_f s at)) (next entry_f s at)) where
    pub entry-op : OpHeld s p.op
    entry-op = subst (λ (z : EntryPart). OpHeld s z.op) (sym q) (entry-held s at (row_first entry_f s n at i l h))

    pub entry-after : Row entry_f s (part p.next (n - (i + 1)))
    entry-after = subst (λ (z : EntryPart). Row entry_f s (part z.next (n - (i + 1)))) (sym q) (row-rest entry_f s n at i l h)

-- ---- the messages

module _ {A : Type 0} (s : List ℕ) (f : A → Message) where
  read_held : (b : Bool) (a : A) → (b ≡ true → Held s (f a)) → Held s (shown_or f (whenever b a))
  read_held true a h = h refl
  read_held false a h = tt

reply-held : (s : List ℕ) (o : Option message.Reply) → Held s (shown_or reply_shown o)
reply-held s none = tt
reply-held s (some (message.reply_stored n)) = tt
reply-held s (some (message.reply_gap n)) = tt
reply-held s (some (message.reply_stale n)) = tt
reply-held s (some (message.reply_adopted n)) = tt

module _ (s : List ℕ) where
  request-held : Held s (shown_or (request_shown 0) (request.decode_request s))
  unfolding request.decode_request whole
  request-held =
      read_held s (request_shown 0) (whole request.request_f s) (request.request_of (value request.request_f s 0)) (λ w.
      command_held s 25 (and_right _ _ (and_right _ _ (and_right _ _ (and_right _ _ (and_left _ _ w))))))

  replicate_held_lem : Held s (shown_or replicate_shown (message.decode_replicate s))
  unfolding message.decode_replicate whole
  replicate_held_lem =
      read_held s replicate_shown (whole message.replicate_f s) (message.replicate_of (value message.replicate_f s 0)) (λ w.
      op-held s 54 (and_right _ _ (and_right _ _ (and_right _ _ (and_right _ _ (and_left _ _ w))))))

  new_epoch_held_lem : Held s (shown_or new_epoch_shown (message.decode_new_epoch s))
  unfolding message.decode_new_epoch whole
  new_epoch_held_lem =
      read_held s new_epoch_shown (whole message.new_epoch_f s) (message.new_epoch_of (value message.new_epoch_f s 0)) (λ w.
      table-run s 1024 54 (and_left _ _ (and_right _ _ (and_right _ _ (and_right _ _ (and_right _ _ (and_left _ _ w)))))))

  copy_held_lem : Held s (shown_or copy_shown (message.decode_copy_shard s))
  unfolding message.decode_copy_shard whole
  copy_held_lem =
      read_held s copy_shown (whole message.copy_shard_f s) (message.copy_shard_of (value message.copy_shard_f s 0)) (λ w.
      row-held entry_f s 2 0 256 46 (and_right _ _ (and_right _ _ (and_right _ _ (and_left _ _ w)))) _
      (length_mapped entry_of (value_n (value entry_f s) (next entry_f s) (number_at 2 s 46) 48) ∙ length-value_n (value entry_f s) (next entry_f s) (number_at 2 s 46) 48))

  write-held : Held s (shown_or write_shown (message.decode_write s))
  unfolding message.decode_write whole
  write-held =
      read_held s write_shown (whole message.write_f s) (message.write_of (value message.write_f s 0)) (λ w.
      op-held s 46 (and_right _ _ (and_right _ _ (and_right _ _ (and_left _ _ w)))))

  search_held_lem : Held s (shown_or search_shown (message.decode_search s))
  unfolding message.decode_search whole
  search_held_lem =
      read_held s search_shown (whole message.search_f s) (message.search_of (value message.search_f s 0)) (λ w.
      vector-run s 1 32 50 (and_right _ _ (and_right _ _ (and_right _ _ (and_right _ _ (and_left _ _ w))))))

  -- by the code
  chosen : (a b c d e f : Bool) → Held s
      (cond a (shown_or (request_shown 0) (request.decode_request s))
      (cond b (shown_or replicate_shown (message.decode_replicate s))
      (cond c (shown_or new_epoch_shown (message.decode_new_epoch s))
      (cond d (shown_or copy_shown (message.decode_copy_shard s))
      (cond e (shown_or write_shown (message.decode_write s))
      (cond f (shown_or search_shown (message.decode_search s)) (shown_or reply_shown (message.decode_reply s))))))))
  chosen true b c d e f = request-held
  chosen false true c d e f = replicate_held_lem
  chosen false false true d e f = new_epoch_held_lem
  chosen false false false true e f = copy_held_lem
  chosen false false false false true f = write-held
  chosen false false false false false true = search_held_lem
  chosen false false false false false false = reply-held s (message.decode_reply s)

  -- whatever the bytes are
  pub held : Held s (message_of s)
  unfolding message_of
  held =
      let is = eqb (get_or s 0 0) in
      chosen (is 0x01) (is 0x20) (is 0x21) (is 0x22) (is 0x23) (is 0x24)

  -- an answer of the reader, and the arm that it goes to
  pub told : (m n : Message) → m ≡ message_of s → m ≡ n → Held s n
  told m n p q = subst (Held s) (sym p ∙ q) held
