-- The commands 10 to 19, where one stands: how far the operands reach, and what is shown of them. Assumes nothing.
use Rattle.std.proofs.Common.{◌≡◌, ℕ, ◌+◌, ◌≤◌, true, List, length, get_or, sym, ap, ne_eqb, leb-true}
use Rattle.spec.specs.Layout.Format.{code, word, ◌▸◌, many, fits, next, value, number_at}
use Rattle.spec.specs.Layout.Parts.{u64, name_f, metric_of}
use Rattle.spec.specs.Layout.Request.{command_f, command_of, create_f, register_f, add_f, ownership_f, bench_f}
use Rattle.wire_read.proofs.Places.{length-value_n, text-length, count-length}
use Rattle.spec_laws.proofs.Wire.Tests.{and_left, and_right}
use Rattle.wire_read.specs.Shown.{part, create_part_of, register_of, dead_of, add_of, change_of, command_shown}
use Rattle.wire_read.specs.declared.CommandPart.TheVariants.{Create, Drop, Register, MarkNodeDead, AddReplica, Remove, Promote, Shrink, Expand, Bench}

-- ---- the operands at their place

module _ (s : List ℕ) (at : ℕ) where
  pub create_room_lem : fits create_f s at ≡ true → at + 1 + 32 + 4 + 1 + 4 + 4 + 1 ≤ length s
  create_room_lem e = leb-true _ _ (and_left _ _ (and_right _ _ (and_right _ _ (and_right _ _ (and_right _ _ (and_right _ _ e))))))

  pub create_is : fits create_f s at ≡ true
      → record {
        name = part (at + 1) (get_or s at 0);
        dimension = number_at 4 s (at + 1 + 32);
        metric = metric_of (get_or s (at + 1 + 32 + 4) 0);
        shards = number_at 4 s (at + 1 + 32 + 4 + 1);
        replication = number_at 4 s (at + 1 + 32 + 4 + 1 + 4);
        placement = part (at + 1 + 32 + 4 + 1 + 4 + 4 + 1) (get_or s (at + 1 + 32 + 4 + 1 + 4 + 4) 0);
      }
      ≡ create_part_of at (value create_f s at)
  create_is e =
      let n = sym (text-length 32 s at (and_left _ _ e)) in
      let p = sym (count-length 0 16 (many 1 0 8 u64) s (at + 1 + 32 + 4 + 1 + 4 + 4)) in
      λ i. record {
        name = part (at + 1) (n i);
        dimension = number_at 4 s (at + 1 + 32);
        metric = metric_of (get_or s (at + 1 + 32 + 4) 0);
        shards = number_at 4 s (at + 1 + 32 + 4 + 1);
        replication = number_at 4 s (at + 1 + 32 + 4 + 1 + 4);
        placement = part (at + 1 + 32 + 4 + 1 + 4 + 4 + 1) (p i);
      }

  pub register_room : fits register_f s at ≡ true → at + 8 + 1 + 64 + 8 ≤ length s
  register_room e = leb-true _ _ (and_right _ _ (and_right _ _ e))

  pub register_is : fits register_f s at ≡ true
      → record { node = record { 0 = number_at 8 s at }; address = part (at + 8 + 1) (get_or s (at + 8) 0); incarnation = number_at 8 s (at + 8 + 1 + 64) }
      ≡ register_of at (value register_f s at)
  register_is e =
      let n = sym (text-length 64 s (at + 8) (and_left _ _ (and_right _ _ e))) in
      λ i. record { node = record { 0 = number_at 8 s at }; address = part (at + 8 + 1) (n i); incarnation = number_at 8 s (at + 8 + 1 + 64) }

  pub name-room : fits name_f s at ≡ true → at + 1 + 32 ≤ length s
  name-room e = leb-true _ _ (and_left _ _ e)

  pub bench_room : fits (code 0x19 ▸ bench_f) s at ≡ true → at + 1 + 2 ≤ length s
  bench_room e = leb-true _ _ (and_left _ _ (and_right _ _ e))

  pub dead-room : fits (u64 ▸ u64) s at ≡ true → at + 8 + 8 ≤ length s
  dead-room e = leb-true _ _ (and_right _ _ e)

  pub add_room : fits add_f s at ≡ true → at + 1 + 32 + 4 + 8 + 8 + 8 ≤ length s
  add_room e = leb-true _ _ (and_right _ _ (and_right _ _ (and_right _ _ e)))

  pub change-room : fits ownership_f s at ≡ true → at + 1 + 32 + 4 + 8 + 8 ≤ length s
  change-room e = leb-true _ _ (and_right _ _ (and_right _ _ e))

-- ---- the command at its place

module _ (s : List ℕ) (at : ℕ) where
  pub command_room : fits command_f s at ≡ true → at + 1 ≤ length s
  command_room e = leb-true _ _ (and_left _ _ e)

  pub fits_10 : fits command_f s at ≡ true → get_or s at 0 ≡ 0x10 → fits create_f s (at + 1) ≡ true
  fits_10 e h = and_right _ _ (rw h at e)

  pub shown_10 : get_or s at 0 ≡ 0x10 → Create (create_part_of (at + 1) (value create_f s (at + 1))) ≡ command_shown at (command_of (value command_f s at))
  shown_10 h = rw h

  pub fits_11 : fits command_f s at ≡ true → get_or s at 0 ≡ 0x11 → fits name_f s (at + 1) ≡ true
  fits_11 e h = and_right _ _ (and_right _ _ (rw h at e))

  pub shown_11 : fits name_f s (at + 1) ≡ true → get_or s at 0 ≡ 0x11
      → Drop (part (at + 1 + 1) (get_or s (at + 1) 0)) ≡ command_shown at (command_of (value command_f s at))
  shown_11 e h = rw h (ap (λ (n : ℕ). Drop (part (at + 1 + 1) n)) (sym (text-length 32 s (at + 1) e)))

  pub fits_12 : fits command_f s at ≡ true → get_or s at 0 ≡ 0x12 → fits register_f s (at + 1) ≡ true
  fits_12 e h = and_right _ _ (and_right _ _ (and_right _ _ (rw h at e)))

  pub shown_12 : get_or s at 0 ≡ 0x12 → Register (register_of (at + 1) (value register_f s (at + 1))) ≡ command_shown at (command_of (value command_f s at))
  shown_12 h = rw h

  pub fits_13 : fits command_f s at ≡ true → get_or s at 0 ≡ 0x13 → fits (u64 ▸ u64) s (at + 1) ≡ true
  fits_13 e h = and_right _ _ (and_right _ _ (and_right _ _ (and_right _ _ (rw h at e))))

  pub shown_13 : get_or s at 0 ≡ 0x13 → MarkNodeDead (dead_of (value (u64 ▸ u64) s (at + 1))) ≡ command_shown at (command_of (value command_f s at))
  shown_13 h = rw h

  pub fits_14 : fits command_f s at ≡ true → get_or s at 0 ≡ 0x14 → fits add_f s (at + 1) ≡ true
  fits_14 e h = and_right _ _ (and_right _ _ (and_right _ _ (and_right _ _ (and_right _ _ (rw h at e)))))

  pub shown_14 : get_or s at 0 ≡ 0x14 → AddReplica (add_of (at + 1) (value add_f s (at + 1))) ≡ command_shown at (command_of (value command_f s at))
  shown_14 h = rw h

  pub fits_15 : fits command_f s at ≡ true → get_or s at 0 ≡ 0x15 → fits ownership_f s (at + 1) ≡ true
  fits_15 e h = and_right _ _ (and_right _ _ (and_right _ _ (and_right _ _ (and_right _ _ (and_right _ _ (rw h at e))))))

  pub shown_15 : get_or s at 0 ≡ 0x15 → Remove (change_of (at + 1) (value ownership_f s (at + 1))) ≡ command_shown at (command_of (value command_f s at))
  shown_15 h = rw h

  pub fits_16 : fits command_f s at ≡ true → get_or s at 0 ≡ 0x16 → fits ownership_f s (at + 1) ≡ true
  fits_16 e h = and_right _ _ (and_right _ _ (and_right _ _ (and_right _ _ (and_right _ _ (and_right _ _ (and_right _ _ (rw h at e)))))))

  pub shown_16 : get_or s at 0 ≡ 0x16 → Promote (change_of (at + 1) (value ownership_f s (at + 1))) ≡ command_shown at (command_of (value command_f s at))
  shown_16 h = rw h

  pub fits_17 : fits command_f s at ≡ true → get_or s at 0 ≡ 0x17 → fits ownership_f s (at + 1) ≡ true
  fits_17 e h = and_right _ _ (and_right _ _ (and_right _ _ (and_right _ _ (and_right _ _ (and_right _ _ (and_right _ _ (and_right _ _ (rw h at e))))))))

  pub shown_17 : get_or s at 0 ≡ 0x17 → Shrink (change_of (at + 1) (value ownership_f s (at + 1))) ≡ command_shown at (command_of (value command_f s at))
  shown_17 h = rw h

  pub fits_18 : fits command_f s at ≡ true → get_or s at 0 ≡ 0x18 → fits ownership_f s (at + 1) ≡ true
  fits_18 e h = and_right _ _ (and_right _ _ (and_right _ _ (and_right _ _ (and_right _ _ (and_right _ _ (and_right _ _ (and_right _ _ (and_right _ _ (rw h at e)))))))))

  pub shown_18 : get_or s at 0 ≡ 0x18 → Expand (change_of (at + 1) (value ownership_f s (at + 1))) ≡ command_shown at (command_of (value command_f s at))
  shown_18 h = rw h

  module _ (a : get_or s at 0 ≡ 0x10 → ⊥)
      (b : get_or s at 0 ≡ 0x11 → ⊥)
      (c : get_or s at 0 ≡ 0x12 → ⊥)
      (d : get_or s at 0 ≡ 0x13 → ⊥)
      (q : get_or s at 0 ≡ 0x14 → ⊥)
      (f : get_or s at 0 ≡ 0x15 → ⊥)
      (g : get_or s at 0 ≡ 0x16 → ⊥)
      (i : get_or s at 0 ≡ 0x17 → ⊥)
      (j : get_or s at 0 ≡ 0x18 → ⊥) where
    -- what is none of the others is a Bench
    pub fits_19 : fits command_f s at ≡ true → fits (code 0x19 ▸ bench_f) s at ≡ true
    fits_19 e =
        and_right _ _ (and_right _ _ (and_right _ _ (and_right _ _ (and_right _ _ (and_right _ _ (and_right _ _ (and_right _ _ (and_right _ _
        (rw (ne_eqb _ 0x10 a, ne_eqb _ 0x11 b, ne_eqb _ 0x12 c, ne_eqb _ 0x13 d, ne_eqb _ 0x14 q, ne_eqb _ 0x15 f, ne_eqb _ 0x16 g, ne_eqb _ 0x17 i, ne_eqb _ 0x18 j) at e)))))))))

    pub shown_19 : Bench (part (at + 1 + 2) (number_at 2 s (at + 1))) ≡ command_shown at (command_of (value command_f s at))
    shown_19 =
        rw (ne_eqb _ 0x10 a, ne_eqb _ 0x11 b, ne_eqb _ 0x12 c, ne_eqb _ 0x13 d, ne_eqb _ 0x14 q, ne_eqb _ 0x15 f, ne_eqb _ 0x16 g, ne_eqb _ 0x17 i, ne_eqb _ 0x18 j)
        (ap (λ (n : ℕ). Bench (part (at + 1 + 2) n)) (sym (length-value_n (value (word 1) s) (next (word 1) s) (number_at 2 s (at + 1)) (at + 1 + 2))))
