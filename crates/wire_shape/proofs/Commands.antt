-- The commands 10 to 19: the shape test of each, and how the code picks one. Assumes nothing.
use Prim.Native.Nat.{ℕ, ◌+◌, ◌≤◌, ◌<◌}
use mathlib.Core.Path.{◌≡◌}
use mathlib.Core.Bool.{true}
use mathlib.Core.List.{List}
use lib.ListN.{length, get_or}
use lib.Dec.{leb}
use native.Mathlib.Omega.{arith}
use borrow.Author.Tests.{le-leb, lt-leb, ne_eqb}
use Rattle.spec.specs.Lists.{◌and◌}
use Rattle.spec.specs.Layout.Format.{word, below, text, ◌▸◌}
use Rattle.spec.specs.Layout.Parts.{u64, u32, name_f, key_f, metric_f, placement_f}
use Rattle.spec.specs.Layout.Request.{command_f, create_f, register_f, add_f, ownership_f, bench_f}
use Rattle.wire_shape.specs.Skip.{skip}
use Rattle.std.specs.Prelude.{None}
use Rattle.wire_shape.proofs.Skips.{no_1, skip_no, Same, same_trans, same_sym, same_after, same_left, same-words, same_words_then, same_keyed}

-- ---- the operands, as the code groups them

pub same_create : Same create_f ((text 32 ▸ word 4) ▸ (below 2 ▸ (word 8 ▸ placement_f)))
same_create =
    same_trans create_f ((text 32 ▸ word 4) ▸ (metric_f ▸ (u32 ▸ (u32 ▸ placement_f)))) ((text 32 ▸ word 4) ▸ (below 2 ▸ (word 8 ▸ placement_f)))
    (same_sym ((text 32 ▸ word 4) ▸ (metric_f ▸ (u32 ▸ (u32 ▸ placement_f)))) create_f
    (same_left (text 32) (word 4) (metric_f ▸ (u32 ▸ (u32 ▸ placement_f)))))
    (same_after (text 32 ▸ word 4) (metric_f ▸ (u32 ▸ (u32 ▸ placement_f))) (below 2 ▸ (word 8 ▸ placement_f))
    (same_after metric_f (u32 ▸ (u32 ▸ placement_f)) (word 8 ▸ placement_f) (same_words_then 4 4 placement_f)))

pub same_ownership : Same ownership_f (text 32 ▸ word 20)
same_ownership =
    same_trans ownership_f (key_f ▸ word 16) (text 32 ▸ word 20)
    (same_after key_f (u64 ▸ u64) (word 16) (same-words 8 8)) (same_keyed 32 4 16)

pub same_add : Same add_f (text 32 ▸ word 28)
same_add =
    same_trans add_f (key_f ▸ word 24) (text 32 ▸ word 28)
    (same_after key_f (u64 ▸ (u64 ▸ u64)) (word 24)
    (same_trans (u64 ▸ (u64 ▸ u64)) (word 16 ▸ u64) (word 24) (same_words_then 8 8 u64) (same-words 16 8)))
    (same_keyed 32 4 24)

-- ---- the code picks the operands

module _ (s : List ℕ) (at : ℕ) where
  pub command_end : length s ≤ at → None ≡ skip command_f s at
  command_end h = skip_no command_f s at (no_1 _ _ (lt-leb (at + 1) (length s) (omega arith)))

  module _ (h : at < length s) where
    present : leb (at + 1) (length s) ≡ true
    present = le-leb (at + 1) (length s) (omega arith)

    pub command_10 : get_or s at 0 ≡ 0x10 → skip create_f s (at + 1) ≡ skip command_f s at
    unfolding skip ◌and◌
    command_10 e = rw (present, e)

    pub command_11 : get_or s at 0 ≡ 0x11 → skip name_f s (at + 1) ≡ skip command_f s at
    unfolding skip ◌and◌
    command_11 e = rw (present, e)

    pub command_12 : get_or s at 0 ≡ 0x12 → skip register_f s (at + 1) ≡ skip command_f s at
    unfolding skip ◌and◌
    command_12 e = rw (present, e)

    pub command_13 : get_or s at 0 ≡ 0x13 → skip (u64 ▸ u64) s (at + 1) ≡ skip command_f s at
    unfolding skip ◌and◌
    command_13 e = rw (present, e)

    pub command_14 : get_or s at 0 ≡ 0x14 → skip add_f s (at + 1) ≡ skip command_f s at
    unfolding skip ◌and◌
    command_14 e = rw (present, e)

    pub command_15 : get_or s at 0 ≡ 0x15 → skip ownership_f s (at + 1) ≡ skip command_f s at
    unfolding skip ◌and◌
    command_15 e = rw (present, e)

    pub command_16 : get_or s at 0 ≡ 0x16 → skip ownership_f s (at + 1) ≡ skip command_f s at
    unfolding skip ◌and◌
    command_16 e = rw (present, e)

    pub command_17 : get_or s at 0 ≡ 0x17 → skip ownership_f s (at + 1) ≡ skip command_f s at
    unfolding skip ◌and◌
    command_17 e = rw (present, e)

    pub command_18 : get_or s at 0 ≡ 0x18 → skip ownership_f s (at + 1) ≡ skip command_f s at
    unfolding skip ◌and◌
    command_18 e = rw (present, e)

    pub command_19 : get_or s at 0 ≡ 0x19 → skip bench_f s (at + 1) ≡ skip command_f s at
    unfolding skip ◌and◌
    command_19 e = rw (present, e)

    pub command_none : (get_or s at 0 ≡ 0x10 → ⊥) → (get_or s at 0 ≡ 0x11 → ⊥) → (get_or s at 0 ≡ 0x12 → ⊥) → (get_or s at 0 ≡ 0x13 → ⊥)
        → (get_or s at 0 ≡ 0x14 → ⊥) → (get_or s at 0 ≡ 0x15 → ⊥) → (get_or s at 0 ≡ 0x16 → ⊥) → (get_or s at 0 ≡ 0x17 → ⊥)
        → (get_or s at 0 ≡ 0x18 → ⊥) → (get_or s at 0 ≡ 0x19 → ⊥) → None ≡ skip command_f s at
    unfolding skip ◌and◌
    command_none a b c d e f g i j k =
        rw (
          present,
          ne_eqb _ 0x10 a,
          ne_eqb _ 0x11 b,
          ne_eqb _ 0x12 c,
          ne_eqb _ 0x13 d,
          ne_eqb _ 0x14 e,
          ne_eqb _ 0x15 f,
          ne_eqb _ 0x16 g,
          ne_eqb _ 0x17 i,
          ne_eqb _ 0x18 j,
          ne_eqb _ 0x19 k,
        )
