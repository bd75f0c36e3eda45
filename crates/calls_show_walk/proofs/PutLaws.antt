-- The rows held after, put into a header. Assumes nothing.
use Prim.Native.Nat.{ℕ, ◌+◌, ◌*◌, ◌^◌, ◌≤◌, ◌<◌}
use mathlib.Core.Path.{◌≡◌, sym, ap, ◌∙◌}
use mathlib.Core.Bool.{true}
use mathlib.Core.List.{List}
use native.Mathlib.Omega.{arith}
use native.Mathlib.Nat.{mul_comm}
use lib.ListN.{length, take, drop, get_or}
use lib.Seq.{sets, length-sets, length-take-le, get_or-take}
use Rattle.spec.specs.Lists.{every}
use Rattle.spec.specs.Layout.Format.{Bytes, bytes_of, number_at}
use Rattle.node_header.specs.declared.HeldRow.{HeldRow}
use Rattle.node_header.specs.View.{with_held_rows}
use Rattle.image_parts.specs.Shape.{word, u64, items, Stored}
use Rattle.image_header_row.specs.Rows.{held_row_f, held_row_of, held_row_at}
use Rattle.image_header.specs.Image.{node_at}
use Rattle.image_header.specs.Becomes.{HeaderWrites}
use Rattle.image_header_check.specs.Rows.{Counts}
use Rattle.image_header_check.proofs.Rows.{counted}
use Rattle.image_header_form.proofs.Bytes.{value_past, drop-after}
use Rattle.image_header_put.proofs.Back.{used-rows}
use Rattle.image_header_set.proofs.Parts.{whole, take-before, value_before, drop_past, part-set}
use Rattle.image_header_set.proofs.SetLaws.{writes-same, back_over}
use Rattle.image_move.proofs.Bytes.{Same, value_same, items-same}
use Rattle.image_move.proofs.Moves.{sets_in}
use Rattle.node_show_slots.specs.Slots.{open_fits}
use Rattle.calls_show_walk.specs.Slots.{rows_in, SlotsGiven, holding, HeaderTakes}

kept_same : (s t : List ℕ) (p q : ℕ) → Same s p t q 1280 → held_row_at s p ≡ held_row_at t q
unfolding held_row_at
kept_same s t p q e = ap held_row_of (value_same s t held_row_f p q e)

-- the version, how many, then the rows
module _ (s a b c u : List ℕ) (count version n : ℕ) (room : 10288 ≤ length s) (few : count ≤ 8) (fits : 1280 * count ≤ length u) (small : version < 256 ^ 8)
    (is : n ≡ 1280 * count) (ka : Stored s a 16 (bytes_of 8 version) 8) (kb : Stored a b 24 (bytes_of 8 count) 8) (kc : c ≡ sets b 48 (take n u)) where
  size : length (take n u) ≡ 1280 * count
  size = length-take-le n u (omega arith) ∙ is

  put : Stored b c 48 (take n u) (1280 * count)
  put = record { image = kc; long = size }

  long_a : length a ≡ length s
  long_a = ap length ka.image ∙ length-sets s 16 (bytes_of 8 version)

  long_b : length b ≡ length s
  long_b = ap length kb.image ∙ length-sets a 24 (bytes_of 8 count) ∙ long_a

  pub long_c : length c ≡ length s
  long_c = ap length kc ∙ length-sets b 48 (take n u) ∙ long_b

  past_a : drop 24 a ≡ drop 24 s
  past_a = drop-after ka (omega arith)

  past_b : drop 32 b ≡ drop 32 s
  past_b = let l = long_a in drop-after kb (omega arith) ∙ drop_past a s 24 32 (omega arith) past_a

  past : drop (48 + 1280 * count) c ≡ drop (48 + 1280 * count) s
  past = let l = long_b in drop-after put (omega arith) ∙ drop_past b s 32 (48 + 1280 * count) (omega arith) past_b

  head : (w p : ℕ) → p + w ≤ 48 → number_at w c p ≡ number_at w b p
  head w p h = value_before c b 48 (take-before put) (word w) p h

  low : (w p : ℕ) → p + w ≤ 16 → number_at w c p ≡ number_at w s p
  low w p h = head w p (omega arith) ∙ value_before b a 24 (take-before kb) (word w) p (omega arith) ∙ value_before a s 16 (take-before ka) (word w) p h

  high : (w p : ℕ) → 32 ≤ p → p + w ≤ 48 → number_at w c p ≡ number_at w s p
  high w p g h = head w p h ∙ value_past (word w) b s p (drop_past b s 32 p g past_b)

  version_is : number_at 8 c 16 ≡ version
  version_is =
      head 8 16 (omega arith) ∙ value_before b a 24 (take-before kb) (word 8) 16 (omega arith)
      ∙ part-set {f = u64} {h = u64} whole s a 16 version small (omega arith) ka

  count-is : number_at 8 c 24 ≡ count
  count-is = let l = long_a in head 8 24 (omega arith) ∙ part-set {f = u64} {h = u64} whole a b 24 count (omega arith) (omega arith) kb

  pub counts-c : Counts c count
  counts-c = let l = long_c in (omega arith, few, count-is)

  rows-c : items count (held_row_at c) 1280 48 ≡ rows_in u count
  rows-c =
      let l = long_b in
      let z = size in
      let m = mul_comm count 1280 in
      items-same c u count (held_row_at c) (held_row_at u) 1280 48 0 (λ p q e. kept_same c u p q e)
      (λ i lt.
      ap (λ (x : List ℕ). get_or x (48 + i) 0) kc ∙ sets_in b 48 (take n u) i (omega arith) (omega arith) ∙ get_or-take n u i 0 (omega arith)
      ∙ (let o : i ≡ 0 + i = omega arith in ap (λ (j : ℕ). get_or u j 0) o))

  pub rows-held : take count (node_at c).held ≡ rows_in u count
  rows-held = ap (λ (i : ℕ). take i (node_at c).held) (sym (counted c ∙ count-is)) ∙ used-rows c count counts-c 0 0 ∙ rows-c

  pub open_c : every open_fits (rows_in u count) ≡ true → every open_fits (take count (node_at c).held) ≡ true
  open_c e = ap (every open_fits) rows-held ∙ e

  node-c : (l : List HeldRow) → with_held_rows (node_at c) l ≡ holding (node_at s) l count version
  unfolding node_at
  node-c l = rw (low 8 0 (omega arith), low 8 8 (omega arith), high 4 36 (omega arith) (omega arith), high 8 40 (omega arith) (omega arith), version_is, count-is)

  pub header-takes : (d t : List ℕ) → SlotsGiven c d count → Bytes d → HeaderWrites d t (node_at d) → HeaderTakes s t u count version
  header-takes d t k bytes w = record {
    plain = (node_at c).held;
    rows = k.rows;
    is = rows-held;
    assigns = k.assigns;
    writes = writes-same (k.node ∙ node-c k.rows) (back_over s d t count k.counts bytes room (k.long ∙ long_c) (k.past ∙ past) w);
  }
