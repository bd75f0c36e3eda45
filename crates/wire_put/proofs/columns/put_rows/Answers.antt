use Prim.Native.Nat.{ℕ, ◌+◌, ◌*◌, ◌≤◌, ◌<◌}
use mathlib.Core.Path.{◌≡◌, ap, ◌∙◌}
use native.Mathlib.Omega.{arith}
use lib.ListN.{length, get_or}
use lib.Dec.{eqb}
use Rattle.wire_put.specs.Fields.{op_size}
use Rattle.wire_put.proofs.Rows.{size_step, row-op, row_len, rows_later, long, part_length, part-size, rows_next}
use Rattle.wire_put.proofs.columns.put_rows.Goals as goal

pub bounds-lens-i : goal.bounds-lens-i
bounds-lens-i c =
    let l = c.loop-i in
    let a = c.args in
    let h : l.i < a.n = omega arith in
    let g = long a.epochs.now a.offsets.now a.codes.now a.ids.now a.lens.now a.bits.now a.n c.requires.1 in
    let k = row_len a.codes.now a.lens.now a.n l.i h l.invariant.2 in
    let b : 32 * l.i + get_or a.lens.now l.i 0 ≤ length a.bits.now = let g₅ = g.bits in omega arith in
    omega arith

pub bounds-codes-i : goal.bounds-codes-i
bounds-codes-i c =
    let l = c.loop-i in
    let a = c.args in
    let h : l.i < a.n = omega arith in
    let g = long a.epochs.now a.offsets.now a.codes.now a.ids.now a.lens.now a.bits.now a.n c.requires.1 in
    let k = row_len a.codes.now a.lens.now a.n l.i h l.invariant.2 in
    let b : 32 * l.i + get_or a.lens.now l.i 0 ≤ length a.bits.now = let g₅ = g.bits in omega arith in
    omega arith

pub bounds-epochs-i : goal.bounds-epochs-i
bounds-epochs-i c =
    let l = c.loop-i in
    let a = c.args in
    let h : l.i < a.n = omega arith in
    let g = long a.epochs.now a.offsets.now a.codes.now a.ids.now a.lens.now a.bits.now a.n c.requires.1 in
    let k = row_len a.codes.now a.lens.now a.n l.i h l.invariant.2 in
    let b : 32 * l.i + get_or a.lens.now l.i 0 ≤ length a.bits.now = let g₅ = g.bits in omega arith in
    omega arith

pub bounds-offsets-i : goal.bounds-offsets-i
bounds-offsets-i c =
    let l = c.loop-i in
    let a = c.args in
    let h : l.i < a.n = omega arith in
    let g = long a.epochs.now a.offsets.now a.codes.now a.ids.now a.lens.now a.bits.now a.n c.requires.1 in
    let k = row_len a.codes.now a.lens.now a.n l.i h l.invariant.2 in
    let b : 32 * l.i + get_or a.lens.now l.i 0 ≤ length a.bits.now = let g₅ = g.bits in omega arith in
    omega arith

pub bounds-ids-i : goal.bounds-ids-i
bounds-ids-i c =
    let l = c.loop-i in
    let a = c.args in
    let h : l.i < a.n = omega arith in
    let g = long a.epochs.now a.offsets.now a.codes.now a.ids.now a.lens.now a.bits.now a.n c.requires.1 in
    let k = row_len a.codes.now a.lens.now a.n l.i h l.invariant.2 in
    let b : 32 * l.i + get_or a.lens.now l.i 0 ≤ length a.bits.now = let g₅ = g.bits in omega arith in
    omega arith

pub slice_bounds-put_entry-end : goal.slice_bounds-put_entry-end
slice_bounds-put_entry-end c =
    let l = c.loop-i in
    let a = c.args in
    let h : l.i < a.n = omega arith in
    let g = long a.epochs.now a.offsets.now a.codes.now a.ids.now a.lens.now a.bits.now a.n c.requires.1 in
    let k = row_len a.codes.now a.lens.now a.n l.i h l.invariant.2 in
    let b : 32 * l.i + get_or a.lens.now l.i 0 ≤ length a.bits.now = let g₅ = g.bits in omega arith in
    omega arith

pub put_entry-requires : goal.put_entry-requires
put_entry-requires c =
    let l = c.loop-i in
    let a = c.args in
    let h : l.i < a.n = omega arith in
    let g = long a.epochs.now a.offsets.now a.codes.now a.ids.now a.lens.now a.bits.now a.n c.requires.1 in
    let k = row_len a.codes.now a.lens.now a.n l.i h l.invariant.2 in
    let b : 32 * l.i + get_or a.lens.now l.i 0 ≤ length a.bits.now = let g₅ = g.bits in omega arith in
    (omega (arith, part-size a.epochs.now a.offsets.now a.codes.now a.ids.now a.lens.now a.bits.now l.i b, size_step a.codes.now a.lens.now a.n l.i h), (rw (part_length a.epochs.now a.offsets.now a.codes.now a.ids.now a.lens.now a.bits.now l.i b) (row-op a.codes.now a.lens.now a.n l.i h l.invariant.2)))

pub op_size-requires : goal.op_size-requires
op_size-requires c =
    let l = c.loop-i in
    let a = c.args in
    let h : l.i < a.n = omega arith in
    let g = long a.epochs.now a.offsets.now a.codes.now a.ids.now a.lens.now a.bits.now a.n c.requires.1 in
    let k = row_len a.codes.now a.lens.now a.n l.i h l.invariant.2 in
    let b : 32 * l.i + get_or a.lens.now l.i 0 ≤ length a.bits.now = let g₅ = g.bits in omega arith in
    row-op a.codes.now a.lens.now a.n l.i h l.invariant.2

pub loop-i-preserved : goal.loop-i-preserved
loop-i-preserved c =
    let l = c.loop-i in
    let a = c.args in
    let h : l.i < a.n = omega arith in
    let g = long a.epochs.now a.offsets.now a.codes.now a.ids.now a.lens.now a.bits.now a.n c.requires.1 in
    let k = row_len a.codes.now a.lens.now a.n l.i h l.invariant.2 in
    let b : 32 * l.i + get_or a.lens.now l.i 0 ≤ length a.bits.now = let g₅ = g.bits in omega arith in
    let q : c.op_size.result ≡ op_size (eqb (get_or a.codes.now l.i 0) 1) (get_or a.lens.now l.i 0) = c.op_size.ensures in (
      omega arith,
      c.put_entry.auto.out ∙ l.invariant.1,
      rows_later a.codes.now a.lens.now a.n l.i h l.invariant.2,
      omega (arith, size_step a.codes.now a.lens.now a.n l.i h),
      (rw c.put_entry.ensures (rows_next a.epochs.now a.offsets.now a.codes.now a.ids.now a.lens.now a.bits.now l.out l.p _ a.n l.i h b (ap (λ (m : ℕ). l.p + (16 + m)) q))) ∙ l.invariant.4,
    )
