use native.Mathlib.Omega.{arith}
use mathlib.Core.Path.{◌≡◌, refl, sym, ◌∙◌, ap}
use Prim.Native.Nat.{ℕ, ◌+◌, ◌-◌, ◌<◌}
use lib.Seq.{sets}
use Rattle.wire_write.proofs.Rows.{size_step}
use Rattle.log_store.specs.View.{columns}
use Rattle.node_send_entries.specs.Sent.{entries_at, entries_sent}
use Rattle.node_send_entries.proofs.EntriesLaws.{sent-step}
use Rattle.node_send_entries.proofs.entries.put_entries.Goals as goal

pub loop-i-init : goal.loop-i-init
loop-i-init c = (c.requires.1, omega arith, refl, refl, refl)

pub put_entry_at-requires : goal.put_entry_at-requires
put_entry_at-requires c =
    let l = c.loop-i in
    let h : l.i < c.args.end = omega arith in
    let z = size_step c.args.codes.now c.args.lengths.now c.args.end l.i h in
    (c.requires.0, omega arith, omega arith)

pub bounds-codes-i : goal.bounds-codes-i
bounds-codes-i c =
    let r = c.requires.0.room in
    omega (arith, r.count, r.codes)

pub bounds-lengths-i : goal.bounds-lengths-i
bounds-lengths-i c =
    let r = c.requires.0.room in
    omega (arith, r.count, r.lengths)

pub overflow_add-p : goal.overflow_add-p
overflow_add-p c =
    let l = c.loop-i in
    let h : l.i < c.args.end = omega arith in
    let z = size_step c.args.codes.now c.args.lengths.now c.args.end l.i h in
    omega (arith, c.entry_size-p.ensures.0)

pub loop-i-preserved : goal.loop-i-preserved
loop-i-preserved c =
    let a = c.args in
    let t = columns a.epochs.now a.offsets.now a.ids.now a.codes.now a.lengths.now a.floats.now in
    let l = c.loop-i in
    let h : l.i < c.args.end = omega arith in
    let z = size_step c.args.codes.now c.args.lengths.now c.args.end l.i h in
    let e = c.entry_size-p.ensures.0 in (
      omega arith,
      omega arith,
      c.put_entry_at.auto.out ∙ l.invariant.2,
      omega arith,
      (rw c.put_entry_at.ensures (sent-step t a.count c.requires.0 l.out l.p (l.p + c.entry_size-p.result) a.end l.i h c.requires.2 (ap (λ (n : ℕ). l.p + n) e))) ∙ l.invariant.4,
    )

pub shape_of-out : goal.shape_of-out
shape_of-out c = c.loop-i.invariant.2

pub returns : goal.returns
unfolding entries_sent entries_at
returns c =
    let a = c.args in
    let t = columns a.epochs.now a.offsets.now a.ids.now a.codes.now a.lengths.now a.floats.now in
    let l = c.loop-i in
    let z : a.end - l.i ≡ 0 = omega arith in
    sym (ap (λ (n : ℕ). sets l.out l.p (entries_sent t n l.i)) z) ∙ l.invariant.4
