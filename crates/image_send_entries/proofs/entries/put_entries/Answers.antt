use borrow.Author.Rules.{rules}
use native.Mathlib.Omega.{arith}
use mathlib.Core.Path.{◌≡◌, refl, sym, ◌∙◌, ap}
use Prim.Native.Nat.{ℕ, ◌+◌, ◌-◌, ◌<◌}
use lib.Seq.{sets}
use Rattle.node_send_entries.specs.Sent.{entries_at, entries_sent}
use Rattle.node_send_entries.proofs.EntriesLaws.{sent-step}
use Rattle.image_send_entries.specs.Store.{store_columns}
use Rattle.image_send_entries.proofs.Store.{size_is, size-next}
use Rattle.image_send_entries.proofs.entries.put_entries.Goals as goal

pub overflow_add-codes : goal.overflow_add-codes
overflow_add-codes c = let r = c.requires.0.stands in let f = c.ranges in search rules

pub overflow_add-lengths : goal.overflow_add-lengths
overflow_add-lengths c = let r = c.requires.0.stands in let f = c.ranges in search rules

pub loop-i-init : goal.loop-i-init
loop-i-init c = (c.requires.1, omega arith, refl, refl, refl)

pub put_entry-requires : goal.put_entry-requires
put_entry-requires c =
    let a = c.args in let l = c.loop-i in let t = c.loop-i-test.true in let k = c.requires.0.sendable.room.count in let m = c.requires.2 in let q = c.requires.3 in let n = l.invariant.2 in let v = l.invariant.3 in
    let z = size-next a.s.now a.base a.end l.i t (omega arith) in
    (c.requires.0, omega arith, omega arith)

pub bounds-s-codes : goal.bounds-s-codes
bounds-s-codes c =
    let a = c.args in let t = c.loop-i-test.true in let k = c.requires.0.sendable.room.count in let m = c.requires.2 in let r = c.requires.0.stands in omega arith

pub bounds-s-lengths : goal.bounds-s-lengths
bounds-s-lengths c =
    let a = c.args in let t = c.loop-i-test.true in let k = c.requires.0.sendable.room.count in let m = c.requires.2 in let r = c.requires.0.stands in omega arith

pub overflow_add-p : goal.overflow_add-p
overflow_add-p c =
    let a = c.args in let l = c.loop-i in let t = c.loop-i-test.true in let k = c.requires.0.sendable.room.count in let m = c.requires.2 in let q = c.requires.3 in let n = l.invariant.2 in let v = l.invariant.3 in
    let z = size-next a.s.now a.base a.end l.i t (omega arith) in let e = c.entry_size-p.ensures.0 in let f = c.ranges in let g = c.well_formed in search rules

pub loop-i-preserved : goal.loop-i-preserved
loop-i-preserved c =
    let a = c.args in let l = c.loop-i in let t = c.loop-i-test.true in let k = c.requires.0.sendable.room.count in let m = c.requires.2 in let v = l.invariant.3 in
    let h : l.i < a.count = omega arith in
    let z = size-next a.s.now a.base a.end l.i t (omega arith) in let e = c.entry_size-p.ensures.0 in let y = size_is a.s.now a.base a.count c.requires.0 l.i h in (
      omega arith,
      omega arith,
      c.put_entry.auto.out ∙ l.invariant.2,
      omega arith,
      (rw c.put_entry.ensures (sent-step (store_columns a.s.now a.base a.count) a.count c.requires.0.sendable l.out l.p (l.p + c.entry_size-p.result) a.end l.i t c.requires.2 (ap (λ (n : ℕ). l.p + n) (e ∙ ap (λ (n : ℕ). 16 + n) (sym y))))) ∙ l.invariant.4,
    )

pub shape_of-out : goal.shape_of-out
shape_of-out c = c.loop-i.invariant.2

pub returns : goal.returns
unfolding entries_sent entries_at
returns c =
    let a = c.args in let l = c.loop-i in let t = c.loop-i-test.false in let v = l.invariant.0 in
    let z : a.end - l.i ≡ 0 = omega arith in
    sym (ap (λ (n : ℕ). sets l.out l.p (entries_sent (store_columns a.s.now a.base a.count) n l.i)) z) ∙ l.invariant.4
