use native.Mathlib.Omega.{arith}
use mathlib.Core.Path.{◌≡◌, refl, sym, ◌∙◌, ap}
use Prim.Native.Nat.{ℕ, ◌+◌, ◌*◌, ◌<◌}
use mathlib.Core.List.{map}
use native.Mathlib.Nat.{add-zero}
use lib.Ieee.{nan}
use lib.ListN.{length, get_or, drop, length-map}
use lib.Seq.{sets, drop-length}
use Rattle.spec.specs.Layout.Format.{bytes_of, concat_map}
use Rattle.spec.specs.Node.Wire.{bits_of}
use Rattle.spec.specs.Node.WellFormed.{component}
use Rattle.log_store.proofs.Bits.{every-at}
use Rattle.node_send_entries.proofs.EntryLaws.{component-number, floats-step}
use Rattle.node_send_entries.proofs.entry.put_floats.Goals as goal

pub loop-i-init : goal.loop-i-init
loop-i-init c = (omega arith, refl, (rw add-zero))

pub overflow_mul-i : goal.overflow_mul-i
overflow_mul-i c = omega arith

pub overflow_add-at : goal.overflow_add-at
overflow_add-at c = omega arith

pub offset_bounds-v-i : goal.offset_bounds-v-i
offset_bounds-v-i c = omega arith

pub bounds-v-i : goal.bounds-v-i
bounds-v-i c = omega arith

pub float_to_bits-v : goal.float_to_bits-v
float_to_bits-v c =
    let v = c.args.v.now in
    let i = c.loop-i.i in
    component-number (get_or v i nan) (every-at component v i nan c.requires.2 (omega arith))

pub put4-requires : goal.put4-requires
put4-requires c = omega arith

pub loop-i-preserved : goal.loop-i-preserved
loop-i-preserved c =
    let l = c.loop-i in
    let a = c.args in
    let p = c.put4 in
    let h : l.i < length a.v.now = omega arith in
    let q : a.at + 4 * (l.i + 1) ≡ a.at + 4 * l.i + 4 = omega arith in
    (omega arith, p.auto.out ∙ l.invariant.1, (rw p.ensures (floats-step l.out a.v.now (a.at + 4 * l.i) l.i (a.at + 4 * (l.i + 1)) h q)) ∙ l.invariant.2)

pub shape_of-out : goal.shape_of-out
shape_of-out c = c.loop-i.invariant.1

pub returns : goal.returns
returns c =
    let l = c.loop-i in
    let a = c.args in
    let w = map bits_of a.v.now in
    let z : l.i ≡ length w = omega (arith, length-map a.v.now bits_of) in
    sym (ap (λ (i : ℕ). sets l.out (a.at + 4 * i) (concat_map (bytes_of 4) (drop i w))) z ∙ (rw drop-length)) ∙ l.invariant.2
