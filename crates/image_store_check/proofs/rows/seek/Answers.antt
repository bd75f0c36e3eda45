use native.Mathlib.Omega.{arith}
use mathlib.Core.Path.{◌≡◌, sym, ◌∙◌}
use Prim.Native.Nat.{◌+◌, ◌-◌, ◌/◌}
use lib.ListN.{get_or}
use Rattle.image_store_check.proofs.Seeking.{seek_up, seek_down}
use Rattle.image_store.specs.Image.{keys_in}
use Rattle.image_store_check.proofs.EntryLaws.{word_in}
use Rattle.image_store_check.proofs.rows.seek.Goals as goal

pub loop-low-init : goal.loop-low-init
loop-low-init c = (omega arith, omega arith, λ j h. absurd (omega arith), λ j h g. absurd (omega arith))

pub get8-requires : goal.get8-requires
get8-requires c =
    let p = c.requires.0 in let q = c.requires.1 in let t = c.loop-low-test.true in let w = c.loop-low.invariant.1 in omega arith

pub loop-low-preserved-then-get8-id : goal.loop-low-preserved-then-get8-id
loop-low-preserved-then-get8-id c =
    let a = c.args in let l = c.loop-low in let s = a.s.now in let mid = l.low + (l.high - l.low) / 2 in let m = c.requires.0 in let t = c.loop-low-test.true in let w = l.invariant.1 in
    let e : get_or (keys_in s a.base) mid 0 ≡ c.get8.result = word_in s a.base (a.base + 157696) mid (omega arith) ∙ sym c.get8.ensures in
    let i = c.if-get8-id.true in
    (omega arith, omega arith, seek_up (keys_in s a.base) a.n a.id c.requires.2 mid (omega arith) (omega arith), l.invariant.3)

pub loop-low-preserved : goal.loop-low-preserved
loop-low-preserved c =
    let a = c.args in let l = c.loop-low in let s = a.s.now in let mid = l.low + (l.high - l.low) / 2 in let m = c.requires.0 in let t = c.loop-low-test.true in let w = l.invariant.1 in
    let e : get_or (keys_in s a.base) mid 0 ≡ c.get8.result = word_in s a.base (a.base + 157696) mid (omega arith) ∙ sym c.get8.ensures in
    let i = c.if-get8-id.false in
    (omega arith, omega arith, l.invariant.2, seek_down (keys_in s a.base) a.n a.id c.requires.2 mid (omega arith))

pub returns : goal.returns
returns c =
    record { most = omega arith; below = c.loop-low.invariant.2; above = λ j h g. c.loop-low.invariant.3 j (omega arith) g }
