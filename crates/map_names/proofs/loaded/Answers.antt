use native.Mathlib.Omega.{arith}
use mathlib.Core.Path.{◌≡◌, ◌∙◌}
use Prim.Native.Nat.{◌+◌, ◌-◌}
use lib.ListN.{length, drop, replicate, length-replicate}
use lib.Seq.{take_at, length-take-le}
use Rattle.map_names.specs.Texts.{bytes_at}
use Rattle.map_names.proofs.loaded.Goals as goal

pub returns : goal.returns
returns g c =
    let p = c.args.p in
    let new = c.copy_from_slice.new.self in
    let q : p.at + p.len - p.at ≡ p.len = omega arith in
    let e : new ≡ bytes_at c.args.s.now p = rw q at c.copy_from_slice.ensures.after in
    let k : length new ≡ p.len = c.copy_from_slice.ensures.len ∙ length-take-le p.len (replicate g.row.N 0) (rw length-replicate c.requires.short) in
    take_at new (drop p.len (replicate g.row.N 0)) p.len k ∙ e
