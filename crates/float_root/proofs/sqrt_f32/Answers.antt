use Rattle.std.proofs.Common.{T, sym, subst, arith}
use lib.Ieee.{binary32, fits}
use Rattle.float_root.proofs.Floats.{zero_root}
use Rattle.float_root.proofs.AnyRoot.{nan_root, number, plus_rootable, infinity_root, minus_zero_root, none-root}
use Rattle.float_root.proofs.sqrt_f32.Goals as goal
use Rattle.float_root.proofs.sqrt_f32.Goals.{Start}

held : (c : Start) → T (fits binary32 c.args.x)
held c = subst T (sym c.well_formed.0.1) tt

pub returns-then-x : goal.returns-then-x
returns-then-x c = nan_root _ c.if-x.true

pub float_to_bits-b : goal.float_to_bits-b
float_to_bits-b c = number _ c.if-x.false

pub plus_root-requires : goal.plus_root-requires
plus_root-requires c =
    let w = c.wrapping_sub_u32.ensures in
    (plus_rootable _ (held (goal.at.plus_root-requires c).Start) (omega (arith, w, c.if-wrapping_sub_u32-lt2139095039.true)), omega (arith, w, c.if-wrapping_sub_u32-lt2139095039.true))

pub returns-then-b-eq0 : goal.returns-then-b-eq0
returns-then-b-eq0 c = zero_root _ (held (goal.at.returns-then-b-eq0 c).Start) c.if-b-eq0.true

pub returns-then-b-eq2139095040 : goal.returns-then-b-eq2139095040
returns-then-b-eq2139095040 c = infinity_root _ (held (goal.at.returns-then-b-eq2139095040 c).Start) c.if-b-eq2139095040.true

pub returns-then-b : goal.returns-then-b
returns-then-b c = minus_zero_root _ (held (goal.at.returns-then-b c).Start) c.if-b.true

pub returns : goal.returns
returns c =
    none-root _ (held (goal.at.returns c).Start)
    (omega (arith, c.wrapping_sub_u32.ensures, c.if-wrapping_sub_u32-lt2139095039.false, c.if-b-eq0.false, c.if-b-eq2139095040.false))
    c.if-b.false
