use Rattle.num_position.proofs.Sizes.{sized-out, sized_in, ra_fits, dec_fits}
use Rattle.num_position.proofs.signed.sizes_of.Goals as goal

pub returns-then-not-sizes_within : goal.returns-then-not-sizes_within
returns-then-not-sizes_within c =
    sized-out _ (record { sfits = c.struct_told-1.given.0.1 }) (record { sfits = c.struct_told-2-1.given.1.0.1 })
    _ _ c.split-ra.ensures c.split-dec.ensures _ c.sizes_within.ensures (c.if-not-sizes_within.true)

pub overflow_cast-result : goal.overflow_cast-result
overflow_cast-result c = ra_fits _ _ _ _ c.sizes_within.ensures (c.if-not-sizes_within.false)

pub overflow_cast-result-2 : goal.overflow_cast-result-2
overflow_cast-result-2 c = dec_fits _ _ _ _ c.sizes_within.ensures (c.if-not-sizes_within.false)

pub returns : goal.returns
returns c =
    sized_in _ (record { sfits = c.struct_told-1.given.0.1 }) (record { sfits = c.struct_told-2-1.given.1.0.1 })
    _ _ c.split-ra.ensures c.split-dec.ensures _ c.sizes_within.ensures (c.if-not-sizes_within.false)
