use Rattle.std.proofs.Common.{◌*◌, sym, arith}
use Rattle.float_root.proofs.Settle.{quotient_small, near-is}
use Rattle.float_root.proofs.near_root.Goals as goal

pub overflow_add-q : goal.overflow_add-q
overflow_add-q c = omega (arith, quotient_small (8 * c.args.n) c.args.g (omega arith) c.requires.2)

pub overflow_add-q-2 : goal.overflow_add-q-2
overflow_add-q-2 c = omega (arith, quotient_small (8 * c.args.n) c.args.g (omega arith) c.requires.2)

pub raised-requires : goal.raised-requires
raised-requires c = (
  c.requires.1,
  omega (
    arith,
    quotient_small (8 * c.args.n) c.args.g (omega arith)
        c.requires.2,
  ),
)

pub returns : goal.returns
returns c = sym (near-is c.args.n c.lowered.result c.lowered.ensures.0 c.lowered.ensures.1)
