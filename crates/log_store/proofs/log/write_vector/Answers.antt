use borrow.Author.Rules.{rules}
use native.Mathlib.Omega.{arith}
use lib.ListN.{length-set}
use Rattle.log_store.proofs.Bits.{every-at, domain_number, write-on, write_done}
use Rattle.spec.specs.Nearest.Order.{bits_in_domain}
use Rattle.log_store.proofs.log.write_vector.Goals as goal

pub float_from_bits-dst : goal.float_from_bits-dst
float_from_bits-dst c = domain_number _ (every-at bits_in_domain c.args.bits.now c.loop-i.i 0 c.requires.1 (omega arith))

pub loop-i-preserved : goal.loop-i-preserved
loop-i-preserved c =
    let l = c.loop-i in
    (search rules, simp length-set l.invariant.1, write-on l.dst c.args.bits.now l.i (omega arith) (omega arith) l.invariant.2)

pub returns : goal.returns
returns c = write_done c.loop-i.dst c.args.bits.now c.loop-i.i (omega arith) (omega arith) c.loop-i.invariant.2
