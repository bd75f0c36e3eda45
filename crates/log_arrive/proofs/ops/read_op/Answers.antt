use mathlib.Core.Path.{sym, ◌∙◌, subst}
use Prim.Native.Nat.{◌≤◌}
use native.Mathlib.Omega.{arith}
use lib.ListN.{length}
use Rattle.wire_read.specs.declared.OpPart.{OpPart}
use Rattle.log_arrive.specs.Parts.{op_in, OpThere}
use Rattle.log_arrive.specs.Arrivals.{Reads}
use Rattle.log_arrive.proofs.OpLaws.{reads_upsert, reads_delete}
use Rattle.log_arrive.proofs.ops.read_op.Goals as goal

pub read_bits-requires : goal.read_bits-requires
read_bits-requires c =
    let h = subst (OpThere c.args.s.now) c.in-Upsert.is c.requires.0 in
    let k : c.in-Upsert.vector.len ≤ length c.args.out.now = omega (arith, h.1, c.requires.1) in
    (h.2, k)

pub returns-in-Upsert : goal.returns-in-Upsert
returns-in-Upsert c =
    subst (λ (z : OpPart). Reads (op_in c.args.s.now z) (record { code = 1; id = c.in-Upsert.id; n = c.in-Upsert.vector.len }) c.read_bits.new.out)
    (sym c.in-Upsert.is)
    (reads_upsert c.args.s.now _ _ _ (subst (OpThere c.args.s.now) c.in-Upsert.is c.requires.0) (c.read_bits.ensures.0 ∙ c.requires.1) c.read_bits.ensures.1)

pub returns-in-Delete : goal.returns-in-Delete
returns-in-Delete c =
    subst (λ (z : OpPart). Reads (op_in c.args.s.now z) (record { code = 2; id = c.in-Delete.id; n = 0 }) c.args.out.now)
    (sym c.in-Delete.is) (reads_delete _ _ c.requires.1)
