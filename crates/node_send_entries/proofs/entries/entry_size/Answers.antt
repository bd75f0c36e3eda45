use native.Mathlib.Omega.{arith}
use borrow.Author.Tests.{eq-eqb, ne_eqb}
use Rattle.node_send_entries.proofs.entries.entry_size.Goals as goal

pub returns-then-code-eq1 : goal.returns-then-code-eq1
returns-then-code-eq1 c =
    let e = eq-eqb c.args.code 1 c.if-code-eq1.true in
    (rw e (omega arith), omega arith)

pub returns : goal.returns
returns c =
    let e = ne_eqb c.args.code 1 c.if-code-eq1.false in
    (rw e, omega arith)
