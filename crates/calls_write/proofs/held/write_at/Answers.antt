use native.Mathlib.Omega.{arith}
use mathlib.Core.Path.{subst}
use Rattle.map_tables.specs.Names.{view_key}
use Rattle.image_node_check.specs.Find.{FindsIn}
use Rattle.calls_write.proofs.Ways.{malformed, absent}
use Rattle.calls_write.proofs.held.write_at.Goals as goal

pub returns-in-Malformed : goal.returns-in-Malformed
returns-in-Malformed c =
    let a = c.args in
    malformed a.header.now a.stores.now a.answer.now (view_key a.key) a.clock a.least a.message.now (λ i. omega (arith, c.slice_known-2-1.given i)) a.p (c.requires)
    (subst (FindsIn a.header.now a.stores.now (view_key a.key)) c.in-Malformed.is c.find-found.ensures)

pub returns-in-Absent : goal.returns-in-Absent
returns-in-Absent c =
    let a = c.args in
    absent a.header.now a.stores.now a.answer.now (view_key a.key) a.clock a.least a.message.now (λ i. omega (arith, c.slice_known-2-1.given i)) a.p (c.requires)
    (subst (FindsIn a.header.now a.stores.now (view_key a.key)) c.in-Absent.is c.find-found.ensures)

pub write_found-requires : goal.write_found-requires
write_found-requires c =
    let a = c.args in (c.requires, subst (FindsIn a.header.now a.stores.now (view_key a.key)) c.in-At.is c.find-found.ensures)
