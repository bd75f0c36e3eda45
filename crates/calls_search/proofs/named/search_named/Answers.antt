use mathlib.Core.Path.{subst}
use Rattle.map_tables.specs.Names.{view_key}
use Rattle.image_node_check.specs.Find.{FindsIn}
use Rattle.calls_search.proofs.Message.{key_malformed, key-absent, key-held}
use Rattle.calls_search.proofs.named.search_named.Goals as goal

pub returns-in-Malformed : goal.returns-in-Malformed
returns-in-Malformed c =
    let a = c.args in key_malformed a.header.now a.stores.now (view_key a.key) a.clock a.epoch.0 a.k a.query.now a.hits.now a.answer.now (subst (FindsIn a.header.now a.stores.now (view_key a.key)) c.in-Malformed.is c.find-place.ensures)

pub returns-in-Absent : goal.returns-in-Absent
returns-in-Absent c =
    let a = c.args in key-absent a.header.now a.stores.now (view_key a.key) a.clock a.epoch.0 a.k a.query.now a.hits.now a.answer.now (subst (FindsIn a.header.now a.stores.now (view_key a.key)) c.in-Absent.is c.find-place.ensures)

pub search_held-requires : goal.search_held-requires
search_held-requires c =
    let a = c.args in (subst (FindsIn a.header.now a.stores.now (view_key a.key)) c.in-At.is c.find-place.ensures, c.requires)

pub returns-in-At : goal.returns-in-At
returns-in-At c =
    let a = c.args in key-held a.header.now a.stores.now (view_key a.key) a.clock a.epoch.0 a.k a.query.now a.hits.now a.answer.now _ (subst (FindsIn a.header.now a.stores.now (view_key a.key)) c.in-At.is c.find-place.ensures) _ c.search_held.ensures
