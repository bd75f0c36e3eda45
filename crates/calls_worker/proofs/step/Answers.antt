use borrow.Author.Rules.{rules}
use Prim.Native.Nat.{◌<◌}
use mathlib.Core.Path.{refl, sym, ◌∙◌, subst}
use Rattle.spec.specs.Keys.{Key}
use Rattle.wire_write.specs.Written.{key_given}
use Rattle.wire_write.proofs.Writes.{text-short}
use Rattle.map_tables.specs.Names.{view_key}
use Rattle.image_node_check.specs.Find.{FindsIn, FoundIn}
use Rattle.calls_worker.specs.Steps.{asking, outputs}
use Rattle.calls_worker.proofs.Steps.{bad_name, bad_metric, decoded, undecoded, found-asked, malformed, absent}
use Rattle.calls_worker.proofs.step.Goals as goal

pub returns-then-not-text_fits : goal.returns-then-not-text_fits
returns-then-not-text_fits c =
    undecoded c.args.header.now c.args.stores.now (asking c.args.name.now c.args.shard c.args.epoch c.args.peer c.args.metric) (outputs c.args.request.now c.args.answer.now) (bad_name (asking c.args.name.now c.args.shard c.args.epoch c.args.peer c.args.metric) c.text_fits.result c.text_fits.ensures (c.if-not-text_fits.true))

pub returns-in_default : goal.returns-in_default
returns-in_default c =
    let k : 1 < c.args.metric = search rules in
    undecoded c.args.header.now c.args.stores.now (asking c.args.name.now c.args.shard c.args.epoch c.args.peer c.args.metric) (outputs c.args.request.now c.args.answer.now) (bad_metric (asking c.args.name.now c.args.shard c.args.epoch c.args.peer c.args.metric) c.text_fits.result c.text_fits.ensures (c.if-not-text_fits.false) k)

pub key_named-key-requires : goal.key_named-key-requires
key_named-key-requires c = sym c.text_fits.ensures ∙ c.if-not-text_fits.false

pub step_at-requires : goal.step_at-requires
step_at-requires c =
    (subst (λ (k : Key). FoundIn c.args.header.now c.args.stores.now k c.in-At.at) c.key_named-key.ensures (subst (FindsIn c.args.header.now c.args.stores.now (view_key c.key_named-key.result)) c.in-At.is c.find-found.ensures), text-short 32 c.args.name.now (sym c.text_fits.ensures ∙ c.if-not-text_fits.false))

pub returns-in-Malformed : goal.returns-in-Malformed
returns-in-Malformed c =
    malformed c.args.header.now c.args.stores.now (asking c.args.name.now c.args.shard c.args.epoch c.args.peer c.args.metric) (outputs c.args.request.now c.args.answer.now) (decoded (asking c.args.name.now c.args.shard c.args.epoch c.args.peer c.args.metric) c.text_fits.result c.text_fits.ensures (c.if-not-text_fits.false) c.in-Some.ensures.0) (view_key c.key_named-key.result) c.key_named-key.ensures (subst (FindsIn c.args.header.now c.args.stores.now (view_key c.key_named-key.result)) c.in-Malformed.is c.find-found.ensures)

pub returns-in-Absent : goal.returns-in-Absent
returns-in-Absent c =
    absent c.args.header.now c.args.stores.now (asking c.args.name.now c.args.shard c.args.epoch c.args.peer c.args.metric) (outputs c.args.request.now c.args.answer.now) (decoded (asking c.args.name.now c.args.shard c.args.epoch c.args.peer c.args.metric) c.text_fits.result c.text_fits.ensures (c.if-not-text_fits.false) c.in-Some.ensures.0) (view_key c.key_named-key.result) c.key_named-key.ensures (subst (FindsIn c.args.header.now c.args.stores.now (view_key c.key_named-key.result)) c.in-Absent.is c.find-found.ensures) _ _ c.stops.ensures.0 c.stops.ensures.1

pub returns-in-At : goal.returns-in-At
returns-in-At c =
    let d = subst (λ (k : Key). FoundIn c.args.header.now c.args.stores.now k c.in-At.at) c.key_named-key.ensures (subst (FindsIn c.args.header.now c.args.stores.now (view_key c.key_named-key.result)) c.in-At.is c.find-found.ensures) in
    found-asked c.args.header.now c.args.stores.now (asking c.args.name.now c.args.shard c.args.epoch c.args.peer c.args.metric) (outputs c.args.request.now c.args.answer.now) (decoded (asking c.args.name.now c.args.shard c.args.epoch c.args.peer c.args.metric) c.text_fits.result c.text_fits.ensures (c.if-not-text_fits.false) c.in-Some.ensures.0) (key_given c.args.name.now c.args.shard) refl c.in-Some.m c.in-Some.ensures.1 d.lends _ _ c.step_at.ensures
