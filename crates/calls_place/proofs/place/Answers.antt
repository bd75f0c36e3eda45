use mathlib.Core.Path.{sym, ◌∙◌}
use Rattle.map_place.specs.Answers.{placed_of}
use Rattle.calls_map.specs.Places.{spec_given}
use Rattle.calls_map.proofs.Places.{place_unlent, place_malformed, place-lent}
use Rattle.image_map_loads.proofs.Rows.{lent_long, used_of}
use Rattle.calls_place.proofs.Places.{placed-live}
use Rattle.calls_place.proofs.place.Goals as goal

pub returns-then-not-is_lent : goal.returns-then-not-is_lent
returns-then-not-is_lent c =
    place_unlent c.args.map.now c.args.shards c.args.replication c.args.lists.now (sym c.is_lent.ensures ∙ c.if-not-is_lent.true)

pub is_formed-requires : goal.is_formed-requires
is_formed-requires c = lent_long c.args.map.now (sym c.is_lent.ensures ∙ c.if-not-is_lent.false)

pub returns-then-not-is_formed : goal.returns-then-not-is_formed
returns-then-not-is_formed c =
    place_malformed c.args.map.now c.args.shards c.args.replication c.args.lists.now (sym c.is_lent.ensures ∙ c.if-not-is_lent.false) (sym c.is_formed.ensures ∙ c.if-not-is_formed.true)

pub live_loads-loads-requires : goal.live_loads-loads-requires
live_loads-loads-requires c =
    used_of c.args.map.now (sym c.is_lent.ensures ∙ c.if-not-is_lent.false) (sym c.is_formed.ensures ∙ c.if-not-is_formed.false)

pub place_on-placed-requires : goal.place_on-placed-requires
place_on-placed-requires c =
    (c.live_loads-loads.ensures.count, c.live_loads-loads.ensures.size, c.live_loads-loads.ensures.light)

pub returns : goal.returns
returns c =
    let a = c.args in let m = a.map.now in
    place-lent m a.shards a.replication a.lists.now (placed_of c.place_on-placed.result) _ _ (sym c.is_lent.ensures ∙ c.if-not-is_lent.false)
    (placed-live m (spec_given a.shards a.replication) c.live_loads-loads.result (placed_of c.place_on-placed.result) (sym c.is_formed.ensures ∙ c.if-not-is_formed.false) c.live_loads-loads.ensures c.place_on-placed.ensures)
    c.answer_lists.ensures
