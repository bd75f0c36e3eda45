use borrow.Author.Rules.{rules}
use native.Mathlib.Omega.{arith}
use mathlib.Core.Path.{◌≡◌, sym, ◌∙◌}
use lib.ListN.{length}
use mathlib.Core.Bool.{true, false}
use Rattle.map_tables.specs.Names.{view_name}
use Rattle.map_tables.specs.View.{view_spec, view_list, view_placement}
use Rattle.map_tables.proofs.Tables.{used-size, of_field}
use Rattle.map_create.proofs.Create.{walked_some, walked_none, other-count, other_lists, all_match, exists_answer, zero_answer, mismatch_answer, dead-answer, full-answer, room-answer}
use Rattle.image_map_put.specs.Rows.{read_as}
use Rattle.image_map_drop.proofs.Drop.{has_it, has_not}
use Rattle.image_map_create.proofs.answer.create_answer.Goals as goal
use Rattle.image_map_create.proofs.answer.create_answer.Goals.{Start}

size : (c : Start) → length (view_placement c.args.p) ≡ c.args.p.count
size c = let h : length c.args.p.lists ≡ 16 = search (rules, of_field) in used-size view_list c.args.p.lists c.args.p.count (omega (arith, c.requires.2))

pub get8-count-requires : goal.get8-count-requires
get8-count-requires c = let l = c.requires.0.long in omega arith

pub collection_place-requires : goal.collection_place-requires
collection_place-requires c =
    let f = c.requires.0.collections in let e = c.get8-count.ensures in (c.requires.0.long, omega arith, sym e)

pub returns-then-collection_place-count : goal.returns-then-collection_place-count
returns-then-collection_place-count c =
    c.rejected.ensures ∙ sym (exists_answer (read_as c.args.map.now) (view_name c.args.name) (view_spec c.args.spec) (view_placement c.args.p) (has_it c.args.map.now c.requires.0 (view_name c.args.name) _ _ c.get8-count.ensures c.collection_place.ensures c.if-collection_place-count.true))

pub returns-then-zero_in : goal.returns-then-zero_in
returns-then-zero_in c =
    c.rejected-then-zero_in.ensures ∙ sym (zero_answer (read_as c.args.map.now) (view_name c.args.name) (view_spec c.args.spec) (view_placement c.args.p) (has_not c.args.map.now c.requires.0 (view_name c.args.name) _ _ c.get8-count.ensures c.collection_place.ensures c.if-collection_place-count.false) (sym c.zero_in.ensures ∙ c.if-zero_in.true))

pub returns-then-lists-shards : goal.returns-then-lists-shards
returns-then-lists-shards c =
    c.rejected-then-lists-shards.ensures ∙ sym (mismatch_answer (read_as c.args.map.now) (view_name c.args.name) (view_spec c.args.spec) (view_placement c.args.p) (has_not c.args.map.now c.requires.0 (view_name c.args.name) _ _ c.get8-count.ensures c.collection_place.ensures c.if-collection_place-count.false) (sym c.zero_in.ensures ∙ c.if-zero_in.false) (other-count (view_spec c.args.spec) (view_placement c.args.p) (λ e. c.if-lists-shards.true (sym (size (goal.at.returns-then-lists-shards c).Start) ∙ e))))

pub lists_match-requires : goal.lists_match-requires
lists_match-requires c = c.requires.2

pub returns-then-not-lists_match : goal.returns-then-not-lists_match
returns-then-not-lists_match c =
    c.rejected-then-not-lists_match.ensures ∙ sym (mismatch_answer (read_as c.args.map.now) (view_name c.args.name) (view_spec c.args.spec) (view_placement c.args.p) (has_not c.args.map.now c.requires.0 (view_name c.args.name) _ _ c.get8-count.ensures c.collection_place.ensures c.if-collection_place-count.false) (sym c.zero_in.ensures ∙ c.if-zero_in.false) (other_lists (view_spec c.args.spec) (view_placement c.args.p) (sym c.lists_match.ensures ∙ c.if-not-lists_match.true)))

pub walk-walked-requires : goal.walk-walked-requires
walk-walked-requires c = (c.requires.0, c.requires.2)

pub returns-in-Some : goal.returns-in-Some
returns-in-Some c =
    c.rejected-in-Some.ensures ∙ sym (dead-answer (read_as c.args.map.now) (view_name c.args.name) (view_spec c.args.spec) (view_placement c.args.p) (has_not c.args.map.now c.requires.0 (view_name c.args.name) _ _ c.get8-count.ensures c.collection_place.ensures c.if-collection_place-count.false) (sym c.zero_in.ensures ∙ c.if-zero_in.false) (all_match (view_spec c.args.spec) (view_placement c.args.p) (size (goal.at.returns-in-Some c).Start ∙ c.if-lists-shards.false) (sym c.lists_match.ensures ∙ c.if-not-lists_match.false)) _ (walked_some _ _ (sym c.walk-walked.ensures ∙ c.in-Some.is)))

pub has_room-requires : goal.has_room-requires
has_room-requires c = (c.requires.0, c.requires.1, c.requires.2)

pub returns-then-not-has_room : goal.returns-then-not-has_room
returns-then-not-has_room c =
    c.refused.ensures ∙ sym (full-answer (read_as c.args.map.now) (view_name c.args.name) (view_spec c.args.spec) (view_placement c.args.p) (has_not c.args.map.now c.requires.0 (view_name c.args.name) _ _ c.get8-count.ensures c.collection_place.ensures c.if-collection_place-count.false) (sym c.zero_in.ensures ∙ c.if-zero_in.false) (all_match (view_spec c.args.spec) (view_placement c.args.p) (size (goal.at.returns-then-not-has_room c).Start ∙ c.if-lists-shards.false) (sym c.lists_match.ensures ∙ c.if-not-lists_match.false)) (walked_none _ (sym c.walk-walked.ensures ∙ c.in_default.is)) (sym (c.has_room.ensures (view_placement c.args.p) (size (goal.at.returns-then-not-has_room c).Start)) ∙ c.if-not-has_room.true))

pub returns : goal.returns
returns c =
    c.applied.ensures ∙ sym (room-answer (read_as c.args.map.now) (view_name c.args.name) (view_spec c.args.spec) (view_placement c.args.p) (has_not c.args.map.now c.requires.0 (view_name c.args.name) _ _ c.get8-count.ensures c.collection_place.ensures c.if-collection_place-count.false) (sym c.zero_in.ensures ∙ c.if-zero_in.false) (all_match (view_spec c.args.spec) (view_placement c.args.p) (size (goal.at.returns c).Start ∙ c.if-lists-shards.false) (sym c.lists_match.ensures ∙ c.if-not-lists_match.false)) (walked_none _ (sym c.walk-walked.ensures ∙ c.in_default.is)) (sym (c.has_room.ensures (view_placement c.args.p) (size (goal.at.returns c).Start)) ∙ c.if-not-has_room.false))
