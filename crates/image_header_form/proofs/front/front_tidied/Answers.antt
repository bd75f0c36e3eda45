use native.Mathlib.Omega.{arith}
use mathlib.Core.Path.{sym, ◌∙◌, ap}
use mathlib.Core.List.{List}
use Prim.Native.Nat.{ℕ, ◌+◌}
use lib.ListN.{length, take}
use Rattle.spec.specs.Layout.Parts.{metric_of, metric_code}
use Rattle.map_tables.specs.Names.{view_key}
use Rattle.map_tables.specs.declared.ShardKey.{ShardKey}
use Rattle.spec.specs.declared.Peer.{Peer}
use Rattle.spec.specs.declared.Replica.{Replica}
use Rattle.image_parts.specs.Shape.{in_use}
use Rattle.image_parts.specs.Codes.{flag_of, flag_code}
use Rattle.image_parts.specs.Parts.{no_replica}
use Rattle.image_parts.specs.Canon.{padded, image_key}
use Rattle.image_parts.proofs.Images.{length-used}
use Rattle.image_header_row.specs.Rows.{held_row_at}
use Rattle.image_header_check.proofs.Rows.{slot_is, stored_is, last-is, holders-is, count-is, peers-is, peers_long}
use Rattle.image_header_form.proofs.FrontLaws.{key-is, epoch-is, metric_is, own_is, role_is, replicas-is, replicas_long, front_as, stored_same}
use Rattle.image_header_form.proofs.front.front_tidied.Goals as goal

pub get8-held-requires : goal.get8-held-requires
get8-held-requires c = let p = c.requires in omega arith

pub get8-requires : goal.get8-requires
get8-requires c = let p = c.requires in omega arith

pub get4-requires : goal.get4-requires
get4-requires c = let p = c.requires in omega arith

pub get4-requires-2 : goal.get4-requires-2
get4-requires-2 c = let p = c.requires in omega arith

pub role_at-role-requires : goal.role_at-role-requires
role_at-role-requires c = let p = c.requires in omega arith

pub replicas_at-copies-requires : goal.replicas_at-copies-requires
replicas_at-copies-requires c = let p = c.requires in omega arith

pub put_front-requires : goal.put_front-requires
put_front-requires c = let p = c.requires in omega arith

pub returns : goal.returns
returns c =
    let a = c.args in
    let the-tidy-key = c.tidy_key-key in
    let the-get8 = c.get8-slot in
    let the-get82 = c.get8-stored in
    let the-get83 = c.get8-epoch in
    let the-get84 = c.get8-last in
    let the-get85 = c.get8-held in
    let the-in-use = c.in_use-holders in
    let the-in-use2 = c.in_use-count in
    let the-metric-code = c.metric_code-metric in
    let the-flag-code = c.flag_code-own in
    let the-role-at = c.role_at-role in
    let the-replicas-at = c.replicas_at-copies in
    let the-tidy-replicas = c.tidy_replicas-replicas in
    let s = a.out.now in
    let at = a.at in
    stored_same
    (front_as (held_row_at s at) the-tidy-key.result the-get8.result the-get82.result the-get83.result the-get84.result the-in-use.result the-in-use2.result the-metric-code.result the-flag-code.result the-role-at.result the-tidy-replicas.result
    (the-tidy-key.ensures ∙ ap (λ (k : ShardKey). image_key (view_key k)) (c.key_at.ensures ∙ sym (key-is s at)))
    (the-get8.ensures ∙ sym (slot_is s at))
    (the-get82.ensures ∙ sym (stored_is s at))
    (the-get83.ensures ∙ sym (epoch-is s at))
    (the-get84.ensures ∙ sym (last-is s at))
    (the-in-use.ensures.0 ∙ ap (in_use 8) (the-get85.ensures ∙ sym (holders-is s at)) ∙ sym (length-used 8 (held_row_at s at).held.holders (held_row_at s at).held.replicas (replicas_long s at)))
    (the-in-use2.ensures.0 ∙ ap (in_use 32) (c.get8.ensures ∙ sym (count-is s at)) ∙ sym (length-used 32 (held_row_at s at).held.count (held_row_at s at).held.peers (ap (λ (l : List Peer). length l) (peers-is s at) ∙ peers_long s (at + 256))))
    (the-metric-code.ensures ∙ ap metric_code (c.metric_of.ensures ∙ ap metric_of c.get4.ensures ∙ sym (metric_is s at)))
    (the-flag-code.ensures ∙ ap flag_code (c.flag_of.ensures ∙ ap flag_of c.get4-2.ensures ∙ sym (own_is s at)))
    (the-role-at.ensures ∙ sym (role_is s at))
    (the-tidy-replicas.ensures ∙ ap (λ (k : ℕ). padded 8 no_replica (take k the-replicas-at.result)) (the-get85.ensures ∙ sym (holders-is s at)) ∙ ap (λ (l : List Replica). padded 8 no_replica (take (held_row_at s at).held.holders l)) (the-replicas-at.ensures ∙ sym (replicas-is s at))))
    c.put_front.ensures
