use native.Mathlib.Omega.{arith}
use mathlib.Core.Path.{sym, ◌∙◌}
use Rattle.map_tables.specs.Names.{view_key}
use Rattle.log_arrive.proofs.Messages.{copy_there}
use Rattle.image_node_grow.proofs.GrowLaws.{row_last}
use Rattle.calls_peer.proofs.Ways.{told_zero}
use Rattle.calls_copy.proofs.CopyLaws.{row-own, stores_there, last-most, room-read, stale, full, short, sent}
use Rattle.calls_copy.proofs.held.copy_at.Goals as goal

pub overflow_mul-row : goal.overflow_mul-row
overflow_mul-row c = let few = c.requires.0.counts.1 in let u = c.requires.0.found.under in omega arith

pub overflow_add-row : goal.overflow_add-row
overflow_add-row c = let few = c.requires.0.counts.1 in let u = c.requires.0.found.under in omega arith

pub overflow_add-row-2 : goal.overflow_add-row-2
overflow_add-row-2 c = let few = c.requires.0.counts.1 in let u = c.requires.0.found.under in omega arith

pub get8-own-requires : goal.get8-own-requires
get8-own-requires c =
    let long = c.requires.0.counts.0 in let few = c.requires.0.counts.1 in let u = c.requires.0.found.under in omega arith

pub overflow_add-row-3 : goal.overflow_add-row-3
overflow_add-row-3 c = let few = c.requires.0.counts.1 in let u = c.requires.0.found.under in omega arith

pub get8-last-requires : goal.get8-last-requires
get8-last-requires c =
    let long = c.requires.0.counts.0 in let few = c.requires.0.counts.1 in let u = c.requires.0.found.under in omega arith

pub returns-then-is_stale : goal.returns-then-is_stale
returns-then-is_stale c =
    stale c.args.header.now c.args.stores.now c.args.reply.now c.args.message.now (view_key c.args.key) (λ i. omega (arith, c.type_inv.stores i)) c.args.p c.requires.1 c.args.at c.requires.0 c.get8-own.result (c.get8-own.ensures ∙ sym (row-own c.args.header.now c.args.at c.requires.0.counts c.requires.0.found.under)) (c.is_stale.ensures.yes c.if-is_stale.true) _ _ c.put_reply.ensures

pub has_room-requires : goal.has_room-requires
has_room-requires c =
    let e = (c.get8-last.ensures ∙ sym (row_last c.args.header.now c.args.at c.requires.0.counts c.requires.0.found.under)) in let m = last-most c.args.header.now c.args.stores.now c.args.reply.now c.args.message.now (view_key c.args.key) (λ i. omega (arith, c.type_inv.stores i)) c.args.p c.requires.1 c.args.at c.requires.0 in (copy_there c.args.message.now c.args.p c.requires.1.read, omega arith)

pub returns-then-not-has_room : goal.returns-then-not-has_room
returns-then-not-has_room c =
    full c.args.header.now c.args.stores.now c.args.reply.now c.args.message.now (view_key c.args.key) (λ i. omega (arith, c.type_inv.stores i)) c.args.p c.requires.1 c.args.at c.requires.0 (λ z. c.is_stale.ensures.nay c.if-is_stale.false (z.0, λ e. z.1 (e ∙ (c.get8-own.ensures ∙ sym (row-own c.args.header.now c.args.at c.requires.0.counts c.requires.0.found.under))))) c.get8-last.result c.has_room.result (c.get8-last.ensures ∙ sym (row_last c.args.header.now c.args.at c.requires.0.counts c.requires.0.found.under)) (c.if-not-has_room.true) c.has_room.ensures

pub returns-then-reply-lt-REPLY : goal.returns-then-reply-lt-REPLY
returns-then-reply-lt-REPLY c =
    short c.args.header.now c.args.stores.now c.args.reply.now c.args.message.now (view_key c.args.key) (λ i. omega (arith, c.type_inv.stores i)) c.args.p c.requires.1 c.args.at c.requires.0 (λ z. c.is_stale.ensures.nay c.if-is_stale.false (z.0, λ e. z.1 (e ∙ (c.get8-own.ensures ∙ sym (row-own c.args.header.now c.args.at c.requires.0.counts c.requires.0.found.under))))) (room-read c.args.header.now c.args.stores.now c.args.reply.now c.args.message.now (view_key c.args.key) (λ i. omega (arith, c.type_inv.stores i)) c.args.p c.requires.1 c.args.at c.requires.0 c.get8-last.result c.has_room.result (c.get8-last.ensures ∙ sym (row_last c.args.header.now c.args.at c.requires.0.counts c.requires.0.found.under)) (c.if-not-has_room.false) c.has_room.ensures) c.if-reply-lt-REPLY.true

pub grow_all-through-requires : goal.grow_all-through-requires
grow_all-through-requires c =
    (c.requires.0.counts, c.requires.0.found.under, c.requires.0.slot, stores_there c.args.header.now c.args.stores.now (view_key c.args.key) c.requires.0.lends, c.requires.0.well, copy_there c.args.message.now c.args.p c.requires.1.read, c.requires.1.inside, (room-read c.args.header.now c.args.stores.now c.args.reply.now c.args.message.now (view_key c.args.key) (λ i. omega (arith, c.slice_known-2-1.given i)) c.args.p c.requires.1 c.args.at c.requires.0 c.get8-last.result c.has_room.result (c.get8-last.ensures ∙ sym (row_last c.args.header.now c.args.at c.requires.0.counts c.requires.0.found.under)) (c.if-not-has_room.false) c.has_room.ensures))

pub returns : goal.returns
returns c =
    sent c.args.header.now c.args.stores.now c.args.reply.now c.args.message.now (view_key c.args.key) (λ i. omega (arith, c.slice_known-2-1.given i)) c.args.p c.requires.1 c.args.at c.requires.0 (λ z. c.is_stale.ensures.nay c.if-is_stale.false (z.0, λ e. z.1 (e ∙ (c.get8-own.ensures ∙ sym (row-own c.args.header.now c.args.at c.requires.0.counts c.requires.0.found.under))))) (room-read c.args.header.now c.args.stores.now c.args.reply.now c.args.message.now (view_key c.args.key) (λ i. omega (arith, c.slice_known-2-1.given i)) c.args.p c.requires.1 c.args.at c.requires.0 c.get8-last.result c.has_room.result (c.get8-last.ensures ∙ sym (row_last c.args.header.now c.args.at c.requires.0.counts c.requires.0.found.under)) (c.if-not-has_room.false) c.has_room.ensures) _ _ _ c.grow_all-through.ensures _ _ c.put_reply-2.ensures (told_zero _ c.args.reply.now _ _ c.if-reply-lt-REPLY.false c.put_reply-2.ensures)
