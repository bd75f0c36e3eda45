use native.Mathlib.Omega.{arith}
use mathlib.Core.Path.{sym, ◌∙◌, ap}
use Prim.Native.Nat.{ℕ, ◌+◌}
use Rattle.map_tables.specs.Names.{view_key}
use Rattle.log_arrive.proofs.Messages.{replicate_there}
use Rattle.image_node_grow.proofs.GrowLaws.{row_last}
use Rattle.calls_replicate.specs.Asked.{laid}
use Rattle.calls_peer.proofs.Ways.{told_zero}
use Rattle.calls_replicate.proofs.ReplicateLaws.{stale, full, stays, stays_short, grows_sent, grows_short, row-own, last-most}
use Rattle.calls_replicate.proofs.held.replicate_at.Goals as goal

pub overflow_mul-row : goal.overflow_mul-row
overflow_mul-row c = let few = c.requires.0.counts.1 in let u = c.requires.0.found.under in omega arith

pub overflow_add-row : goal.overflow_add-row
overflow_add-row c = let few = c.requires.0.counts.1 in let u = c.requires.0.found.under in omega arith

pub overflow_add-row-2 : goal.overflow_add-row-2
overflow_add-row-2 c = let few = c.requires.0.counts.1 in let u = c.requires.0.found.under in omega arith

pub get8-own-requires : goal.get8-own-requires
get8-own-requires c =
    let long = c.requires.0.counts.0 in let few = c.requires.0.counts.1 in let u = c.requires.0.found.under in omega arith

pub overflow_add-row-3 : goal.overflow_add-row-3
overflow_add-row-3 c = let few = c.requires.0.counts.1 in let u = c.requires.0.found.under in omega arith

pub get8-last-requires : goal.get8-last-requires
get8-last-requires c =
    let long = c.requires.0.counts.0 in let few = c.requires.0.counts.1 in let u = c.requires.0.found.under in omega arith

pub returns-then-epoch-own : goal.returns-then-epoch-own
returns-then-epoch-own c =
    stale c.args.header.now c.args.stores.now c.args.reply.now c.args.message.now (view_key c.args.key) (λ i. omega (arith, c.type_inv.stores i)) c.args.p c.requires.1 c.args.at c.requires.0 c.get8-own.result (c.get8-own.ensures ∙ sym (row-own c.args.header.now c.args.at c.requires.0.counts c.requires.0.found.under)) c.if-epoch-own.true _ _ c.put_reply.ensures

pub overflow_add-next : goal.overflow_add-next
overflow_add-next c =
    let e = c.get8-last.ensures ∙ sym (row_last c.args.header.now c.args.at c.requires.0.counts c.requires.0.found.under) in let m = last-most c.args.header.now c.args.stores.now c.args.reply.now c.args.message.now (view_key c.args.key) (λ i. omega (arith, c.type_inv.stores i)) c.args.p c.requires.1 c.args.at c.requires.0 in omega arith

pub returns-then-last-eq-ENTRIES : goal.returns-then-last-eq-ENTRIES
returns-then-last-eq-ENTRIES c =
    full c.args.header.now c.args.stores.now c.args.reply.now c.args.message.now (view_key c.args.key) (λ i. omega (arith, c.type_inv.stores i)) c.args.p c.requires.1 c.args.at c.requires.0 (c.if-epoch-own.false ∙ c.get8-own.ensures ∙ sym (row-own c.args.header.now c.args.at c.requires.0.counts c.requires.0.found.under)) (c.if-offset-next.true ∙ ap (λ (i : ℕ). i + 1) (c.get8-last.ensures ∙ sym (row_last c.args.header.now c.args.at c.requires.0.counts c.requires.0.found.under))) (sym (c.get8-last.ensures ∙ sym (row_last c.args.header.now c.args.at c.requires.0.counts c.requires.0.found.under)) ∙ c.if-last-eq-ENTRIES.true)

pub returns-then-reply-lt-REPLY : goal.returns-then-reply-lt-REPLY
returns-then-reply-lt-REPLY c =
    let e = c.get8-last.ensures ∙ sym (row_last c.args.header.now c.args.at c.requires.0.counts c.requires.0.found.under) in let m = last-most c.args.header.now c.args.stores.now c.args.reply.now c.args.message.now (view_key c.args.key) (λ i. omega (arith, c.type_inv.stores i)) c.args.p c.requires.1 c.args.at c.requires.0 in let z = c.if-last-eq-ENTRIES.false in
    grows_short c.args.header.now c.args.stores.now c.args.reply.now c.args.message.now (view_key c.args.key) (λ i. omega (arith, c.type_inv.stores i)) c.args.p c.requires.1 c.args.at c.requires.0 (c.if-epoch-own.false ∙ c.get8-own.ensures ∙ sym (row-own c.args.header.now c.args.at c.requires.0.counts c.requires.0.found.under)) (c.if-offset-next.true ∙ ap (λ (i : ℕ). i + 1) e) (omega (arith, z)) c.if-reply-lt-REPLY.true

pub grow-requires : goal.grow-requires
grow-requires c =
    let e = c.get8-last.ensures ∙ sym (row_last c.args.header.now c.args.at c.requires.0.counts c.requires.0.found.under) in let m = last-most c.args.header.now c.args.stores.now c.args.reply.now c.args.message.now (view_key c.args.key) (λ i. omega (arith, c.slice_known-2-1.given i)) c.args.p c.requires.1 c.args.at c.requires.0 in let z = c.if-last-eq-ENTRIES.false in
    (c.requires.0.counts, c.requires.0.found.under, c.requires.0.slot, omega (arith, z), c.requires.0.room, c.requires.0.well, replicate_there c.args.message.now c.args.p c.requires.1.read, c.requires.1.inside)

pub returns-then-offset-next : goal.returns-then-offset-next
returns-then-offset-next c =
    let e = c.get8-last.ensures ∙ sym (row_last c.args.header.now c.args.at c.requires.0.counts c.requires.0.found.under) in let m = last-most c.args.header.now c.args.stores.now c.args.reply.now c.args.message.now (view_key c.args.key) (λ i. omega (arith, c.slice_known-2-1.given i)) c.args.p c.requires.1 c.args.at c.requires.0 in let z = c.if-last-eq-ENTRIES.false in
    grows_sent c.args.header.now c.args.stores.now c.args.reply.now c.args.message.now (view_key c.args.key) (λ i. omega (arith, c.slice_known-2-1.given i)) c.args.p c.requires.1 c.args.at c.requires.0 (c.if-epoch-own.false ∙ c.get8-own.ensures ∙ sym (row-own c.args.header.now c.args.at c.requires.0.counts c.requires.0.found.under)) (c.if-offset-next.true ∙ ap (λ (i : ℕ). i + 1) e) (omega (arith, z)) _ _ _ _ _ c.grow.ensures (ap (λ (i : ℕ). i + 1) e) c.put_reply-then-offset-next.ensures (told_zero _ c.args.reply.now _ _ c.if-reply-lt-REPLY.false c.put_reply-then-offset-next.ensures)

pub returns-then-reply-lt-REPLY-2 : goal.returns-then-reply-lt-REPLY-2
returns-then-reply-lt-REPLY-2 c =
    let e = c.get8-last.ensures ∙ sym (row_last c.args.header.now c.args.at c.requires.0.counts c.requires.0.found.under) in
    stays_short c.args.header.now c.args.stores.now c.args.reply.now c.args.message.now (view_key c.args.key) (λ i. omega (arith, c.type_inv.stores i)) c.args.p c.requires.1 c.args.at c.requires.0 (c.if-epoch-own.false ∙ c.get8-own.ensures ∙ sym (row-own c.args.header.now c.args.at c.requires.0.counts c.requires.0.found.under)) (λ z. c.if-offset-next.false (z ∙ ap (λ (i : ℕ). i + 1) (sym e))) c.if-reply-lt-REPLY-2.true

pub tidy-requires : goal.tidy-requires
tidy-requires c = (c.requires.0.counts, c.requires.0.found.under)

pub told-requires : goal.told-requires
told-requires c =
    let e = c.get8-last.ensures ∙ sym (row_last c.args.header.now c.args.at c.requires.0.counts c.requires.0.found.under) in let m = last-most c.args.header.now c.args.stores.now c.args.reply.now c.args.message.now (view_key c.args.key) (λ i. omega (arith, c.slice_known-2-1.given i)) c.args.p c.requires.1 c.args.at c.requires.0 in omega arith

pub returns : goal.returns
returns c =
    let e = c.get8-last.ensures ∙ sym (row_last c.args.header.now c.args.at c.requires.0.counts c.requires.0.found.under) in
    stays c.args.header.now c.args.stores.now c.args.reply.now c.args.message.now (view_key c.args.key) (λ i. omega (arith, c.slice_known-2-1.given i)) c.args.p c.requires.1 c.args.at c.requires.0 (c.if-epoch-own.false ∙ c.get8-own.ensures ∙ sym (row-own c.args.header.now c.args.at c.requires.0.counts c.requires.0.found.under)) (λ z. c.if-offset-next.false (z ∙ ap (λ (i : ℕ). i + 1) (sym e))) _ _ _ c.told.result (c.told.ensures ∙ ap (laid c.args.p.offset.0) e) c.tidy.ensures c.put_reply-2.ensures (told_zero _ c.args.reply.now _ _ c.if-reply-lt-REPLY-2.false c.put_reply-2.ensures)
