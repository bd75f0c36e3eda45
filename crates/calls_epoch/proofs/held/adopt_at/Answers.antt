use native.Mathlib.Omega.{arith}
use mathlib.Core.Path.{sym, ◌∙◌, ap}
use Prim.Native.Nat.{ℕ, ◌*◌}
use Rattle.log_arrive.proofs.Messages.{new_epoch_there}
use Rattle.map_tables.specs.Names.{view_key}
use Rattle.image_node_grow.proofs.GrowLaws.{row-slot, row_last, row-stored}
use Rattle.image_node_grow.specs.Grow.{row_in}
use Rattle.calls_epoch.proofs.Aligned.{last-most, left_of_lem}
use Rattle.calls_epoch.proofs.NewEpoch.{told_zero, row-own, keeps_here, tables_here, whole_sent, cut-sent}
use Rattle.calls_epoch.proofs.held.adopt_at.Goals as goal

pub overflow_mul-row : goal.overflow_mul-row
overflow_mul-row c = let cn = c.requires.0.counts.1 in let u = c.requires.0.found.under in omega arith

pub overflow_add-row : goal.overflow_add-row
overflow_add-row c = let cn = c.requires.0.counts.1 in let u = c.requires.0.found.under in omega arith

pub overflow_add-row-2 : goal.overflow_add-row-2
overflow_add-row-2 c = let cn = c.requires.0.counts.1 in let u = c.requires.0.found.under in omega arith

pub get8-own-requires : goal.get8-own-requires
get8-own-requires c =
    let cn = c.requires.0.counts.1 in let u = c.requires.0.found.under in let r = c.requires.0.counts.0 in omega arith

pub overflow_add-row-3 : goal.overflow_add-row-3
overflow_add-row-3 c = let cn = c.requires.0.counts.1 in let u = c.requires.0.found.under in omega arith

pub get8-slot-requires : goal.get8-slot-requires
get8-slot-requires c =
    let cn = c.requires.0.counts.1 in let u = c.requires.0.found.under in let r = c.requires.0.counts.0 in omega arith

pub overflow_add-row-4 : goal.overflow_add-row-4
overflow_add-row-4 c = let cn = c.requires.0.counts.1 in let u = c.requires.0.found.under in omega arith

pub get8-last-requires : goal.get8-last-requires
get8-last-requires c =
    let cn = c.requires.0.counts.1 in let u = c.requires.0.found.under in let r = c.requires.0.counts.0 in omega arith

pub overflow_add-row-5 : goal.overflow_add-row-5
overflow_add-row-5 c = let cn = c.requires.0.counts.1 in let u = c.requires.0.found.under in omega arith

pub get8-stored-requires : goal.get8-stored-requires
get8-stored-requires c =
    let cn = c.requires.0.counts.1 in let u = c.requires.0.found.under in let r = c.requires.0.counts.0 in omega arith

pub overflow_mul-base : goal.overflow_mul-base
overflow_mul-base c =
    let h = c.args.header.now in let f = c.requires.0 in let e = c.get8-slot.ensures ∙ sym (row-slot h c.args.at f.counts f.found.under) in let s = f.slot in omega arith

pub kept_of-left-requires : goal.kept_of-left-requires
kept_of-left-requires c =
    let h = c.args.header.now in let at = c.args.at in let f = c.requires.0 in let x = row_in h at in let eb = ap (λ (i : ℕ). i * 174080) (c.get8-slot.ensures ∙ sym (row-slot h at f.counts f.found.under)) in let el = c.get8-last.ensures ∙ sym (row_last h at f.counts f.found.under) in let most = last-most c.args.stores.now x f.room f.well in let room = f.room in (omega arith, omega arith, new_epoch_there c.args.message.now c.args.p c.requires.1.read)

pub make_anew-rows-requires : goal.make_anew-rows-requires
make_anew-rows-requires c =
    let h = c.args.header.now in let at = c.args.at in let f = c.requires.0 in let x = row_in h at in let eb = ap (λ (i : ℕ). i * 174080) (c.get8-slot.ensures ∙ sym (row-slot h at f.counts f.found.under)) in let el = c.get8-last.ensures ∙ sym (row_last h at f.counts f.found.under) in let most = last-most c.args.stores.now x f.room f.well in let room = f.room in let less = c.if-left-last.true in (omega arith, omega arith)

pub realign-requires : goal.realign-requires
realign-requires c = (c.requires.0.counts, c.requires.0.found.under)

pub returns-then-left-last : goal.returns-then-left-last
returns-then-left-last c =
    let h = c.args.header.now in let at = c.args.at in let f = c.requires.0 in let x = row_in h at in let eb = ap (λ (i : ℕ). i * 174080) (c.get8-slot.ensures ∙ sym (row-slot h at f.counts f.found.under)) in let el = c.get8-last.ensures ∙ sym (row_last h at f.counts f.found.under) in let eo = c.get8-own.ensures ∙ sym (row-own h at f.counts f.found.under) in let less = c.if-left-last.true in
    let g = left_of_lem c.args.stores.now x f.room f.well c.args.message.now c.args.p c.kept_of-left.result (keeps_here c.args.stores.now c.args.message.now c.args.p x _ _ _ _ eb el eo c.kept_of-left.ensures) in
    cut-sent c.args.header.now c.args.stores.now c.args.reply.now c.args.message.now (view_key c.args.key) (λ i. omega (arith, c.slice_known-2-1.given i)) c.args.p c.requires.1 at f c.requires.3 c.kept_of-left.result g (omega arith) _ _ _ _ _ (tables_here c.args.stores.now _ x _ _ _ eb c.make_anew-rows.ensures) c.realign.ensures c.put_reply.ensures (told_zero _ c.args.reply.now _ _ c.requires.2 c.put_reply.ensures)

pub realign-requires-2 : goal.realign-requires-2
realign-requires-2 c = (c.requires.0.counts, c.requires.0.found.under)

pub returns : goal.returns
returns c =
    let h = c.args.header.now in let at = c.args.at in let f = c.requires.0 in let x = row_in h at in let eb = ap (λ (i : ℕ). i * 174080) (c.get8-slot.ensures ∙ sym (row-slot h at f.counts f.found.under)) in let el = c.get8-last.ensures ∙ sym (row_last h at f.counts f.found.under) in let eo = c.get8-own.ensures ∙ sym (row-own h at f.counts f.found.under) in let es = c.get8-stored.ensures ∙ sym (row-stored h at f.counts f.found.under) in let all = c.if-left-last.false in
    let g = left_of_lem c.args.stores.now x f.room f.well c.args.message.now c.args.p c.kept_of-left.result (keeps_here c.args.stores.now c.args.message.now c.args.p x _ _ _ _ eb el eo c.kept_of-left.ensures) in
    whole_sent c.args.header.now c.args.stores.now c.args.reply.now c.args.message.now (view_key c.args.key) (λ i. omega (arith, c.slice_known-2-1.given i)) c.args.p c.requires.1 at f c.requires.3 c.kept_of-left.result g (omega arith) c.get8-last.result c.get8-stored.result el es _ _ _ c.realign-2.ensures c.put_reply-2.ensures (told_zero _ c.args.reply.now _ _ c.requires.2 c.put_reply-2.ensures)
