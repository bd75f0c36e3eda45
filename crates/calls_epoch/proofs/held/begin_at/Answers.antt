use native.Mathlib.Omega.{arith}
use Rattle.calls_epoch.proofs.Begin.{counts_here, full, sent, short}
use Rattle.image_header_check.proofs.Rows.{counted}
use Rattle.calls_epoch.proofs.NewEpoch.{told_zero}
use Rattle.calls_epoch.proofs.held.begin_at.Goals as goal

pub get8-requires : goal.get8-requires
get8-requires c =
    let cn = (counts_here c.args.header.now c.args.stores.now c.args.reply.now c.args.message.now c.args.key (λ i. omega (arith, c.shared_slice_known-1.given i)) c.args.p c.requires.1 c.requires.0).0 in omega arith

pub returns-then-get8-ge-HELD : goal.returns-then-get8-ge-HELD
returns-then-get8-ge-HELD c =
    let e = counted c.args.header.now in let g = c.get8.ensures in let z = c.if-get8-ge-HELD.true in full c.args.header.now c.args.stores.now c.args.reply.now c.args.message.now c.args.key (λ i. omega (arith, c.type_inv.stores i)) c.args.p c.requires.1 c.requires.0 (omega arith)

pub returns-then-reply-lt-REPLY : goal.returns-then-reply-lt-REPLY
returns-then-reply-lt-REPLY c =
    let e = counted c.args.header.now in let g = c.get8.ensures in let z = c.if-get8-ge-HELD.false in short c.args.header.now c.args.stores.now c.args.reply.now c.args.message.now c.args.key (λ i. omega (arith, c.type_inv.stores i)) c.args.p c.requires.1 c.requires.0 (omega arith) c.if-reply-lt-REPLY.true

pub begin-requires : goal.begin-requires
begin-requires c =
    let e = counted c.args.header.now in let g = c.get8.ensures in let z = c.if-get8-ge-HELD.false in (counts_here c.args.header.now c.args.stores.now c.args.reply.now c.args.message.now c.args.key (λ i. omega (arith, c.type_inv.stores i)) c.args.p c.requires.1 c.requires.0, omega arith)

pub returns : goal.returns
returns c =
    let e = counted c.args.header.now in let g = c.get8.ensures in let z = c.if-get8-ge-HELD.false in sent c.args.header.now c.args.stores.now c.args.reply.now c.args.message.now c.args.key (λ i. omega (arith, c.type_inv.stores i)) c.args.p c.requires.1 c.requires.0 (omega arith) _ _ _ c.begin.ensures c.put_reply.ensures (told_zero _ c.args.reply.now _ _ c.if-reply-lt-REPLY.false c.put_reply.ensures)
