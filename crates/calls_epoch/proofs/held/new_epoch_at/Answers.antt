use native.Mathlib.Omega.{arith}
use mathlib.Core.Path.{sym, ◌∙◌}
use Rattle.map_tables.specs.Names.{view_key}
use Rattle.calls_epoch.proofs.NewEpoch.{row-own, row_role, stale_here, stale, short}
use Rattle.calls_epoch.proofs.held.new_epoch_at.Goals as goal

pub overflow_mul-row : goal.overflow_mul-row
overflow_mul-row c = let cn = c.requires.0.counts.1 in let u = c.requires.0.found.under in omega arith

pub overflow_add-row : goal.overflow_add-row
overflow_add-row c = let cn = c.requires.0.counts.1 in let u = c.requires.0.found.under in omega arith

pub overflow_add-row-2 : goal.overflow_add-row-2
overflow_add-row-2 c = let cn = c.requires.0.counts.1 in let u = c.requires.0.found.under in omega arith

pub get8-own-requires : goal.get8-own-requires
get8-own-requires c =
    let cn = c.requires.0.counts.1 in let u = c.requires.0.found.under in let r = c.requires.0.counts.0 in omega arith

pub overflow_add-row-3 : goal.overflow_add-row-3
overflow_add-row-3 c = let cn = c.requires.0.counts.1 in let u = c.requires.0.found.under in omega arith

pub role_at-role-requires : goal.role_at-role-requires
role_at-role-requires c =
    let cn = c.requires.0.counts.1 in let u = c.requires.0.found.under in let r = c.requires.0.counts.0 in omega arith

pub returns-then-is_stale : goal.returns-then-is_stale
returns-then-is_stale c =
    let h = c.args.header.now in let at = c.args.at in let f = c.requires.0 in let eo = c.get8-own.ensures ∙ sym (row-own h at f.counts f.found.under) in let er = c.role_at-role.ensures ∙ sym (row_role h at f.counts f.found.under) in stale c.args.header.now c.args.stores.now c.args.reply.now c.args.message.now (view_key c.args.key) (λ i. omega (arith, c.type_inv.stores i)) c.args.p c.requires.1 at f c.get8-own.result eo (sym (stale_here _ _ _ _ c.args.p.epoch.0 er eo) ∙ sym c.is_stale.ensures ∙ c.if-is_stale.true) _ _ c.put_reply.ensures

pub returns-then-reply-lt-REPLY : goal.returns-then-reply-lt-REPLY
returns-then-reply-lt-REPLY c =
    let h = c.args.header.now in let at = c.args.at in let f = c.requires.0 in let eo = c.get8-own.ensures ∙ sym (row-own h at f.counts f.found.under) in let er = c.role_at-role.ensures ∙ sym (row_role h at f.counts f.found.under) in short c.args.header.now c.args.stores.now c.args.reply.now c.args.message.now (view_key c.args.key) (λ i. omega (arith, c.type_inv.stores i)) c.args.p c.requires.1 at f (sym (stale_here _ _ _ _ c.args.p.epoch.0 er eo) ∙ sym c.is_stale.ensures ∙ c.if-is_stale.false) c.if-reply-lt-REPLY.true

pub adopt_at-requires : goal.adopt_at-requires
adopt_at-requires c =
    let h = c.args.header.now in let at = c.args.at in let f = c.requires.0 in let eo = c.get8-own.ensures ∙ sym (row-own h at f.counts f.found.under) in let er = c.role_at-role.ensures ∙ sym (row_role h at f.counts f.found.under) in (f, c.requires.1, c.if-reply-lt-REPLY.false, sym (stale_here _ _ _ _ c.args.p.epoch.0 er eo) ∙ sym c.is_stale.ensures ∙ c.if-is_stale.false)

pub returns : goal.returns
returns c = c.adopt_at.ensures
