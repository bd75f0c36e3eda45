use native.Mathlib.Omega.{arith}
use mathlib.Core.Path.{◌≡◌, refl, sym, ◌∙◌}
use mathlib.Core.Bool.{true}
use Rattle.map_tables.specs.Names.{view_key}
use Rattle.node_header.proofs.Formed.{header-few}
use Rattle.image_header.specs.Image.{header_lent, node_at}
use Rattle.image_header.proofs.Image.{lent_long}
use Rattle.calls_header.proofs.Asked.{asked-unread, asked_malformed, asked-called, name-fits}
use Rattle.image_header_check.specs.Rows.{Counts}
use Rattle.image_header_check.proofs.Rows.{counted}
use Rattle.calls_ack.proofs.AckLaws.{ack_bad, ack_none, ack_at}
use Rattle.calls_ack.proofs.ack.ack.Goals as goal

pub returns-in_default : goal.returns-in_default
returns-in_default c = asked-unread (c.heeded-h.ensures.none c.in_default.is) refl refl

pub returns-then-not-is_lent : goal.returns-then-not-is_lent
returns-then-not-is_lent c =
    let u = c.heeded-h.ensures.some _ c.in-Some.is in asked_malformed u.0 (sym c.is_lent.ensures ∙ c.if-not-is_lent.true) refl refl

pub is_formed-requires : goal.is_formed-requires
is_formed-requires c = lent_long c.args.header.now (sym c.is_lent.ensures ∙ c.if-not-is_lent.false)

pub returns-then-not-is_formed : goal.returns-then-not-is_formed
returns-then-not-is_formed c =
    let u = c.heeded-h.ensures.some _ c.in-Some.is in let s = c.args.header.now in let lent : header_lent s ≡ true = sym c.is_lent.ensures ∙ c.if-not-is_lent.false in
    asked-called u.0 lent (ack_bad s lent c.args.name.now c.args.shard _ refl c.args.reply.now _ u.1 u.2 c.args.epoch c.args.peer c.args.step _ refl (sym c.is_formed.ensures ∙ c.if-not-is_formed.true))

pub get8-count-requires : goal.get8-count-requires
get8-count-requires c =
    let s = c.args.header.now in let lent : header_lent s ≡ true = sym c.is_lent.ensures ∙ c.if-not-is_lent.false in let l = lent_long s lent in omega arith

pub key_named-key-requires : goal.key_named-key-requires
key_named-key-requires c = let u = c.heeded-h.ensures.some _ c.in-Some.is in name-fits c.args.name.now _ u.0

pub place_at-at-requires : goal.place_at-at-requires
place_at-at-requires c =
    let s = c.args.header.now in let lent : header_lent s ≡ true = sym c.is_lent.ensures ∙ c.if-not-is_lent.false in let good = sym c.is_formed.ensures ∙ c.if-not-is_formed.false in let l = lent_long s lent in let w = header-few (node_at s) good in let k = counted s in let e = c.get8-count.ensures in
    let counts : Counts s c.get8-count.result = (l, omega arith, sym e) in
    counts

pub put_back-requires : goal.put_back-requires
put_back-requires c =
    let s = c.args.header.now in let lent : header_lent s ≡ true = sym c.is_lent.ensures ∙ c.if-not-is_lent.false in let good = sym c.is_formed.ensures ∙ c.if-not-is_formed.false in let l = lent_long s lent in let w = header-few (node_at s) good in let k = counted s in let e = c.get8-count.ensures in
    let counts : Counts s c.get8-count.result = (l, omega arith, sym e) in
    counts

pub returns-then-count-at : goal.returns-then-count-at
returns-then-count-at c =
    let u = c.heeded-h.ensures.some _ c.in-Some.is in let s = c.args.header.now in let lent : header_lent s ≡ true = sym c.is_lent.ensures ∙ c.if-not-is_lent.false in let good = sym c.is_formed.ensures ∙ c.if-not-is_formed.false in let l = lent_long s lent in let w = header-few (node_at s) good in let k = counted s in let e = c.get8-count.ensures in
    let counts : Counts s c.get8-count.result = (l, omega arith, sym e) in
    asked-called u.0 lent (ack_none s lent c.args.name.now c.args.shard (view_key c.key_named-key.result) c.key_named-key.ensures c.args.reply.now _ u.1 u.2 c.args.epoch c.args.peer c.args.step _ refl good c.get8-count.result counts c.place_at-at.result c.place_at-at.ensures c.if-count-at.true _ c.put_back.ensures)

pub ack_at-requires : goal.ack_at-requires
ack_at-requires c =
    let u = c.heeded-h.ensures.some _ c.in-Some.is in let s = c.args.header.now in let lent : header_lent s ≡ true = sym c.is_lent.ensures ∙ c.if-not-is_lent.false in let good = sym c.is_formed.ensures ∙ c.if-not-is_formed.false in let l = lent_long s lent in let w = header-few (node_at s) good in let k = counted s in let e = c.get8-count.ensures in
    let counts : Counts s c.get8-count.result = (l, omega arith, sym e) in
    (counts, c.if-count-at.false, good, u.2)

pub returns : goal.returns
returns c =
    let u = c.heeded-h.ensures.some _ c.in-Some.is in let s = c.args.header.now in let lent : header_lent s ≡ true = sym c.is_lent.ensures ∙ c.if-not-is_lent.false in let good = sym c.is_formed.ensures ∙ c.if-not-is_formed.false in let l = lent_long s lent in let w = header-few (node_at s) good in let k = counted s in let e = c.get8-count.ensures in
    let counts : Counts s c.get8-count.result = (l, omega arith, sym e) in
    asked-called u.0 lent (ack_at s lent c.args.name.now c.args.shard (view_key c.key_named-key.result) c.key_named-key.ensures c.args.reply.now _ u.1 u.2 c.args.epoch c.args.peer c.args.step c.sent_at-sent.result c.sent_at-sent.ensures good c.get8-count.result counts c.place_at-at.result c.place_at-at.ensures c.if-count-at.false _ _ c.ack_at.ensures)
