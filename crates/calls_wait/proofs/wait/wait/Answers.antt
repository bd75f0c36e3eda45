use native.Mathlib.Omega.{arith}
use mathlib.Core.Path.{◌≡◌, refl, sym, ◌∙◌}
use mathlib.Core.Bool.{true}
use Rattle.map_tables.specs.Names.{view_key}
use Rattle.node_header.proofs.Formed.{header-few}
use Rattle.image_header.specs.Image.{header_lent, node_at}
use Rattle.image_header.proofs.Image.{lent_long}
use Rattle.calls_header.proofs.Asked.{asked-unread, asked_malformed, asked-called, name-fits}
use Rattle.image_header_check.specs.Rows.{Counts}
use Rattle.image_header_check.proofs.Rows.{counted}
use Rattle.calls_wait.proofs.WaitLaws.{wait_early, wait_short, wait_bad, wait_none, few, wait_at}
use Rattle.calls_wait.proofs.wait.wait.Goals as goal

pub returns-then-unread : goal.returns-then-unread
returns-then-unread c = asked-unread (sym c.unread.ensures ∙ c.if-unread.true) refl (refl, refl, refl)

pub returns-then-not-is_lent : goal.returns-then-not-is_lent
returns-then-not-is_lent c =
    asked_malformed (sym c.unread.ensures ∙ c.if-unread.false) (sym c.is_lent.ensures ∙ c.if-not-is_lent.true) refl (refl, refl, refl)

pub is_formed-requires : goal.is_formed-requires
is_formed-requires c = lent_long c.args.header.now (sym c.is_lent.ensures ∙ c.if-not-is_lent.false)

pub returns-then-not-is_formed : goal.returns-then-not-is_formed
returns-then-not-is_formed c =
    let a = c.args in
    let s = a.header.now in
    let u = sym c.unread.ensures ∙ c.if-unread.false in
    let lent : header_lent s ≡ true = sym c.is_lent.ensures ∙ c.if-not-is_lent.false in
    asked-called u lent (wait_bad s lent a.name.now a.shard _ refl a.peers.now a.answer.now a.epoch a.offset a.clock a.timeout (wait_early a.name.now a.clock a.timeout u) (wait_short a.name.now a.clock a.timeout u) (sym c.is_formed.ensures ∙ c.if-not-is_formed.true))

pub get8-count-requires : goal.get8-count-requires
get8-count-requires c = let l = lent_long c.args.header.now (sym c.is_lent.ensures ∙ c.if-not-is_lent.false) in omega arith

pub key_named-key-requires : goal.key_named-key-requires
key_named-key-requires c = name-fits c.args.name.now _ (sym c.unread.ensures ∙ c.if-unread.false)

pub place_at-at-requires : goal.place_at-at-requires
place_at-at-requires c =
    let s = c.args.header.now in
    let l = lent_long s (sym c.is_lent.ensures ∙ c.if-not-is_lent.false) in
    let w = header-few (node_at s) (sym c.is_formed.ensures ∙ c.if-not-is_formed.false) in
    let k = counted s in
    let e = c.get8-count.ensures in (l, omega arith, sym e)

pub returns-then-count-at : goal.returns-then-count-at
returns-then-count-at c =
    let a = c.args in
    let the-get8 = c.get8-count in
    let the-key-named = c.key_named-key in
    let s = a.header.now in
    let u = sym c.unread.ensures ∙ c.if-unread.false in
    let lent : header_lent s ≡ true = sym c.is_lent.ensures ∙ c.if-not-is_lent.false in
    let good = sym c.is_formed.ensures ∙ c.if-not-is_formed.false in
    let l = lent_long s lent in
    let w = header-few (node_at s) good in
    let k = counted s in
    let e = the-get8.ensures in
    let counts : Counts s the-get8.result = (l, omega arith, sym e) in
    asked-called u lent (wait_none s lent a.name.now a.shard (view_key the-key-named.result) the-key-named.ensures a.peers.now a.answer.now a.epoch a.offset a.clock a.timeout (wait_early a.name.now a.clock a.timeout u) (wait_short a.name.now a.clock a.timeout u) good the-get8.result counts c.place_at-at.result c.place_at-at.ensures c.if-count-at.true)

pub wait_at-requires : goal.wait_at-requires
wait_at-requires c =
    let a = c.args in
    let the-get8 = c.get8-count in
    let the-key-named = c.key_named-key in
    let the-place-at = c.place_at-at in
    let the-if4 = c.if-count-at in
    let s = a.header.now in
    let u = sym c.unread.ensures ∙ c.if-unread.false in
    let lent : header_lent s ≡ true = sym c.is_lent.ensures ∙ c.if-not-is_lent.false in
    let good = sym c.is_formed.ensures ∙ c.if-not-is_formed.false in
    let l = lent_long s lent in
    let w = header-few (node_at s) good in
    let k = counted s in
    let e = the-get8.ensures in
    let counts : Counts s the-get8.result = (l, omega arith, sym e) in
    (counts, the-if4.false, few s lent a.name.now a.shard (view_key the-key-named.result) the-key-named.ensures a.peers.now a.answer.now a.epoch a.offset a.clock a.timeout (wait_early a.name.now a.clock a.timeout u) (wait_short a.name.now a.clock a.timeout u) good the-get8.result counts the-place-at.result the-place-at.ensures the-if4.false)

pub returns : goal.returns
returns c =
    let a = c.args in
    let the-get8 = c.get8-count in
    let the-key-named = c.key_named-key in
    let the-place-at = c.place_at-at in
    let s = a.header.now in
    let u = sym c.unread.ensures ∙ c.if-unread.false in
    let lent : header_lent s ≡ true = sym c.is_lent.ensures ∙ c.if-not-is_lent.false in
    let good = sym c.is_formed.ensures ∙ c.if-not-is_formed.false in
    let l = lent_long s lent in
    let w = header-few (node_at s) good in
    let k = counted s in
    let e = the-get8.ensures in
    let counts : Counts s the-get8.result = (l, omega arith, sym e) in
    asked-called u lent (wait_at s lent a.name.now a.shard (view_key the-key-named.result) the-key-named.ensures a.peers.now a.answer.now a.epoch a.offset a.clock a.timeout (wait_early a.name.now a.clock a.timeout u) (wait_short a.name.now a.clock a.timeout u) good the-get8.result counts the-place-at.result the-place-at.ensures c.if-count-at.false _ _ _ _ c.wait_at.ensures)
