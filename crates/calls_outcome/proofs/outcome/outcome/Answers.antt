use native.Mathlib.Omega.{arith}
use mathlib.Core.Path.{◌≡◌, refl, sym, ◌∙◌, ap}
use mathlib.Core.Bool.{true}
use lib.Dec.{eqb}
use Rattle.spec.specs.Node.Ack.{leaves}
use Rattle.map_tables.specs.Names.{view_key}
use Rattle.node_header.specs.declared.Proposal.{Proposal}
use Rattle.node_header.specs.Answers.{proposal_of}
use Rattle.node_header.proofs.Formed.{header-few}
use Rattle.image_header.specs.Image.{header_lent, node_at}
use Rattle.image_header.proofs.Image.{lent_long}
use Rattle.calls_header.proofs.Asked.{asked-unread, asked_malformed, asked-called, name-fits}
use Rattle.image_header_check.specs.Rows.{Counts}
use Rattle.image_header_check.proofs.Rows.{counted}
use Rattle.image_header_set.proofs.SetLaws.{counts-still}
use Rattle.calls_outcome.proofs.OutcomeLaws.{outcome_bad, outcome-none, few_here, outcome-at}
use Rattle.calls_outcome.proofs.outcome.outcome.Goals as goal

pub returns-then-unread : goal.returns-then-unread
returns-then-unread c = asked-unread (sym c.unread.ensures ∙ c.if-unread.true) refl refl

pub returns-then-not-is_lent : goal.returns-then-not-is_lent
returns-then-not-is_lent c =
    let u = sym c.unread.ensures ∙ c.if-unread.false in asked_malformed u (sym c.is_lent.ensures ∙ c.if-not-is_lent.true) refl refl

pub is_formed-requires : goal.is_formed-requires
is_formed-requires c = lent_long c.args.header.now (sym c.is_lent.ensures ∙ c.if-not-is_lent.false)

pub returns-then-not-is_formed : goal.returns-then-not-is_formed
returns-then-not-is_formed c =
    let u = sym c.unread.ensures ∙ c.if-unread.false in let s = c.args.header.now in let lent : header_lent s ≡ true = sym c.is_lent.ensures ∙ c.if-not-is_lent.false in
    asked-called u lent (outcome_bad s lent c.args.name.now c.args.shard _ refl c.args.epoch c.args.peer c.args.command c.args.applied (sym c.is_formed.ensures ∙ c.if-not-is_formed.true))

pub get8-count-requires : goal.get8-count-requires
get8-count-requires c =
    let s = c.args.header.now in let lent : header_lent s ≡ true = sym c.is_lent.ensures ∙ c.if-not-is_lent.false in let l = lent_long s lent in omega arith

pub key_named-key-requires : goal.key_named-key-requires
key_named-key-requires c = let u = sym c.unread.ensures ∙ c.if-unread.false in name-fits c.args.name.now _ u

pub place_at-at-requires : goal.place_at-at-requires
place_at-at-requires c =
    let s = c.args.header.now in let lent : header_lent s ≡ true = sym c.is_lent.ensures ∙ c.if-not-is_lent.false in let good = sym c.is_formed.ensures ∙ c.if-not-is_formed.false in let l = lent_long s lent in let w = header-few (node_at s) good in let k = counted s in let e = c.get8-count.ensures in
    let counts : Counts s c.get8-count.result = (l, omega arith, sym e) in
    counts

pub put_back-requires : goal.put_back-requires
put_back-requires c =
    let s = c.args.header.now in let lent : header_lent s ≡ true = sym c.is_lent.ensures ∙ c.if-not-is_lent.false in let good = sym c.is_formed.ensures ∙ c.if-not-is_formed.false in let l = lent_long s lent in let w = header-few (node_at s) good in let k = counted s in let e = c.get8-count.ensures in
    let counts : Counts s c.get8-count.result = (l, omega arith, sym e) in
    counts

pub returns-then-count-at : goal.returns-then-count-at
returns-then-count-at c =
    let u = sym c.unread.ensures ∙ c.if-unread.false in let s = c.args.header.now in let lent : header_lent s ≡ true = sym c.is_lent.ensures ∙ c.if-not-is_lent.false in let good = sym c.is_formed.ensures ∙ c.if-not-is_formed.false in let l = lent_long s lent in let w = header-few (node_at s) good in let k = counted s in let e = c.get8-count.ensures in
    let counts : Counts s c.get8-count.result = (l, omega arith, sym e) in
    asked-called u lent (outcome-none s lent c.args.name.now c.args.shard (view_key c.key_named-key.result) c.key_named-key.ensures c.args.epoch c.args.peer c.args.command c.args.applied good c.get8-count.result counts c.place_at-at.result c.place_at-at.ensures c.if-count-at.true _ c.put_back.ensures)

pub get8-me-requires : goal.get8-me-requires
get8-me-requires c =
    let s = c.args.header.now in let lent : header_lent s ≡ true = sym c.is_lent.ensures ∙ c.if-not-is_lent.false in let l = lent_long s lent in omega arith

pub overflow_mul-at : goal.overflow_mul-at
overflow_mul-at c =
    let s = c.args.header.now in let lent : header_lent s ≡ true = sym c.is_lent.ensures ∙ c.if-not-is_lent.false in let good = sym c.is_formed.ensures ∙ c.if-not-is_formed.false in let l = lent_long s lent in let w = header-few (node_at s) good in let k = counted s in let e = c.get8-count.ensures in
    let counts : Counts s c.get8-count.result = (l, omega arith, sym e) in
    let h = c.if-count-at.false in omega arith

pub overflow_add-at : goal.overflow_add-at
overflow_add-at c =
    let s = c.args.header.now in let lent : header_lent s ≡ true = sym c.is_lent.ensures ∙ c.if-not-is_lent.false in let good = sym c.is_formed.ensures ∙ c.if-not-is_formed.false in let l = lent_long s lent in let w = header-few (node_at s) good in let k = counted s in let e = c.get8-count.ensures in
    let counts : Counts s c.get8-count.result = (l, omega arith, sym e) in
    let h = c.if-count-at.false in omega arith

pub settle_row-requires : goal.settle_row-requires
settle_row-requires c =
    let s = c.args.header.now in let lent : header_lent s ≡ true = sym c.is_lent.ensures ∙ c.if-not-is_lent.false in let good = sym c.is_formed.ensures ∙ c.if-not-is_formed.false in let l = lent_long s lent in let w = header-few (node_at s) good in let k = counted s in let e = c.get8-count.ensures in
    let counts : Counts s c.get8-count.result = (l, omega arith, sym e) in
    let h = c.if-count-at.false in (omega arith, few_here s lent c.args.name.now c.args.shard (view_key c.key_named-key.result) c.key_named-key.ensures c.args.epoch c.args.peer c.args.command c.args.applied good c.get8-count.result counts c.place_at-at.result c.place_at-at.ensures c.if-count-at.false)

pub put_back-requires-2 : goal.put_back-requires-2
put_back-requires-2 c =
    let s = c.args.header.now in let lent : header_lent s ≡ true = sym c.is_lent.ensures ∙ c.if-not-is_lent.false in let good = sym c.is_formed.ensures ∙ c.if-not-is_formed.false in let l = lent_long s lent in let w = header-few (node_at s) good in let k = counted s in let e = c.get8-count.ensures in
    let counts : Counts s c.get8-count.result = (l, omega arith, sym e) in
    counts-still s _ c.get8-count.result counts c.place_at-at.result c.if-count-at.false c.settle_row.ensures.becomes.outside

pub shape_of-header : goal.shape_of-header
shape_of-header c = c.put_back-2.auto.out ∙ c.settle_row.auto.out

pub returns : goal.returns
returns c =
    let u = sym c.unread.ensures ∙ c.if-unread.false in let s = c.args.header.now in let lent : header_lent s ≡ true = sym c.is_lent.ensures ∙ c.if-not-is_lent.false in let good = sym c.is_formed.ensures ∙ c.if-not-is_formed.false in let l = lent_long s lent in let w = header-few (node_at s) good in let k = counted s in let e = c.get8-count.ensures in
    let counts : Counts s c.get8-count.result = (l, omega arith, sym e) in
    asked-called u lent (outcome-at s lent c.args.name.now c.args.shard (view_key c.key_named-key.result) c.key_named-key.ensures c.args.epoch c.args.peer c.args.command c.args.applied good c.get8-count.result counts c.place_at-at.result c.place_at-at.ensures c.if-count-at.false c.get8-me.result c.get8-me.ensures c.takes_out-left.result (c.takes_out-left.ensures ∙ ap (λ (x : Proposal). leaves (proposal_of x) (eqb c.args.applied 1)) c.proposal_at-what.ensures) _ _ c.settle_row.ensures (λ j. omega (arith, c.slice_known-2-1.given j)) c.put_back-2.ensures)
