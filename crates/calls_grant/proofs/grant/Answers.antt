use native.Mathlib.Omega.{arith}
use mathlib.Core.Path.{◌≡◌, refl, sym, ◌∙◌}
use mathlib.Core.Bool.{true}
use borrow.Author.Tests.{ltb-false}
use Rattle.spec.specs.Limits.{max_time}
use Rattle.spec.specs.Layout.Format.{number_at}
use Rattle.node_header.proofs.Formed.{header-few}
use Rattle.image_header_row.specs.Rows.{expiry_of}
use Rattle.image_header.specs.Image.{header_lent, node_at}
use Rattle.image_header.proofs.Image.{lent_long}
use Rattle.calls_header.proofs.Asked.{asked-unread, asked_malformed, asked-called, first_fails, second_fails}
use Rattle.image_header_check.proofs.Rows.{counted}
use Rattle.calls_grant.proofs.GrantLaws.{end_of, granted_not, granted_so}
use Rattle.spec.specs.Node.Calls as calls
use Rattle.calls_grant.proofs.grant.Goals as goal

pub returns-then-late : goal.returns-then-late
returns-then-late c = asked-unread (sym c.late.ensures ∙ c.if-late.true) refl refl

pub returns-then-not-is_lent : goal.returns-then-not-is_lent
returns-then-not-is_lent c =
    asked_malformed (sym c.late.ensures ∙ c.if-late.false) (sym c.is_lent.ensures ∙ c.if-not-is_lent.true) refl refl

pub is_formed-requires : goal.is_formed-requires
is_formed-requires c = lent_long c.args.header.now (sym c.is_lent.ensures ∙ c.if-not-is_lent.false)

pub returns-then-not-is_formed : goal.returns-then-not-is_formed
returns-then-not-is_formed c =
    let a = c.args in
    let s = a.header.now in
    let u = sym c.late.ensures ∙ c.if-late.false in
    let lent : header_lent s ≡ true = sym c.is_lent.ensures ∙ c.if-not-is_lent.false in
    asked-called u lent (granted_not s lent a.incarnation a.sent a.lease (first_fails (calls.late_time a.sent) (calls.late_time a.lease) u) (second_fails (calls.late_time a.sent) (calls.late_time a.lease) u) (sym c.is_formed.ensures ∙ c.if-not-is_formed.true))

pub get8-count-requires : goal.get8-count-requires
get8-count-requires c = let l = lent_long c.args.header.now (sym c.is_lent.ensures ∙ c.if-not-is_lent.false) in omega arith

pub get8-own-requires : goal.get8-own-requires
get8-own-requires c = let l = lent_long c.args.header.now (sym c.is_lent.ensures ∙ c.if-not-is_lent.false) in omega arith

pub get4-requires : goal.get4-requires
get4-requires c = let l = lent_long c.args.header.now (sym c.is_lent.ensures ∙ c.if-not-is_lent.false) in omega arith

pub get8-requires : goal.get8-requires
get8-requires c =
    let l = lent_long c.args.header.now (sym c.is_lent.ensures ∙ c.if-not-is_lent.false) in omega arith

pub grant-e-requires : goal.grant-e-requires
grant-e-requires c =
    let the-args = c.args in
    let u = sym c.late.ensures ∙ c.if-late.false in
    let a = ltb-false max_time the-args.sent (first_fails (calls.late_time the-args.sent) (calls.late_time the-args.lease) u) in
    let b = ltb-false max_time the-args.lease (second_fails (calls.late_time the-args.sent) (calls.late_time the-args.lease) u) in (a, b)

pub put_end-requires : goal.put_end-requires
put_end-requires c =
    let the-expiry-code = c.expiry_code-code in
    let s = c.args.header.now in
    let l = lent_long s (sym c.is_lent.ensures ∙ c.if-not-is_lent.false) in
    let few = header-few (node_at s) (sym c.is_formed.ensures ∙ c.if-not-is_formed.false) in
    let k = counted s in
    let e = c.get8-count.ensures in
    ((l, omega arith, sym e), end_of c.grant-e.result the-expiry-code.result c.expiry_time-end.result the-expiry-code.ensures c.expiry_time-end.ensures)

pub returns : goal.returns
returns c =
    let a = c.args in
    let the-get82 = c.get8-own in
    let the-expiry-of = c.expiry_of-old in
    let the-grant = c.grant-e in
    let the-expiry-code = c.expiry_code-code in
    let the-expiry-time = c.expiry_time-end in
    let s = a.header.now in
    let u = sym c.late.ensures ∙ c.if-late.false in
    let lent : header_lent s ≡ true = sym c.is_lent.ensures ∙ c.if-not-is_lent.false in
    let last : the-expiry-of.result ≡ expiry_of (number_at 4 s 36) (number_at 8 s 40) = the-expiry-of.ensures ∙ (rw (c.get4.ensures, c.get8.ensures)) in
    asked-called u lent (granted_so s lent a.incarnation a.sent a.lease (first_fails (calls.late_time a.sent) (calls.late_time a.lease) u) (second_fails (calls.late_time a.sent) (calls.late_time a.lease) u) (sym c.is_formed.ensures ∙ c.if-not-is_formed.false) the-get82.result the-expiry-of.result the-grant.result the-get82.ensures last the-grant.ensures the-expiry-code.result the-expiry-time.result the-expiry-code.ensures the-expiry-time.ensures _ c.put_end.ensures)
