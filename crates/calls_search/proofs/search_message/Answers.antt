use native.Mathlib.Omega.{arith}
use mathlib.Core.Path.{refl, sym, ◌∙◌}
use borrow.Author.Tests.{lt-ltb, le-ltb}
use lib.Seq.{length-take-le}
use Rattle.log_arrive.proofs.Messages.{search_there}
use Rattle.image_header.specs.Image.{node_at}
use Rattle.image_node.specs.Lent.{no_lent_store}
use Rattle.calls_client_out.specs.Found.{fresh_hits}
use Rattle.node_search.proofs.Named.{search_missed, search_key_there}
use Rattle.node_search.proofs.Searches.{message-query}
use Rattle.calls_client.proofs.Searched.{bytes-late, bytes-undecoded, bytes_outside, bytes_uncounted, bytes-named}
use Rattle.calls_search.proofs.Message.{message_served}
use Rattle.calls_search.proofs.search_message.Goals as goal

pub returns-then-clock-gt-LAST_TIME : goal.returns-then-clock-gt-LAST_TIME
returns-then-clock-gt-LAST_TIME c =
    let a = c.args in bytes-late a.header.now a.stores.now a.refused.now a.clock a.message.now a.hits.now a.answer.now (lt-ltb _ _ c.if-clock-gt-LAST_TIME.true)

pub read_query-requires : goal.read_query-requires
read_query-requires c =
    let a = c.args in let i = sym c.decode.ensures ∙ c.in-Search.is in (search_there a.message.now _ i, refl)

pub returns-then-not-read_query : goal.returns-then-not-read_query
returns-then-not-read_query c =
    let a = c.args in let i = sym c.decode.ensures ∙ c.in-Search.is in bytes_outside a.header.now a.stores.now a.refused.now a.clock a.message.now a.hits.now a.answer.now (le-ltb 4611686018427387904 a.clock (omega (arith, c.if-clock-gt-LAST_TIME.false))) _ i c.read_query.result c.read_query.ensures.tested (c.if-not-read_query.true)

pub returns-then-refused-lt-COUNT : goal.returns-then-refused-lt-COUNT
returns-then-refused-lt-COUNT c =
    let a = c.args in let i = sym c.decode.ensures ∙ c.in-Search.is in bytes_uncounted a.header.now a.stores.now a.refused.now a.clock a.message.now a.hits.now a.answer.now (le-ltb 4611686018427387904 a.clock (omega (arith, c.if-clock-gt-LAST_TIME.false))) _ i c.read_query.result c.read_query.ensures.tested (c.if-not-read_query.false) c.if-refused-lt-COUNT.true

pub key_of-key-requires : goal.key_of-key-requires
key_of-key-requires c =
    let a = c.args in let i = sym c.decode.ensures ∙ c.in-Search.is in search_key_there a.message.now _ i

pub slice_bounds-query-end : goal.slice_bounds-query-end
slice_bounds-query-end c =
    let a = c.args in let i = sym c.decode.ensures ∙ c.in-Search.is in omega (arith, (search_there a.message.now _ i).1, c.read_query.ensures.column)

pub slice_bounds-search_named-end : goal.slice_bounds-search_named-end
slice_bounds-search_named-end c =
    let a = c.args in let i = sym c.decode.ensures ∙ c.in-Search.is in sym (length-take-le _ _ (omega (arith, (search_there a.message.now _ i).1, c.read_query.ensures.column)))

pub search_named-requires : goal.search_named-requires
search_named-requires c =
    let a = c.args in let i = sym c.decode.ensures ∙ c.in-Search.is in
    message-query (node_at a.header.now) no_lent_store a.message.now a.clock (fresh_hits 0) c.if-clock-gt-LAST_TIME.false _ i c.read_query.result _ c.read_query.ensures (c.if-not-read_query.false)

pub returns : goal.returns
returns c =
    let a = c.args in let i = sym c.decode.ensures ∙ c.in-Search.is in
    bytes-named a.header.now a.stores.now a.refused.now a.clock a.message.now a.hits.now a.answer.now (le-ltb 4611686018427387904 a.clock (omega (arith, c.if-clock-gt-LAST_TIME.false))) _ i c.read_query.result c.read_query.ensures.tested (c.if-not-read_query.false) c.if-refused-lt-COUNT.false _ c.key_of-key.ensures _
    (message_served a.header.now a.stores.now a.clock a.message.now a.hits.now a.answer.now c.if-clock-gt-LAST_TIME.false _ i c.read_query.result _ c.read_query.ensures (c.if-not-read_query.false) _ c.key_of-key.ensures _ c.search_named.ensures)

pub returns-in_default : goal.returns-in_default
returns-in_default c =
    let a = c.args in
    bytes-undecoded a.header.now a.stores.now a.refused.now a.clock a.message.now a.hits.now a.answer.now
    (le-ltb 4611686018427387904 a.clock (omega (arith, c.if-clock-gt-LAST_TIME.false)))
    (search_missed a.message.now (λ q e. c.in_default.not-Search q (c.decode.ensures ∙ e)))
