use native.Mathlib.Omega.{arith}
use mathlib.Core.Path.{sym, ◌∙◌}
use borrow.Author.Tests.{lt-ltb, le-ltb}
use Rattle.log_arrive.proofs.Messages.{write-there}
use Rattle.node_write.proofs.Named.{write_missed, write_key_there}
use Rattle.calls_client.proofs.Written.{bytes-late, bytes-undecoded, bytes_outside, bytes_uncounted, bytes-named}
use Rattle.calls_write.proofs.message.write_message.Goals as goal

pub returns-then-clock-gt-LAST_TIME : goal.returns-then-clock-gt-LAST_TIME
returns-then-clock-gt-LAST_TIME c =
    let a = c.args in bytes-late a.header.now a.stores.now a.answer.now a.refused.now a.clock a.least a.message.now (lt-ltb _ _ c.if-clock-gt-LAST_TIME.true)

pub returns-in_default : goal.returns-in_default
returns-in_default c =
    let a = c.args in
    bytes-undecoded a.header.now a.stores.now a.answer.now a.refused.now a.clock a.least a.message.now (le-ltb 4611686018427387904 a.clock (omega (arith, c.if-clock-gt-LAST_TIME.false)))
    (write_missed a.message.now (λ q e. c.in_default.not-Write _ (c.decode.ensures ∙ e)))

pub op_in_domain-requires : goal.op_in_domain-requires
op_in_domain-requires c = write-there c.args.message.now _ (sym c.decode.ensures ∙ c.in-Write.is)

pub returns-then-not-op_in_domain : goal.returns-then-not-op_in_domain
returns-then-not-op_in_domain c =
    let a = c.args in let i = sym c.decode.ensures ∙ c.in-Write.is in
    bytes_outside a.header.now a.stores.now a.answer.now a.refused.now a.clock a.least a.message.now (le-ltb 4611686018427387904 a.clock (omega (arith, c.if-clock-gt-LAST_TIME.false))) _ i c.op_in_domain.result c.op_in_domain.ensures (c.if-not-op_in_domain.true)

pub returns-then-refused-lt4 : goal.returns-then-refused-lt4
returns-then-refused-lt4 c =
    let a = c.args in let i = sym c.decode.ensures ∙ c.in-Write.is in
    bytes_uncounted a.header.now a.stores.now a.answer.now a.refused.now a.clock a.least a.message.now (le-ltb 4611686018427387904 a.clock (omega (arith, c.if-clock-gt-LAST_TIME.false))) _ i c.op_in_domain.result c.op_in_domain.ensures (c.if-not-op_in_domain.false) c.if-refused-lt4.true

pub key_of-key-requires : goal.key_of-key-requires
key_of-key-requires c = write_key_there c.args.message.now _ (sym c.decode.ensures ∙ c.in-Write.is)

pub write_at-requires : goal.write_at-requires
write_at-requires c =
    record {
      early = le-ltb 4611686018427387904 c.args.clock (omega (arith, c.if-clock-gt-LAST_TIME.false));
      read = sym c.decode.ensures ∙ c.in-Write.is;
      inside = sym c.op_in_domain.ensures ∙ c.if-not-op_in_domain.false;
      named = c.key_of-key.ensures;
    }

pub returns : goal.returns
returns c =
    let a = c.args in let i = sym c.decode.ensures ∙ c.in-Write.is in
    bytes-named a.header.now a.stores.now a.answer.now a.refused.now a.clock a.least a.message.now (le-ltb 4611686018427387904 a.clock (omega (arith, c.if-clock-gt-LAST_TIME.false))) _ i c.op_in_domain.result c.op_in_domain.ensures (c.if-not-op_in_domain.false) (omega (arith, c.if-refused-lt4.false)) _ c.key_of-key.ensures _ c.write_at.ensures
