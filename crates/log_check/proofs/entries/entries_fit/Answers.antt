use native.Mathlib.Omega.{arith}
use mathlib.Core.Path.{sym, ◌∙◌}
use Prim.Native.Nat.{◌-◌, ◌*◌}
use Rattle.log_store.specs.View.{columns}
use Rattle.log_check.proofs.Fitting.{not_numbered, by_shapes}
use Rattle.log_check.proofs.entries.entries_fit.Goals as goal

pub returns-then-not-numbered : goal.returns-then-not-numbered
returns-then-not-numbered c =
    let a = c.args in
    λ es is. not_numbered (columns es a.offsets.now is a.codes.now a.lengths.now a.floats.now) a.count c.numbered.result c.numbered.ensures (c.if-not-numbered.true)

pub returns : goal.returns
returns c =
    let a = c.args in
    let p = c.requires in
    λ es is.
    by_shapes (columns es a.offsets.now is a.codes.now a.lengths.now a.floats.now) a.count p.0 p.4 (a.count * 32 - 0) (omega arith)
    (sym c.all_in_domain.ensures ∙ c.if-not-all_in_domain.false)
    (sym c.numbered.ensures ∙ c.if-not-numbered.false)
    c.listed.result c.listed.ensures
