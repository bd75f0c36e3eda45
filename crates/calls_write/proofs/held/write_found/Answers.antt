use borrow.Author.Rules.{rules}
use native.Mathlib.Omega.{arith}
use mathlib.Core.Path.{sym, ◌∙◌, ap}
use Prim.Native.Nat.{ℕ, ◌+◌}
use Rattle.map_tables.specs.Names.{view_key}
use Rattle.log_arrive.proofs.Messages.{write-there}
use Rattle.image_node_grow.proofs.GrowLaws.{row_last, row-few}
use Rattle.calls_write.proofs.Ways.{admits_so, not_primary_lem, no_lease_lem, too_few, no_room_lem, free, no_answer, grown_so}
use Rattle.calls_write.proofs.held.write_found.Goals as goal

pub overflow_mul-row : goal.overflow_mul-row
overflow_mul-row c = let c₀ = c.requires.1.counts.1 in let u = c.requires.1.found.under in search rules

pub overflow_add-row : goal.overflow_add-row
overflow_add-row c = let c₀ = c.requires.1.counts.1 in let u = c.requires.1.found.under in search rules

pub admit_write-admit-requires : goal.admit_write-admit-requires
admit_write-admit-requires c =
    let f = c.requires.1 in let c₀ = f.counts.1 in let u = f.found.under in let l = f.counts.0 in
    (l, omega arith, row-few c.args.header.now c.args.at f.counts u f.found.formed f.found.inside)

pub returns-in-NotPrimary : goal.returns-in-NotPrimary
returns-in-NotPrimary c =
    let a = c.args in let f = c.requires.1 in
    not_primary_lem a.header.now a.stores.now a.answer.now (view_key a.key) a.clock a.least a.message.now (λ i. omega (arith, c.type_inv.stores i)) a.p c.requires.0 a.at f _
    (admits_so a.header.now a.stores.now a.answer.now (view_key a.key) a.clock a.least a.message.now (λ i. omega (arith, c.type_inv.stores i)) a.p c.requires.0 a.at f c.admit_write-admit.result _ c.admit_write-admit.ensures c.in-NotPrimary.is) _ c.put_number.ensures.1

pub returns-in-NoLease : goal.returns-in-NoLease
returns-in-NoLease c =
    let a = c.args in let f = c.requires.1 in
    no_lease_lem a.header.now a.stores.now a.answer.now (view_key a.key) a.clock a.least a.message.now (λ i. omega (arith, c.type_inv.stores i)) a.p c.requires.0 a.at f
    (admits_so a.header.now a.stores.now a.answer.now (view_key a.key) a.clock a.least a.message.now (λ i. omega (arith, c.type_inv.stores i)) a.p c.requires.0 a.at f c.admit_write-admit.result _ c.admit_write-admit.ensures c.in-NoLease.is)

pub returns-in-TooFew : goal.returns-in-TooFew
returns-in-TooFew c =
    let a = c.args in let f = c.requires.1 in
    too_few a.header.now a.stores.now a.answer.now (view_key a.key) a.clock a.least a.message.now (λ i. omega (arith, c.type_inv.stores i)) a.p c.requires.0 a.at f
    (admits_so a.header.now a.stores.now a.answer.now (view_key a.key) a.clock a.least a.message.now (λ i. omega (arith, c.type_inv.stores i)) a.p c.requires.0 a.at f c.admit_write-admit.result _ c.admit_write-admit.ensures c.in-TooFew.is)

pub returns-in-NoRoom : goal.returns-in-NoRoom
returns-in-NoRoom c =
    let a = c.args in let f = c.requires.1 in
    no_room_lem a.header.now a.stores.now a.answer.now (view_key a.key) a.clock a.least a.message.now (λ i. omega (arith, c.type_inv.stores i)) a.p c.requires.0 a.at f
    (admits_so a.header.now a.stores.now a.answer.now (view_key a.key) a.clock a.least a.message.now (λ i. omega (arith, c.type_inv.stores i)) a.p c.requires.0 a.at f c.admit_write-admit.result _ c.admit_write-admit.ensures c.in-NoRoom.is)

pub overflow_add-row-in-Yes : goal.overflow_add-row-in-Yes
overflow_add-row-in-Yes c = let c₀ = c.requires.1.counts.1 in let u = c.requires.1.found.under in search rules

pub get8-last-requires : goal.get8-last-requires
get8-last-requires c =
    let f = c.requires.1 in let c₀ = f.counts.1 in let u = f.found.under in let l = f.counts.0 in omega arith

pub overflow_add-last : goal.overflow_add-last
overflow_add-last c =
    let a = c.args in let f = c.requires.1 in
    let y = free a.header.now a.stores.now a.answer.now (view_key a.key) a.clock a.least a.message.now (λ i. omega (arith, c.type_inv.stores i)) a.p c.requires.0 a.at f
    (admits_so a.header.now a.stores.now a.answer.now (view_key a.key) a.clock a.least a.message.now (λ i. omega (arith, c.type_inv.stores i)) a.p c.requires.0 a.at f c.admit_write-admit.result _ c.admit_write-admit.ensures c.in-Yes.is) in
    let e = row_last a.header.now a.at f.counts f.found.under in
    let r = c.get8-last.ensures in search rules

pub returns-then-not-put_number : goal.returns-then-not-put_number
returns-then-not-put_number c =
    let a = c.args in let f = c.requires.1 in
    let e = row_last a.header.now a.at f.counts f.found.under in
    no_answer a.header.now a.stores.now a.answer.now (view_key a.key) a.clock a.least a.message.now (λ i. omega (arith, c.type_inv.stores i)) a.p c.requires.0 a.at f
    (admits_so a.header.now a.stores.now a.answer.now (view_key a.key) a.clock a.least a.message.now (λ i. omega (arith, c.type_inv.stores i)) a.p c.requires.0 a.at f c.admit_write-admit.result _ c.admit_write-admit.ensures c.in-Yes.is)
    (sym c.put_number-in-Yes.ensures.0 ∙ c.if-not-put_number.true) (c.get8-last.result + 1) (ap (λ (x : ℕ). x + 1) (c.get8-last.ensures ∙ sym e)) _ c.put_number-in-Yes.ensures.1

pub grow-requires : goal.grow-requires
grow-requires c =
    let a = c.args in let f = c.requires.1 in (
      f.counts,
      f.found.under,
      f.slot,
      free a.header.now a.stores.now a.answer.now (view_key a.key) a.clock a.least a.message.now (λ i. omega (arith, c.slice_known-2-1.given i)) a.p c.requires.0 a.at f
          (admits_so a.header.now a.stores.now a.answer.now (view_key a.key) a.clock a.least a.message.now (λ i. omega (arith, c.slice_known-2-1.given i)) a.p c.requires.0 a.at f c.admit_write-admit.result _ c.admit_write-admit.ensures c.in-Yes.is),
      f.room,
      f.well,
      write-there a.message.now a.p c.requires.0.read,
      c.requires.0.inside,
    )

pub returns-in-Yes : goal.returns-in-Yes
returns-in-Yes c =
    let a = c.args in let f = c.requires.1 in
    let e = row_last a.header.now a.at f.counts f.found.under in
    grown_so a.header.now a.stores.now a.answer.now (view_key a.key) a.clock a.least a.message.now (λ i. omega (arith, c.slice_known-2-1.given i)) a.p c.requires.0 a.at f
    (admits_so a.header.now a.stores.now a.answer.now (view_key a.key) a.clock a.least a.message.now (λ i. omega (arith, c.slice_known-2-1.given i)) a.p c.requires.0 a.at f c.admit_write-admit.result _ c.admit_write-admit.ensures c.in-Yes.is)
    (sym c.put_number-in-Yes.ensures.0 ∙ c.if-not-put_number.false) (c.get8-last.result + 1) (ap (λ (x : ℕ). x + 1) (c.get8-last.ensures ∙ sym e)) _ c.put_number-in-Yes.ensures.1 _ _ c.grow.ensures
