use borrow.Author.Rules.{rules}
use Prim.Native.Nat.{◌+◌, ◌-◌, ◌*◌}
use mathlib.Core.Bool.{true, false}
use Rattle.std.proofs.Common.{inl, inr}
use Rattle.std.proofs.lemmas.Bool.{cases_Bool}
use Rattle.map_check.specs.Rows.{follows, session_under, session_ok}
use native.Mathlib.Omega.{arith}
use mathlib.Core.Path.{◌≡◌, ◌∙◌}
use Rattle.spec.specs.Layout.Format.{number_at}
use Rattle.spec.specs.Map.Apply.{session_below}
use Rattle.spec.specs.Map.WellFormed.{session_fits}
use Rattle.map_tables.specs.View.{view_session}
use Rattle.image_map_row.specs.Rows.{session_at}
use Rattle.map_check.specs.Rows.{session_counted}
use Rattle.image_map.specs.Image.{no_session}
use Rattle.image_map_check.proofs.RowLaws.{pass_over, pass_all, pass_some}
use Rattle.image_map_check.proofs.formed.sessions_fit.Goals as goal

pub returns-then-n-gt64 : goal.returns-then-n-gt64
returns-then-n-gt64 c =
    let e = c.get8-n.ensures in let t = c.if-n-gt64.true in pass_over 64 80 21416 (session_at c.args.s.now) no_session (number_at 8 c.args.s.now 32) view_session session_below session_counted session_fits (omega arith)

pub returns : goal.returns
returns c =
    let e = c.get8-n.ensures in let few = c.if-n-gt64.false in
    elim (cases_Bool c.each_follows.result) [
      | inl y ↦ y ∙ pass_all 64 80 21416 (session_at c.args.s.now) no_session (number_at 8 c.args.s.now 32) view_session session_below session_counted session_fits (omega arith) (λ i lt. let b = c.each_follows.ensures.all y i (omega arith) in let z : follows session_under session_ok i (session_at c.args.s.now (21416 + 80 * (i - 1))) (session_at c.args.s.now (21416 + 80 * i)) ≡ true = search rules in z)
      | inr off ↦
          let f = c.each_follows.ensures.some off in
          off ∙ pass_some 64 80 21416 (session_at c.args.s.now) no_session (number_at 8 c.args.s.now 32) view_session session_below session_counted session_fits (omega arith) f.0 (let lt = f.1 in omega arith) (λ k lt. let b = f.2 k lt in let z : follows session_under session_ok k (session_at c.args.s.now (21416 + 80 * (k - 1))) (session_at c.args.s.now (21416 + 80 * k)) ≡ true = search rules in z) (let b = f.3 in let z : follows session_under session_ok f.0 (session_at c.args.s.now (21416 + 80 * (f.0 - 1))) (session_at c.args.s.now (21416 + 80 * f.0)) ≡ false = search rules in z)
    ]
