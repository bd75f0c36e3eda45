use native.Mathlib.Omega.{arith}
use mathlib.Core.Path.{◌≡◌, refl, ◌∙◌, ap}
use Prim.Native.Nat.{ℕ}
use mathlib.Core.List.{map}
use lib.Seq.{sets}
use Rattle.log_select.specs.Written.{id_of, distance_of}
use Rattle.calls_client_out.specs.Hits.{hits_bytes}
use Rattle.calls_client_out.proofs.HitLaws.{hits-none}
use Rattle.calls_search.proofs.HitLaws.{one_more}
use Rattle.calls_search.proofs.hits.put_hits.Goals as goal

pub loop-i-init : goal.loop-i-init
loop-i-init c = (refl, hits-none _ _ _)

pub loop-i-preserved : goal.loop-i-preserved
loop-i-preserved c =
    let a = c.args in let l = c.loop-i in
    (c.put4.auto.out ∙ c.put8.auto.out ∙ l.invariant.0, one_more a.h.items a.hits.now l.hits _ _ l.i _ refl l.invariant.1 c.bits_of.result c.bits_of.ensures c.put8.ensures c.put4.ensures)

pub shape_of-hits : goal.shape_of-hits
shape_of-hits c = c.loop-i.invariant.0

pub returns : goal.returns
returns c =
    let l = c.loop-i in let a = c.args in let t = c.loop-i-test.false in let b = l.auto.i-end in let e : l.i ≡ a.h.count = omega arith in
    l.invariant.1 ∙ ap (λ (i : ℕ). sets a.hits.now 0 (hits_bytes (map id_of a.h.items) (map distance_of a.h.items) i)) e
