use native.Mathlib.Omega.{arith}
use mathlib.Core.Path.{◌≡◌, sym, ◌∙◌, ap}
use Prim.Native.Nat.{ℕ, ◌≤◌, ◌<◌}
use lib.ListN.{take}
use mathlib.Core.Bool.{Bool}
use Rattle.spec.specs.Lists.{◌and◌, every, rising}
use Rattle.node_header.specs.View.{used}
use Rattle.node_header.specs.Formed.{held_row_fits, held_row_below, slots_fit}
use Rattle.node_header.proofs.Formed.{header_over, header-rest}
use Rattle.image_header.specs.Image.{node_at}
use Rattle.image_header_check.proofs.Rows.{counted}
use Rattle.image_header_check.proofs.formed.is_formed.Goals as goal

pub returns-then-n-gt8 : goal.returns-then-n-gt8
returns-then-n-gt8 c =
    let s = c.args.s.now in
    let k = counted s in
    let e = c.get8-n.ensures in
    let t = c.if-n-gt8.true in
    let h : 8 < (node_at s).count = omega arith in
    header_over (node_at s) h

pub returns : goal.returns
returns c =
    let s = c.args.s.now in
    let k = counted s in
    let e = c.get8-n.ensures in
    let t = c.if-n-gt8.false in
    let h : (node_at s).count ≤ 8 = omega arith in
    let q : c.get8-n.result ≡ (node_at s).count = e ∙ sym k in
    let r : c.keys_rise-rise.result ≡ rising held_row_below (used (node_at s)) = c.keys_rise-rise.ensures ∙ ap (λ (j : ℕ). rising held_row_below (take j (node_at s).held)) q in
    let f : c.all_fit-fit.result ≡ every held_row_fits (used (node_at s)) = c.all_fit-fit.ensures ∙ ap (λ (j : ℕ). every held_row_fits (take j (node_at s).held)) q in
    let g : c.slots_fit-apart.result ≡ slots_fit (used (node_at s)) = c.slots_fit-apart.ensures ∙ ap (λ (j : ℕ). slots_fit (take j (node_at s).held)) q in
    header-rest (node_at s) h c.both-2.result (c.both-2.ensures ∙ ap (λ (b : Bool). b and c.both.result) r ∙ ap (λ (b : Bool). rising held_row_below (used (node_at s)) and b) (c.both.ensures ∙ ap (λ (b : Bool). b and c.slots_fit-apart.result) f ∙ ap (λ (b : Bool). every held_row_fits (used (node_at s)) and b) g))
