use mathlib.Core.Path.{sym, ap, subst}
use Rattle.map_request.specs.Parts.{Held}
use Rattle.map_request.proofs.Loads.{loaded-view}
use Rattle.spec.specs.Layout.Request as request
use Rattle.map_request.proofs.load.load.Goals as goal

pub load_name-name-requires : goal.load_name-name-requires
load_name-name-requires c =
    let o = c.operands_of-o in
    let h : Held c.args.s.now o.result = subst (Held c.args.s.now) (sym o.ensures) c.requires in
    h.name

pub load_address-address-requires : goal.load_address-address-requires
load_address-address-requires c =
    let o = c.operands_of-o in
    let h : Held c.args.s.now o.result = subst (Held c.args.s.now) (sym o.ensures) c.requires in
    h.address

pub load_placement-placement-requires : goal.load_placement-placement-requires
load_placement-placement-requires c =
    let o = c.operands_of-o in
    let h : Held c.args.s.now o.result = subst (Held c.args.s.now) (sym o.ensures) c.requires in
    h.placement

pub returns : goal.returns
returns c =
    let a = c.args in
    let o = c.operands_of-o in
    let n = c.load_name-name in
    let d = c.load_address-address in
    let l = c.load_placement-placement in
    record {
      view =
          ap (λ (k : request.Command). record { index = a.p.index; client = a.p.client; seq = a.p.seq; command = k })
          (loaded-view a.s.now a.p.command o.result o.ensures n.result d.result l.result n.ensures.0 d.ensures.0 l.ensures.0);
      counted = record { name = n.ensures.1; address = d.ensures.1; lists = l.ensures.1; listed = l.ensures.2 };
    }
