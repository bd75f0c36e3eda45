use native.Mathlib.Omega.{arith}
use Rattle.log_check.proofs.Walking.{no_hint}
use Rattle.image_store_check.proofs.Table.{ids-same}
use Rattle.image_store_check.proofs.hints.hinted.Goals as goal

pub returns-then-k-i : goal.returns-then-k-i
returns-then-k-i c = no_hint

pub returns-then-count-k : goal.returns-then-count-k
returns-then-count-k c = no_hint

pub get8-requires : goal.get8-requires
get8-requires c = let p = c.requires.1 in let q = c.requires.2 in let t = c.if-count-k.false in omega arith

pub returns-then-get8-id : goal.returns-then-get8-id
returns-then-get8-id c =
    let p = c.requires.0 in let m = c.requires.1 in let g = c.if-count-k.false in λ e. (c.loop.k, c.if-k-i.false, c.if-count-k.false, ids-same c.args.s.now c.args.base c.args.i c.loop.k (omega arith) (omega arith) c.get8-id.result c.get8.result c.get8-id.ensures c.get8.ensures c.if-get8-id.true)

pub returns : goal.returns
returns c = no_hint
