use native.Mathlib.Omega.{arith}
use mathlib.Core.Path.{◌∙◌}
use Rattle.spec.specs.Node.Worker.{new_epoch_message}
use Rattle.spec.specs.Log.{epoch_ends}
use Rattle.image_store.specs.Image.{log_at}
use Rattle.node_send.proofs.Answer.{short, wrote}
use Rattle.image_send.proofs.Requests.{aligning, align_put, align_length_lem}
use Rattle.image_send.proofs.write_align.Goals as goal

pub pairs_of-pairs-requires : goal.pairs_of-pairs-requires
pairs_of-pairs-requires c = (c.requires.1, c.requires.2)

pub overflow_mul-size : goal.overflow_mul-size
overflow_mul-size c = let p = c.requires.1 in let q = c.pairs_of-pairs.ensures.1 in omega arith

pub overflow_add-size : goal.overflow_add-size
overflow_add-size c = let p = c.requires.1 in let q = c.pairs_of-pairs.ensures.1 in omega arith

pub returns-then-out-size : goal.returns-then-out-size
returns-then-out-size c =
    let a = c.args in let t = epoch_ends (log_at a.s.now a.base a.n) in
    let w = align_length_lem a.name.now a.shard a.epoch a.end a.metric t c.requires.0 in
    let z = c.pairs_of-pairs.ensures.0 in let h = c.if-out-size.true in
    short (new_epoch_message (aligning a.name.now a.shard a.epoch a.end a.metric t c.requires.0)) a.out.now (omega arith)

pub put_head-requires : goal.put_head-requires
put_head-requires c = let h = c.if-out-size.false in (omega arith, c.requires.0)

pub put8-requires : goal.put8-requires
put8-requires c = let h = c.if-out-size.false in let l = c.put_head.auto.out in omega arith

pub overflow_cast-pairs : goal.overflow_cast-pairs
overflow_cast-pairs c = let p = c.requires.1 in let q = c.pairs_of-pairs.ensures.1 in omega arith

pub put2-requires : goal.put2-requires
put2-requires c = let h = c.if-out-size.false in let l = c.put_head.auto.out in let m = c.put8.auto.out in omega arith

pub put_pairs-requires : goal.put_pairs-requires
put_pairs-requires c =
    let h = c.if-out-size.false in let l = c.put_head.auto.out in let m = c.put8.auto.out in let k = c.put2.auto.out in let z = c.pairs_of-pairs.ensures.0 in (c.requires.1, c.requires.2, omega arith)

pub overflow_mul-pairs : goal.overflow_mul-pairs
overflow_mul-pairs c = let p = c.requires.1 in let q = c.pairs_of-pairs.ensures.1 in omega arith

pub overflow_add-pairs : goal.overflow_add-pairs
overflow_add-pairs c = let p = c.requires.1 in let q = c.pairs_of-pairs.ensures.1 in omega arith

pub put_byte-requires : goal.put_byte-requires
put_byte-requires c =
    let h = c.if-out-size.false in let l = c.put_head.auto.out in let m = c.put8.auto.out in let k = c.put2.auto.out in let j = c.put_pairs.auto.out in omega arith

pub shape_of-out : goal.shape_of-out
shape_of-out c = c.put_byte.auto.out ∙ c.put_pairs.auto.out ∙ c.put2.auto.out ∙ c.put8.auto.out ∙ c.put_head.auto.out

pub returns : goal.returns
returns c =
    let a = c.args in let t = epoch_ends (log_at a.s.now a.base a.n) in
    let w = align_length_lem a.name.now a.shard a.epoch a.end a.metric t c.requires.0 in
    let z = c.pairs_of-pairs.ensures.0 in let h = c.if-out-size.false in
    wrote (new_epoch_message (aligning a.name.now a.shard a.epoch a.end a.metric t c.requires.0)) a.out.now _ _ (omega arith) (omega arith)
    (c.put_byte.ensures ∙ (rw (c.metric_code.ensures, c.put_pairs.ensures, c.put2.ensures, c.put8.ensures, c.put_head.ensures, z) (align_put a.name.now a.shard a.epoch a.end a.metric t c.requires.0 a.out.now)))
