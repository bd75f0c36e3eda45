use native.Mathlib.Omega.{arith}
use mathlib.Core.Path.{sym, ◌∙◌}
use Prim.Native.Nat.{◌≤◌}
use Rattle.image_map_row.specs.Rows.{shard_at}
use Rattle.map_check.proofs.Rows.{long_name, many-holders, many_synced, within-counts}
use Rattle.image_map_check.proofs.RowLaws.{name-is, held-is, synced_is}
use Rattle.image_map_check.proofs.rows.shard_fits.Goals as goal

pub returns-then-get8-gt32 : goal.returns-then-get8-gt32
returns-then-get8-gt32 c =
    let s = c.args.s.now in let at = c.args.at in let a = name-is s at in let b = held-is s at in let d = synced_is s at in let e = c.get8.ensures in let t = c.if-get8-gt32.true in sym (long_name (shard_at s at) (omega arith))

pub returns-then-held-gt8 : goal.returns-then-held-gt8
returns-then-held-gt8 c =
    let s = c.args.s.now in let at = c.args.at in let a = name-is s at in let b = held-is s at in let d = synced_is s at in let e = c.get8.ensures in let p : (shard_at s at).key.collection.len ≤ 32 = (let t = c.if-get8-gt32.false in omega arith) in let f = c.get8-held.ensures in let t = c.if-held-gt8.true in sym (many-holders (shard_at s at) p (omega arith))

pub returns-then-synced-gt8 : goal.returns-then-synced-gt8
returns-then-synced-gt8 c =
    let s = c.args.s.now in let at = c.args.at in let a = name-is s at in let b = held-is s at in let d = synced_is s at in let e = c.get8.ensures in let p : (shard_at s at).key.collection.len ≤ 32 = (let t = c.if-get8-gt32.false in omega arith) in let f = c.get8-held.ensures in let q : (shard_at s at).replicas.count ≤ 8 = (let t = c.if-held-gt8.false in omega arith) in let g = c.get8-synced.ensures in let t = c.if-synced-gt8.true in sym (many_synced (shard_at s at) p q (omega arith))

pub in_sync_fits-requires : goal.in_sync_fits-requires
in_sync_fits-requires c =
    let s = c.args.s.now in let at = c.args.at in let a = name-is s at in let b = held-is s at in let d = synced_is s at in let e = c.get8.ensures in let f = c.get8-held.ensures in let g = c.get8-synced.ensures in let t = c.if-held-gt8.false in let u = c.if-synced-gt8.false in (c.requires, omega arith, omega arith, f ∙ sym b, g ∙ sym d)

pub returns : goal.returns
returns c =
    let s = c.args.s.now in let at = c.args.at in let a = name-is s at in let b = held-is s at in let d = synced_is s at in let e = c.get8.ensures in let p : (shard_at s at).key.collection.len ≤ 32 = (let t = c.if-get8-gt32.false in omega arith) in let f = c.get8-held.ensures in let q : (shard_at s at).replicas.count ≤ 8 = (let t = c.if-held-gt8.false in omega arith) in let g = c.get8-synced.ensures in let r : (shard_at s at).insync.count ≤ 8 = (let t = c.if-synced-gt8.false in omega arith) in c.in_sync_fits.ensures ∙ sym (within-counts (shard_at s at) p q r)
