use borrow.Author.Rules.{rules}
use native.Mathlib.Omega.{arith}
use mathlib.Core.Path.{◌≡◌, sym, ◌∙◌}
use Prim.Native.Nat.{◌*◌, ◌≤◌, ◌<◌}
use lib.ListN.{length, take}
use Rattle.map_tables.proofs.Tables.{of_field}
use Rattle.image_parts.proofs.Images.{length-used}
use Rattle.image_header.specs.Image.{node_at}
use Rattle.calls_header.specs.Waits.{id_bytes}
use Rattle.calls_header.proofs.Waits.{no_answer, no_peers, all-put}
use Rattle.calls_wait.specs.Waited.{waited_node}
use Rattle.calls_wait.proofs.ends.put_shrink.Goals as goal

pub returns-then-peers-n : goal.returns-then-peers-n
returns-then-peers-n g c number =
    let a = c.args in
    let k : length a.shrink.items ≡ 32 = search (rules, of_field) in
    let n = waited_node (node_at a.header.now) a.at a.clock a.timeout in
    let m = length-used 32 a.shrink.count a.shrink.items (k) in
    let u = c.in_use-n.ensures in
    let f = c.if-peers-n.true in
    let w = u.0 in
    let g : length a.peers.now < 8 * length (take a.shrink.count a.shrink.items) = omega arith in
    no_peers id_bytes 8 (number a.said) a.header.now a.peers.now a.answer.now (take a.shrink.count a.shrink.items) n g

pub returns-then-not-put_number : goal.returns-then-not-put_number
returns-then-not-put_number g c number =
    let a = c.args in
    let k : length a.shrink.items ≡ 32 = search (rules, of_field) in
    let n = waited_node (node_at a.header.now) a.at a.clock a.timeout in
    let m = length-used 32 a.shrink.count a.shrink.items (k) in
    let u = c.in_use-n.ensures.0 in
    let f = c.if-peers-n.false in
    let p = c.put_number in
    let g : 8 * length (take a.shrink.count a.shrink.items) ≤ length a.peers.now = omega arith in
    no_answer id_bytes 8 (number a.said) a.header.now a.peers.now a.answer.now (take a.shrink.count a.shrink.items) n g _ _ p.ensures.1 (sym p.ensures.0 ∙ c.if-not-put_number.true)

pub returns : goal.returns
returns g c number =
    let a = c.args in
    let k : length a.shrink.items ≡ 32 = search (rules, of_field) in
    let n = waited_node (node_at a.header.now) a.at a.clock a.timeout in
    let m = length-used 32 a.shrink.count a.shrink.items (k) in
    let u = c.in_use-n.ensures.0 in
    let f = c.if-peers-n.false in
    let p = c.put_number in
    let w = c.put_waited.ensures in
    let g : 8 * length (take a.shrink.count a.shrink.items) ≤ length a.peers.now = omega arith in
    all-put id_bytes 8 (number a.said) a.header.now a.peers.now a.answer.now (take a.shrink.count a.shrink.items) n g _ _ p.ensures.1 (sym p.ensures.0 ∙ c.if-not-put_number.false) w.image w.becomes c.put_ids.ensures (u ∙ sym m)
