use borrow.Author.Rules.{rules}
use native.Mathlib.Omega.{arith}
use mathlib.Core.Path.{◌≡◌}
use Prim.Native.Nat.{◌≤◌}
use lib.ListN.{length}
use Rattle.map_tables.proofs.Tables.{of_field}
use Rattle.calls_header.proofs.Starts.{key-stored}
use Rattle.calls_show_row.proofs.starts.put_named.Goals as goal

pub slice_bounds-put_key-end : goal.slice_bounds-put_key-end
slice_bounds-put_key-end c =
    let size : length c.args.k.collection.bytes ≡ 32 = search (rules, of_field) in let u = c.in_use-len.ensures in let inside : c.in_use-len.result ≤ length c.args.k.collection.bytes = omega arith in inside

pub returns : goal.returns
returns c =
    let a = c.args in let u = c.in_use-len in let size : length a.k.collection.bytes ≡ 32 = search (rules, of_field) in key-stored a.k u.result size u.ensures.0 u.ensures.1 a.out.now _ a.at c.put_key.ensures
