use borrow.Author.Rules.{rules}
use native.Mathlib.Omega.{arith}
use mathlib.Core.Path.{◌≡◌, sym, ◌∙◌}
use mathlib.Core.Bool.{true, false}
use Rattle.map_tables.specs.Names.{view_key}
use Rattle.node_header.specs.Formed.{formed_node}
use Rattle.node_header.proofs.Formed.{header-few}
use Rattle.image_header.specs.Image.{header_lent, node_at}
use Rattle.image_header.proofs.Image.{lent_long}
use Rattle.image_header_check.specs.Rows.{Counts}
use Rattle.image_header_check.proofs.Rows.{counted}
use Rattle.image_node_check.proofs.FindLaws.{no_header, no_stores, unformed, not_held_lem, slot-few, no_store, found_here}
use Rattle.image_node_check.proofs.find.Goals as goal

pub returns-then-not-is_lent : goal.returns-then-not-is_lent
returns-then-not-is_lent c =
    no_header c.args.header.now c.args.stores.now (view_key c.args.key) (sym c.is_lent.ensures ∙ c.if-not-is_lent.true)

pub is_formed-requires : goal.is_formed-requires
is_formed-requires c = lent_long c.args.header.now (sym c.is_lent.ensures ∙ c.if-not-is_lent.false)

pub returns-then-not-is_formed : goal.returns-then-not-is_formed
returns-then-not-is_formed c =
    unformed c.args.header.now c.args.stores.now (view_key c.args.key) (sym c.is_formed.ensures ∙ c.if-not-is_formed.true)

pub returns-then-stores-lt-STORES : goal.returns-then-stores-lt-STORES
returns-then-stores-lt-STORES c = no_stores c.args.header.now c.args.stores.now (view_key c.args.key) c.if-stores-lt-STORES.true

pub get8-count-requires : goal.get8-count-requires
get8-count-requires c = let l = lent_long c.args.header.now (sym c.is_lent.ensures ∙ c.if-not-is_lent.false) in omega arith

pub place_at-at-requires : goal.place_at-at-requires
place_at-at-requires c =
    let h = c.args.header.now in
    let l = lent_long h (sym c.is_lent.ensures ∙ c.if-not-is_lent.false) in
    let w = header-few (node_at h) (sym c.is_formed.ensures ∙ c.if-not-is_formed.false) in
    let k = counted h in
    let e = c.get8-count.ensures in (l, omega arith, sym e)

pub returns-then-count-at : goal.returns-then-count-at
returns-then-count-at c =
    let h = c.args.header.now in
    let lent : header_lent h ≡ true = sym c.is_lent.ensures ∙ c.if-not-is_lent.false in
    let good : formed_node (node_at h) ≡ true = sym c.is_formed.ensures ∙ c.if-not-is_formed.false in
    let w = header-few (node_at h) good in
    let k = counted h in
    let e = c.get8-count.ensures in
    let counts : Counts h c.get8-count.result = (lent_long h lent, omega arith, sym e) in
    not_held_lem h c.args.stores.now (view_key c.args.key) lent good c.if-stores-lt-STORES.false c.get8-count.result counts c.place_at-at.result c.place_at-at.ensures c.if-count-at.true

pub overflow_mul-row : goal.overflow_mul-row
overflow_mul-row c =
    let h = c.args.header.now in let w = header-few (node_at h) (sym c.is_formed.ensures ∙ c.if-not-is_formed.false) in let k = counted h in let e = c.get8-count.ensures in let t = c.if-count-at.false in search rules

pub overflow_add-row : goal.overflow_add-row
overflow_add-row c =
    let h = c.args.header.now in let w = header-few (node_at h) (sym c.is_formed.ensures ∙ c.if-not-is_formed.false) in let k = counted h in let e = c.get8-count.ensures in let t = c.if-count-at.false in search rules

pub overflow_add-row-2 : goal.overflow_add-row-2
overflow_add-row-2 c =
    let h = c.args.header.now in let w = header-few (node_at h) (sym c.is_formed.ensures ∙ c.if-not-is_formed.false) in let k = counted h in let e = c.get8-count.ensures in let t = c.if-count-at.false in search rules

pub get8-slot-requires : goal.get8-slot-requires
get8-slot-requires c =
    let h = c.args.header.now in let l = lent_long h (sym c.is_lent.ensures ∙ c.if-not-is_lent.false) in let w = header-few (node_at h) (sym c.is_formed.ensures ∙ c.if-not-is_formed.false) in let k = counted h in let e = c.get8-count.ensures in let t = c.if-count-at.false in omega arith

pub overflow_add-row-3 : goal.overflow_add-row-3
overflow_add-row-3 c =
    let h = c.args.header.now in let w = header-few (node_at h) (sym c.is_formed.ensures ∙ c.if-not-is_formed.false) in let k = counted h in let e = c.get8-count.ensures in let t = c.if-count-at.false in search rules

pub get8-last-requires : goal.get8-last-requires
get8-last-requires c =
    let h = c.args.header.now in let l = lent_long h (sym c.is_lent.ensures ∙ c.if-not-is_lent.false) in let w = header-few (node_at h) (sym c.is_formed.ensures ∙ c.if-not-is_formed.false) in let k = counted h in let e = c.get8-count.ensures in let t = c.if-count-at.false in omega arith

pub overflow_add-row-4 : goal.overflow_add-row-4
overflow_add-row-4 c =
    let h = c.args.header.now in let w = header-few (node_at h) (sym c.is_formed.ensures ∙ c.if-not-is_formed.false) in let k = counted h in let e = c.get8-count.ensures in let t = c.if-count-at.false in search rules

pub get8-stored-requires : goal.get8-stored-requires
get8-stored-requires c =
    let h = c.args.header.now in let l = lent_long h (sym c.is_lent.ensures ∙ c.if-not-is_lent.false) in let w = header-few (node_at h) (sym c.is_formed.ensures ∙ c.if-not-is_formed.false) in let k = counted h in let e = c.get8-count.ensures in let t = c.if-count-at.false in omega arith

pub overflow_mul-slot : goal.overflow_mul-slot
overflow_mul-slot c =
    let h = c.args.header.now in
    let lent : header_lent h ≡ true = sym c.is_lent.ensures ∙ c.if-not-is_lent.false in
    let good : formed_node (node_at h) ≡ true = sym c.is_formed.ensures ∙ c.if-not-is_formed.false in
    let w = header-few (node_at h) good in
    let k = counted h in
    let e = c.get8-count.ensures in
    let counts : Counts h c.get8-count.result = (lent_long h lent, omega arith, sym e) in
    let few = slot-few h c.args.stores.now (view_key c.args.key) lent good c.if-stores-lt-STORES.false c.get8-count.result counts c.place_at-at.result c.place_at-at.ensures c.if-count-at.false in
    let r = c.get8-slot.ensures in search rules

pub is_store-requires : goal.is_store-requires
is_store-requires c =
    let h = c.args.header.now in
    let lent : header_lent h ≡ true = sym c.is_lent.ensures ∙ c.if-not-is_lent.false in
    let good : formed_node (node_at h) ≡ true = sym c.is_formed.ensures ∙ c.if-not-is_formed.false in
    let w = header-few (node_at h) good in
    let k = counted h in
    let e = c.get8-count.ensures in
    let counts : Counts h c.get8-count.result = (lent_long h lent, omega arith, sym e) in
    let few = slot-few h c.args.stores.now (view_key c.args.key) lent good c.if-stores-lt-STORES.false c.get8-count.result counts c.place_at-at.result c.place_at-at.ensures c.if-count-at.false in
    let r = c.get8-slot.ensures in
    let long = c.if-stores-lt-STORES.false in omega arith

pub returns-then-not-is_store : goal.returns-then-not-is_store
returns-then-not-is_store c =
    let h = c.args.header.now in
    let lent : header_lent h ≡ true = sym c.is_lent.ensures ∙ c.if-not-is_lent.false in
    let good : formed_node (node_at h) ≡ true = sym c.is_formed.ensures ∙ c.if-not-is_formed.false in
    let w = header-few (node_at h) good in
    let k = counted h in
    let e = c.get8-count.ensures in
    let counts : Counts h c.get8-count.result = (lent_long h lent, omega arith, sym e) in
    no_store h c.args.stores.now (view_key c.args.key) lent good c.if-stores-lt-STORES.false c.get8-count.result counts c.place_at-at.result c.place_at-at.ensures c.if-count-at.false c.get8-slot.result c.get8-last.result c.get8-stored.result c.get8-slot.ensures c.get8-last.ensures c.get8-stored.ensures c.is_store.result c.is_store.ensures (c.if-not-is_store.true)

pub returns : goal.returns
returns c =
    let h = c.args.header.now in
    let lent : header_lent h ≡ true = sym c.is_lent.ensures ∙ c.if-not-is_lent.false in
    let good : formed_node (node_at h) ≡ true = sym c.is_formed.ensures ∙ c.if-not-is_formed.false in
    let w = header-few (node_at h) good in
    let k = counted h in
    let e = c.get8-count.ensures in
    let counts : Counts h c.get8-count.result = (lent_long h lent, omega arith, sym e) in
    found_here h c.args.stores.now (view_key c.args.key) lent good c.if-stores-lt-STORES.false c.get8-count.result counts c.place_at-at.result c.place_at-at.ensures c.if-count-at.false c.get8-slot.result c.get8-last.result c.get8-stored.result c.get8-slot.ensures c.get8-last.ensures c.get8-stored.ensures c.is_store.result c.is_store.ensures (c.if-not-is_store.false)
