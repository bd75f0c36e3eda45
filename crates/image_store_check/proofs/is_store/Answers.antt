use Rattle.image_store_check.proofs.Store.{store_many, store-wide, store-refused, store-offsets, store-table}
use Rattle.image_store_check.proofs.is_store.Goals as goal

pub returns-then-count-gt-ENTRIES : goal.returns-then-count-gt-ENTRIES
returns-then-count-gt-ENTRIES c = store_many c.args.s.now c.args.base c.args.count c.args.stored c.if-count-gt-ENTRIES.true

pub returns-then-stored-gt-ENTRIES : goal.returns-then-stored-gt-ENTRIES
returns-then-stored-gt-ENTRIES c = store-wide c.args.s.now c.args.base c.args.count c.args.stored c.if-stored-gt-ENTRIES.true

pub returns-then-not-entries_fit : goal.returns-then-not-entries_fit
returns-then-not-entries_fit c =
    store-refused c.args.s.now c.args.base c.args.count c.args.stored c.entries_fit.result c.entries_fit.ensures (c.if-not-entries_fit.true)

pub table_played-requires : goal.table_played-requires
table_played-requires c =
    (c.if-count-gt-ENTRIES.false, c.if-stored-gt-ENTRIES.false, c.requires, store-offsets c.args.s.now c.args.base c.args.count c.args.stored c.entries_fit.result c.entries_fit.ensures (c.if-not-entries_fit.false))

pub returns : goal.returns
returns c =
    store-table c.args.s.now c.args.base c.args.count c.args.stored c.entries_fit.result c.entries_fit.ensures (c.if-not-entries_fit.false) c.if-count-gt-ENTRIES.false c.if-stored-gt-ENTRIES.false c.table_played.result c.table_played.ensures
