-- For the crates above: the epoch table of 21 from two columns.
pub use Rattle.wire_put.specs.Tables.{ends_given, table_bytes, new_epoch_given}
