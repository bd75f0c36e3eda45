-- For the crates above: the bytes that entries take.
pub use Rattle.wire_put.specs.Rows.{rows_size}
