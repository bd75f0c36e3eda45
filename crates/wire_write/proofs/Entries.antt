-- For the crates above: one entry stored, and its size.
pub use Rattle.wire_put.proofs.Entries.{entry-put, entry-size}
