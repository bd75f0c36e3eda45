-- For the crates above: the size of entries, one more.
pub use Rattle.wire_put.proofs.Rows.{size_step}
