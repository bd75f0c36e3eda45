-- For the crates above: counts, and items of one size. The laws of the shape tests are crate `wire_shape`'s.
pub use Rattle.wire_shape.proofs.Skips.{count_byte, fixed_fits, fixed_next}
