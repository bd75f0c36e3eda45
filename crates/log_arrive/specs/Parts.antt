-- For the contracts here and the crates above: what stands in a message at the places that a decoded message names, crate `log_domain`.
unfoldable pub use Rattle.log_domain.specs.Parts.{bits_in, entries_in, table_in}
pub use Rattle.log_domain.specs.Parts.{op_in, VectorThere, OpThere, EntriesThere}
