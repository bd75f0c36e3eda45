-- For the crates above: the fields of a NewEpoch after its epoch.
pub use Rattle.wire_put.proofs.Pairs.{new_epoch_put, new_epoch_length}
