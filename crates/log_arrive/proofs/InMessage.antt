-- For the crates above: the bits of a vector in a message.
pub use Rattle.log_domain.proofs.InMessage.{bits-length, bits_item}
