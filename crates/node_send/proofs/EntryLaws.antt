-- For the crates above: laws of stored entries by their places and by their offsets.
pub use Rattle.node_send_entries.proofs.EntriesLaws.{at_length, from_some}
