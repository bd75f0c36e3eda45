-- For the crates above: where `wire_read` answered a kind of message, its parts stand in the bytes, and what is read there is what `spec`'s decoder
-- reads.
pub use Rattle.log_domain.proofs.Messages.{replicate_part_lem, replicate_there, replicate_op, write-part, write-there, write-op, search_part_lem, search_there, search_bits, copy_part_lem, copy_there, copy_entries, new_epoch_part_lem, new_epoch_there, new_epoch_table}
