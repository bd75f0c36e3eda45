-- For the crates above: laws of one stored entry as it is sent.
pub use Rattle.node_send_entries.proofs.EntryLaws.{component-number, floats-step, sendable, op_domain}
