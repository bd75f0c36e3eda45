-- For the contracts here and the crates above: the part of a lent store that is sent, crate `node_send_entries`.
pub use Rattle.node_send_entries.specs.Sent.{Sendable}
unfoldable pub use Rattle.node_send_entries.specs.Sent.{entries_at}
