-- For the crates above: the slots of the shards held after a map. They are crate `node_show_slots`'.
unfoldable pub use Rattle.node_show_slots.specs.Slots.{slotted, slots_after}
