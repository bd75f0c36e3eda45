-- For the crates above: the row in which each row of `spec`'s map is written. They are crate `image_map_form`'s.
pub use Rattle.image_map_form.specs.Canon.{image_node, image_collection, image_shard, image_rejection, image_outcome, rejection_key, outcome_key, image_session}
