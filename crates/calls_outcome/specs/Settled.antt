-- The outcome of a proposal at a shard's row. Definitions only.
use Rattle.std.specs.Prelude.{ℕ, Bool, ◌≡◌, List}
use Rattle.node_shard.specs.declared.Held.{Held}
use Rattle.node_shard.specs.Answers.{OutcomesHeld}
use Rattle.node_header.specs.View.{kept_as}
use Rattle.image_header_row.specs.Rows.{held_row_at}
use Rattle.image_header_set.specs.Row.{RowBecomes}

-- internal: the row becomes that of the shard after the outcome
pub record OutcomesRow (s t : List ℕ) (row me epoch peer : ℕ) (left : Bool) : Type 0 where
  pub held : Held
  pub settles : OutcomesHeld (held_row_at s row).held me epoch peer left held
  pub count : held.count ≡ (held_row_at s row).held.count
  pub holders : held.holders ≡ (held_row_at s row).held.holders
  pub becomes : RowBecomes s t row (kept_as (held_row_at s row) held)
