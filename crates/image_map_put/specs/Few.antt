-- An image whose tables have no more rows than places. Definitions only.
use Rattle.std.specs.Prelude.{ℕ, ◌≤◌, List, length}
use Rattle.spec.specs.Layout.Format.{number_at}

pub record Few (s : List ℕ) : Type 0 where
  pub long : 26536 ≤ length s
  pub nodes : number_at 8 s 8 ≤ 32
  pub collections : number_at 8 s 16 ≤ 16
  pub shards : number_at 8 s 24 ≤ 64
  pub sessions : number_at 8 s 32 ≤ 64
