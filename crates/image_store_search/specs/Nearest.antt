-- What a search over a store's bytes finds (paper 01, 'Nearest objects'): the first k of the stored vectors, in order. Definitions only.
use Rattle.std.specs.Prelude.{ℕ, ◌≤◌, ◌≡◌, List, Float, length, take}
use Rattle.spec.specs.declared.Metric.{Metric}
use Rattle.spec.specs.Nearest.Search.{hits}
use Rattle.log_store.specs.Table.{vectors_of}
use Rattle.image_store.specs.Image.{log_at, rows_at}
use Rattle.log_select.specs.declared.select.Hits.{Hits}

pub record NearestIn (s : List ℕ) (base count stored : ℕ) (metric : Metric) (query : List Float) (k : ℕ) (h : Hits) : Type 0 where
  pub long : length h.items ≡ 1025
  pub most : h.count ≤ k
  pub first : take h.count h.items ≡ hits metric query (vectors_of (log_at s base count) (rows_at s base stored)) k
