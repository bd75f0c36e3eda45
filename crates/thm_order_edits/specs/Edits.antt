-- Paper 02, 2.10: edits as messages, appended to a lent store by calls of which only the contract is known. Definitions only.
use Rattle.std.specs.Prelude.{ℕ, ◌≡◌, true, List, Float}
use Rattle.std.proofs.Math.Option.{some}
use Rattle.spec.specs.Log.{Op, Vectors}
use Rattle.spec.specs.Layout.Message as message
use Rattle.spec.specs.Node.Wire.{op_in_domain, stored_op}
use Rattle.spec.specs.declared.Metric.{Metric}
use Rattle.log_store.specs.Store.{Store, store_log, store_rows}
use Rattle.log_store.specs.Table.{vectors_of}
use Rattle.log_search.specs.Search.{Searched}
use Rattle.log_search.specs.declared.answer.Found.{Found}
use Rattle.log_calls.specs.Fits.{search_lent}
use Rattle.log_calls.specs.Calls.{Calls, append_lent}
use Rattle.log_calls.specs.declared.Done.{Done}

-- a Write message with this operation, its vector in the domain
pub record Edit (b : List ℕ) (op : Op) : Type 0 where
  pub write : message.Write
  pub read : message.decode_write b ≡ some write
  pub domain : op_in_domain write.op ≡ true
  pub stored : stored_op write.op ≡ op

-- the contract of one `append`, of the message b
abbrev pub Appends : List ℕ → ℕ → Store → Store → Done → Type 0
Appends b own s t d = Calls (append_lent b own s) own s t d

-- two calls, one after the other: the second is made on the store, and at the epoch, that the first left
pub record InTurn (x y : List ℕ) (own : ℕ) (s u : Store) : Type 0 where
  pub between : Store
  pub first : Done
  pub second : Done
  pub called : Appends x own s between first
  pub followed : Appends y first.epoch.0 between u second

-- the vectors that a store is read with
abbrev pub read_vectors : Store → Vectors
read_vectors s = vectors_of (store_log s) (store_rows s)

-- one `search` on each of two stores with the same operands, over outputs that held the same: the answers and both outputs are the same
abbrev pub SearchedAlike : Store → Store → Type 0
SearchedAlike u v =
    (m : Metric) (q : List Float) (k room : ℕ) (is : List ℕ) (ds : List Float)
    (r₁ r₂ : Found) (is₁ is₂ : List ℕ) (ds₁ ds₂ : List Float)
    → Searched (search_lent u m q k room) r₁ is is₁ ds ds₁
    → Searched (search_lent v m q k room) r₂ is is₂ ds ds₂
    → (r₁ ≡ r₂) × (is₁ ≡ is₂) × (ds₁ ≡ ds₂)
