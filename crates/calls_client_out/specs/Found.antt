-- What a client's Search leaves in a host's buffers, by what the call on a node told (paper 01, 'Who is turned down', Search). Definitions
-- only.
use Rattle.std.specs.Prelude.{ℕ, ◌/◌, min, ◌≡◌, cond, List, length, replicate}
use Rattle.std.proofs.lemmas.List.Edits.{sets}
use Rattle.spec.specs.Limits.{max_entries}
use Rattle.spec.specs.Node.Wire.{float_of}
use Rattle.node_header.specs.declared.Node.{Node}
use Rattle.node_lent.specs.Lend.{LentStore}
use Rattle.calls_parts.specs.Answer.{answer_lent, number_put}
use Rattle.node_search.specs.declared.SearchAnswer.{SearchAnswer}
use Rattle.node_search.specs.declared.SearchAnswer.TheVariants as S
use Rattle.node_search.specs.declared.NodeSearched.{NodeSearched}
use Rattle.node_search.specs.Searches.{Output, output, SearchesAt}
use Rattle.calls_client_out.specs.Hits.{hits_bytes}

-- ---- what the caller gets, the count apart: the number, and the two outputs at exit

pub record SearchEnded : Type 0 where
  pub number : ℕ
  pub hits : List ℕ
  pub answer : List ℕ

abbrev pub ended : ℕ → (hits answer : List ℕ) → SearchEnded
ended r o a = record { number = r; hits = o; answer = a }

-- the columns that the call is lent: a place for each neighbour that the buffer has room for, 1,024 at most, as fresh local arrays are
abbrev pub hits_lent : List ℕ → ℕ
hits_lent o = min max_entries (length o / 12)

unfoldable pub fresh_hits : ℕ → Output
fresh_hits n = output (replicate n 0) (replicate n (float_of 0))

-- n neighbours: 23 without room for their count; else they stand in the buffer from its start on, and their count beside the answer
abbrev pub found_in : (hits answer : List ℕ) → Output → ℕ → SearchEnded
found_in o a p n = cond (answer_lent a) (ended 0 (sets o 0 (hits_bytes p.ids p.distances n)) (number_put a n)) (ended 23 o a)

-- by the call's answer and the columns p that it left: 18 tells the own epoch, if there is room; every other refusal its number alone
abbrev pub search_ended : (hits answer : List ℕ) → Output → SearchAnswer → SearchEnded
search_ended o a p (S.Found n) = found_in o a p n
search_ended o a p (S.NotPrimary e) = ended 18 o (number_put a e.0)
search_ended o a p (S.Refused x) = ended x o a

-- ---- the call

-- past 24: some columns and answer that the call leaves on this state, and what the caller gets of them
pub record SearchServed (n : Node) (a : LentStore) (m : List ℕ) (clock : ℕ) (hits answer : List ℕ) (e : SearchEnded) : Type 0 where
  pub left : Output
  pub told : NodeSearched
  pub call : SearchesAt n a m clock (fresh_hits (hits_lent hits)) left 0 told
  pub is : e ≡ search_ended hits answer left told.answer
