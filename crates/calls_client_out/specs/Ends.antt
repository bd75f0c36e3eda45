-- What a client's Write leaves in a host's buffers, by what the call on a node told (paper 01, 'Who is turned down', Write). Definitions only.
use Rattle.std.specs.Prelude.{ℕ, ◌≡◌, false, cond, List}
use Rattle.node_header.specs.declared.Node.{Node}
use Rattle.image_header.specs.Image.{header_written}
use Rattle.node_lent.specs.Lend.{LentStore}
use Rattle.image_node.specs.Lent.{stores_put, Puts}
use Rattle.calls_parts.specs.Answer.{answer_lent, number_put}
use Rattle.node_write.specs.declared.WriteReply.{WriteReply}
use Rattle.node_write.specs.declared.WriteReply.TheVariants as R
use Rattle.node_write.specs.declared.WriteAnswer.{WriteAnswer}
use Rattle.node_write.specs.ClientWrites.{turned_down}

-- the three buffers that a Write may change, the count apart
pub record Buffers : Type 0 where
  pub header : List ℕ
  pub stores : List ℕ
  pub answer : List ℕ

abbrev pub buffers : (header stores answer : List ℕ) → Buffers
buffers h s a = record { header = h; stores = s; answer = a }

-- what the caller gets: the number, and the buffers at exit
pub record WriteEnded : Type 0 where
  pub number : ℕ
  pub left : Buffers

abbrev pub ended : ℕ → Buffers → WriteEnded
ended r b = record { number = r; left = b }

-- an accepted write's offset stands beside the answer, and the images become h and s; without room for the offset it is 23
abbrev pub accepted_in : Buffers → (h s : List ℕ) → (offset : ℕ) → WriteEnded
accepted_in b h s o = cond (answer_lent b.answer) (ended 0 (buffers h s (number_put b.answer o))) (ended 23 b)

-- 18 tells the own epoch, if there is room; every other refusal its number alone. h and s are the images that the call would leave
abbrev pub ended_as : Buffers → (h s : List ℕ) → WriteReply → WriteEnded
ended_as b h s (R.Accepted o) = accepted_in b h s o.0
ended_as b h s (R.NotPrimary e) = ended 18 (buffers b.header b.stores (number_put b.answer e.0))
ended_as b h s (R.Refused x) = ended x b

-- n the header before, `at` the shard's place in it, l the columns after
abbrev pub write_ended : Buffers → (n : Node) (at : ℕ) → LentStore → WriteAnswer → WriteEnded
write_ended b n at l w = ended_as b (header_written b.header w.node) (stores_put b.stores n w.node l at) w.answer

-- what the caller gets; an accepted write whose offset was told has written what it left
pub record WriteFinished (b : Buffers) (n : Node) (at : ℕ) (l : LentStore) (w : WriteAnswer) (e : WriteEnded) : Type 0 where
  pub is : e ≡ write_ended b n at l w
  pub puts : turned_down w.answer ≡ false → e.number ≡ 0 → Puts b.header e.left.header b.stores e.left.stores n w.node l at
