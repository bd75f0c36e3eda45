-- What follows a primary's call over the images that a host owns (paper 01, 'Who is turned down', 'Bytes on the wire', 30 to 33): the number
-- that is answered, and every byte of the header, the stores and the reply, by what the call left. Definitions only.
use Rattle.std.specs.Prelude.{ℕ, ◌≡◌, false, cond, List, leb, length}
use Rattle.std.proofs.lemmas.List.Edits.{sets}
use Rattle.spec.specs.Layout.Message as message
use Rattle.wire_write.specs.declared.Reply.TheVariants as R
use Rattle.wire_write.specs.declared.Reply.{Reply}
use Rattle.wire_write.specs.Written.{reply_given}
use Rattle.node_header.specs.declared.Node.{Node}
use Rattle.image_header.specs.Image.{header_written}
use Rattle.node_lent.specs.Lend.{LentStore}
use Rattle.image_node.specs.Lent.{stores_put, Puts}
use Rattle.node_replicate.specs.declared.PeerReply.{PeerReply}
use Rattle.node_replicate.specs.declared.PeerReply.TheVariants as P
use Rattle.node_replicate.specs.declared.PeerAnswer.{PeerAnswer}
use Rattle.node_replicate.specs.Peers.{turned_down}
use Rattle.calls_peer_out.specs.declared.Outcome.{Outcome}
use Rattle.calls_peer_out.specs.declared.Outcome.TheVariants as O

-- the three buffers that a call may write
pub record Buffers : Type 0 where
  pub header : List ℕ
  pub stores : List ℕ
  pub reply : List ℕ

abbrev pub buffers : (header stores reply : List ℕ) → Buffers
buffers h s r = record { header = h; stores = s; reply = r }

-- ---- what is left after the call

-- the answered number, and the buffers at exit
pub record Ended : Type 0 where
  pub answer : ℕ
  pub left : Buffers

abbrev pub ended : ℕ → Buffers → Ended
ended r b = record { answer = r; left = b }

-- the reply goes back, and the images become h and s; without room for the reply's nine bytes it is 23, and nothing is written
abbrev pub sends : Buffers → (h s : List ℕ) → message.Reply → Ended
sends b h s w = cond (leb 9 (length b.reply)) (ended 0 (buffers h s (sets b.reply 0 (message.encode_reply w)))) (ended 23 b)

-- the call left the images h and s, which are written unless it was turned down: by StaleEpoch, or by a refusal's number
abbrev pub ended_as : Buffers → (h s : List ℕ) → PeerReply → Ended
ended_as b h s (P.Stored o) = sends b h s (message.reply_stored o.0)
ended_as b h s (P.Gap o) = sends b h s (message.reply_gap o.0)
ended_as b h s (P.StaleEpoch e) = sends b b.header b.stores (message.reply_stale e.0)
ended_as b h s (P.Adopted o) = sends b h s (message.reply_adopted o.0)
ended_as b h s (P.Refused r) = ended r b

-- .. those with the header that the call left and, in the slot of the shard at a place of the header n before it, the columns l
abbrev pub ended_with : Buffers → (n : Node) (at : ℕ) → LentStore → PeerAnswer → Ended
ended_with b n at l a = ended_as b (header_written b.header a.node) (stores_put b.stores n a.node l at) a.answer

-- the answer as a refusal, or as a reply beside a state that stays or was made
abbrev pub outcome : PeerReply → Outcome
outcome (P.Stored o) = O.Changed (R.Stored o)
outcome (P.Gap o) = O.Changed (R.Gap o)
outcome (P.StaleEpoch e) = O.Kept (R.StaleEpoch e)
outcome (P.Adopted o) = O.Changed (R.Adopted o)
outcome (P.Refused r) = O.Refused r

-- a reply written into a buffer that was s and is t, with the number r
pub record Replies (w : Reply) (s t : List ℕ) (r : ℕ) : Type 0 where
  pub answer : r ≡ cond (leb 9 (length s)) 0 23
  pub bytes : t ≡ cond (leb 9 (length s)) (sets s 0 (message.encode_reply (reply_given w))) s

-- the buffers b became c with the number r; a call that was not turned down has written what it left, if its reply was sent
pub record Finished (b c : Buffers) (n : Node) (at : ℕ) (l : LentStore) (a : PeerAnswer) (r : ℕ) : Type 0 where
  pub ends : ended r c ≡ ended_with b n at l a
  pub puts : turned_down a.answer ≡ false → r ≡ 0 → Puts b.header c.header b.stores c.stores n a.node l at
