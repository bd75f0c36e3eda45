-- What a client's Search promises over the images of a node (paper 01, 'Who is turned down', Search; docs/IMAGES.md): the refusals in their
-- order, and then what the call on the state that the bytes lend told. Every byte of every buffer at exit is given. Definitions only.
use Rattle.std.specs.Prelude.{ℕ, ◌≡◌, Bool, true, false, List}
use Rattle.std.proofs.Math.Option.{none, some}
use Rattle.spec.specs.Lists.{◌and◌}
use Rattle.spec.specs.Keys.{Key}
use Rattle.spec.specs.Layout.Message.{Query, decode_search}
use Rattle.spec.specs.Node.Wire.{patterns_in_domain}
use Rattle.spec.specs.Node.Calls.{late_time}
use Rattle.image_header.specs.Image.{node_at}
use Rattle.image_node.specs.Lent.{lends_state, lent_store_in}
use Rattle.calls_client_out.specs.Count.{count_lent, count_put}
use Rattle.calls_client_out.specs.Found.{SearchEnded, ended, SearchServed}

-- 24: a count, and the images of a state
abbrev pub lends_call : (count header stores : List ℕ) → Key → Bool
lends_call c h s k = count_lent c and lends_state h s k

-- at the shard of a key: 24 where the images lend no state
pub record SearchesShard (h s : List ℕ) (key : Key) (clock : ℕ) (m hits answer : List ℕ) (e : SearchEnded) : Type 0 where
  pub unlent : lends_state h s key ≡ false → e ≡ ended 24 hits answer
  pub lent : lends_state h s key ≡ true → SearchServed (node_at h) (lent_store_in s (node_at h) key) m clock hits answer e

-- past 21, for what the bytes m were read as
pub record SearchesQuery (h s c : List ℕ) (clock : ℕ) (m hits answer : List ℕ) (v : Query) (e : SearchEnded) : Type 0 where
  pub outside : patterns_in_domain v.bits ≡ false → e ≡ ended 22 hits answer
  pub unlent : patterns_in_domain v.bits ≡ true → lends_call c h s v.key ≡ false → e ≡ ended 24 hits answer
  pub lent : patterns_in_domain v.bits ≡ true → lends_call c h s v.key ≡ true
      → SearchServed (node_at h) (lent_store_in s (node_at h) v.key) m clock hits answer e

-- h, s and c the header, the stores and the count of refused calls
pub record SearchesBytes (h s c : List ℕ) (clock : ℕ) (m hits answer : List ℕ) (e : SearchEnded) : Type 0 where
  pub late : late_time clock ≡ true → e ≡ ended 21 hits answer
  pub undecoded : decode_search m ≡ none → e ≡ ended 21 hits answer
  pub query : late_time clock ≡ false → (v : Query) → decode_search m ≡ some v → SearchesQuery h s c clock m hits answer v e

-- c' the count's bytes at exit: one more for a refusal of any number
pub record SearchesImages (h s c : List ℕ) (clock : ℕ) (m hits answer c' hits' answer' : List ℕ) (r : ℕ) : Type 0 where
  pub ends : SearchesBytes h s c clock m hits answer (ended r hits' answer')
  pub count : c' ≡ count_put c r
