-- A call whose lent state is malformed is refused ('Who is turned down', 24, or a number before it): what was not refused was lent. Assumes
-- nothing.
use Prim.Native.Nat.{ℕ}
use mathlib.Core.Path.{◌≡◌, refl, sym, subst}
use mathlib.Core.Bool.{Bool, false, cond, not}
use mathlib.Core.List.{List}
use mathlib.Core.Option.{Option, none, some}
use Rattle.spec.specs.Lists.{every}
use Rattle.spec.specs.Keys.{Key}
use Rattle.spec.specs.Refusals.{Refusal, undecodable, outside_domain, malformed}
use Rattle.spec.specs.Layout.Message.{Write, decode_write, Replicated, decode_replicate, NewEpoch, decode_new_epoch, Copied, decode_copy_shard}
use Rattle.spec.specs.Node.Held.{Node}
use Rattle.spec.specs.Node.Shards.{Result, gives}
use Rattle.spec.specs.Node.Wire.{op_in_domain, entry_in_domain}
use Rattle.spec.specs.Node.Client.{WriteAnswer, write_refused}
use Rattle.spec.specs.Node.Backup.{BackupAnswer, backup_refused}
use Rattle.spec.specs.Node.Calls.{late_time, write_of, write_with, replicate_of, replicate_with, new_epoch_of, new_epoch_with, copy_of, copy_with}
use Rattle.spec_laws.proofs.Lists.{by-test}

-- a result that is a refusal
abbrev pub Refuses : Result BackupAnswer Node → Type 0
Refuses v = (r : Refusal) × (v.answer ≡ backup_refused r)

abbrev pub RefusesWrite : Result WriteAnswer Node → Type 0
RefusesWrite v = (r : Refusal) × (v.answer ≡ write_refused r)

module _ (n : Node) (lent : Key → Bool) where
  -- the test of the lent state, past the others
  tested : (k : Key) (v : Result BackupAnswer Node) → lent k ≡ false → Refuses (cond (not (lent k)) (gives (backup_refused malformed) n) v)
  tested k v e = subst (λ (b : Bool). Refuses (cond (not b) (gives (backup_refused malformed) n) v)) (sym e) (malformed, refl)

  tested-write : (k : Key) (v : Result WriteAnswer Node) → lent k ≡ false → RefusesWrite (cond (not (lent k)) (gives (write_refused malformed) n) v)
  tested-write k v e = subst (λ (b : Bool). RefusesWrite (cond (not b) (gives (write_refused malformed) n) v)) (sym e) (malformed, refl)

  -- of the message that the bytes are read as; bytes that are none are refused first
  replicate_of_lem : (m : Option Replicated) → ((w : Replicated) → m ≡ some w → lent w.key ≡ false) → Refuses (replicate_of lent n m)
  replicate_of_lem none e = (undecodable, refl)
  replicate_of_lem (some w) e =
      by-test Refuses (not (op_in_domain w.op)) (λ p. (outside_domain, refl)) (λ p. tested w.key _ (e w refl))

  pub replicate_unlent : (s : List ℕ) → ((w : Replicated) → decode_replicate s ≡ some w → lent w.key ≡ false) → Refuses (replicate_with lent n s)
  unfolding replicate_with
  replicate_unlent s e = replicate_of_lem (decode_replicate s) e

  new_epoch_of_lem : (m : Option NewEpoch) → ((w : NewEpoch) → m ≡ some w → lent w.key ≡ false) → Refuses (new_epoch_of lent n m)
  new_epoch_of_lem none e = (undecodable, refl)
  new_epoch_of_lem (some w) e = tested w.key _ (e w refl)

  pub new_epoch_unlent : (s : List ℕ) → ((w : NewEpoch) → decode_new_epoch s ≡ some w → lent w.key ≡ false) → Refuses (new_epoch_with lent n s)
  unfolding new_epoch_with
  new_epoch_unlent s e = new_epoch_of_lem (decode_new_epoch s) e

  copy_of_lem : (m : Option Copied) → ((w : Copied) → m ≡ some w → lent w.key ≡ false) → Refuses (copy_of lent n m)
  copy_of_lem none e = (undecodable, refl)
  copy_of_lem (some w) e =
      by-test Refuses (not (every entry_in_domain w.entries)) (λ p. (outside_domain, refl)) (λ p. tested w.key _ (e w refl))

  pub copy_unlent : (s : List ℕ) → ((w : Copied) → decode_copy_shard s ≡ some w → lent w.key ≡ false) → Refuses (copy_with lent n s)
  unfolding copy_with
  copy_unlent s e = copy_of_lem (decode_copy_shard s) e

  write_of_lem : (now least : ℕ) (m : Option Write) → ((w : Write) → m ≡ some w → lent w.key ≡ false) → RefusesWrite (write_of lent n now least m)
  write_of_lem now least none e = (undecodable, refl)
  write_of_lem now least (some w) e =
      by-test RefusesWrite (not (op_in_domain w.op)) (λ p. (outside_domain, refl)) (λ p. tested-write w.key _ (e w refl))

  pub write_unlent : (now least : ℕ) (s : List ℕ) → ((w : Write) → decode_write s ≡ some w → lent w.key ≡ false)
      → RefusesWrite (write_with lent n now least s)
  unfolding write_with
  write_unlent now least s e = by-test RefusesWrite (late_time now) (λ p. (undecodable, refl)) (λ p. write_of_lem now least (decode_write s) e)
