-- Paper 01, 'Bytes on the wire': what is written at its limit is read back, by the round trips: computed, such a row takes longer than all
-- others together. Assumes nothing.
use mathlib.Core.Path.{◌≡◌, refl, sym, ap, ◌∙◌}
use mathlib.Core.List.{◌∷◌, ◌++◌}
use mathlib.Core.Option.{some}
use Prim.Native.Nat.{ℕ, zero, suc}
use lib.ListN.{replicate, take, drop}
use native.Mathlib.Omega.{arith}
use Rattle.spec.specs.Lists.{◌and◌}
use Rattle.spec.specs.Layout.Format.{All}
use Rattle.spec.specs.Layout.Request.{decode_request}
use Rattle.spec.specs.Layout.Message.{decode_copy_shard, encode_copy_shard, decode_new_epoch, encode_new_epoch}
use Rattle.spec.specs.Layout.Writable.{U8, GoodEntry, GoodEnd}
use Rattle.spec.specs.Cases.Bytes.{request, read_as, at_limit, tabled, batched, entry}
use Rattle.spec.proofs.Opened.{opened}
use Rattle.spec.proofs.Cases.Bytes.{reading, whole, longest, carried, longest-written}
use Rattle.spec_laws.proofs.Wire.Requests.{request-back}
use Rattle.spec_laws.proofs.Wire.Messages.{copy_back, new_epoch_back}

all_same : {A : Type 0} (P : A → Type 0) (x : A) → P x → (n : ℕ) → All P (replicate n x)
all_same P x p zero = tt
all_same P x p (suc n) = (p, all_same P x p n)

longest-read : decode_request carried ≡ some longest
longest-read =
    ap decode_request (sym longest-written)
    ∙ request-back longest (omega arith, omega arith, omega arith, (omega arith, all_same U8 0 (omega arith) 1024))

pub limits_read : reading at_limit ≡ whole at_limit
unfolding opened
limits_read = ap (λ o. take 4 (whole at_limit) ++ (read_as request o ∷ drop 5 (whole at_limit))) longest-read

-- ---- 256 entries and 1,024 pairs decode: the round trips at their limits

pub batch_256 : decode_copy_shard (encode_copy_shard (batched 256)) ≡ some (batched 256)
unfolding ◌and◌
batch_256 =
    copy_back (batched 256)
    (((omega arith, refl), omega arith), omega arith, omega arith, all_same GoodEntry entry (omega arith, omega arith, omega arith) 256)

pub table_1024 : decode_new_epoch (encode_new_epoch (tabled 1024)) ≡ some (tabled 1024)
unfolding ◌and◌
table_1024 =
    new_epoch_back (tabled 1024)
    (((omega arith, refl), omega arith), omega arith, omega arith, omega arith, all_same GoodEnd _ (omega arith, omega arith) 1024)
