-- What goes between the two nodes: the alignment, which tells the empty log that epoch 1 began with, and the entry. Assumes nothing.
use Prim.Native.Nat.{ℕ}
use mathlib.Core.Path.{◌≡◌, refl, sym, ap, ◌∙◌}
use mathlib.Core.List.{List, [], ◌∷◌}
use mathlib.Core.Option.{some}
use Rattle.spec.specs.Layout.Parts.{wire_upsert}
use Rattle.spec.specs.Layout.Message as message
use Rattle.spec.specs.declared.Metric.TheVariants.{Euclidean}
use Rattle.spec_laws.proofs.Lists.{some_same}
use Rattle.spec_run.proofs.Cases.Opened.{opened}
use Rattle.node_replicate.specs.Peers.{ReplicateNames}
use Rattle.node_epoch.specs.NewEpochs.{NewEpochNames}
use Rattle.thm_one_node.proofs.Map.{key}

abbrev pub alignment : message.NewEpoch
alignment = record { key = key; epoch = 1; end = 0; table = []; metric = Euclidean }

unfoldable pub align_bytes : List ℕ
align_bytes = message.encode_new_epoch alignment

pub align_decoded : message.decode_new_epoch align_bytes ≡ some alignment
unfolding opened align_bytes
align_decoded = refl

pub align_names : NewEpochNames align_bytes key
align_names v e = ap (λ (m : message.NewEpoch). m.key) (some_same (sym align_decoded ∙ e))

abbrev pub lone : message.Replicated
lone = record { key = key; epoch = 1; offset = 1; op = wire_upsert 41 (0x3f800000 ∷ []) }

unfoldable pub entry_bytes : List ℕ
entry_bytes = message.encode_replicate lone

pub entry_decoded : message.decode_replicate entry_bytes ≡ some lone
unfolding opened entry_bytes
entry_decoded = refl

pub entry_names : ReplicateNames entry_bytes key
entry_names v e = ap (λ (m : message.Replicated). m.key) (some_same (sym entry_decoded ∙ e))
