-- A row but for its peers: where its parts stand, and its bytes in the canonical form. Assumes nothing.
use Prim.Native.Nat.{ℕ, ◌+◌}
use mathlib.Core.Path.{◌≡◌, refl, ap, subst, ◌∙◌}
use mathlib.Core.List.{List, ◌++◌, map}
use lib.ListN.{length, take, length-map}
use native.Mathlib.Omega.{arith}
use Rattle.spec.specs.Layout.Format.{bytes_of, number_at}
use Rattle.spec.specs.Layout.Parts.{metric_of, metric_code}
use Rattle.spec.specs.declared.Role.{Role}
use Rattle.spec.specs.declared.Replica.{Replica}
use Rattle.map_tables.specs.Names.{view_key}
use Rattle.map_tables.specs.declared.ShardKey.{ShardKey}
use Rattle.node_header.specs.declared.HeldRow.{HeldRow}
use Rattle.image_parts.specs.Shape.{value, rep, Stored}
use Rattle.image_parts.specs.Codes.{flag_of, flag_code}
use Rattle.image_parts.specs.Parts.{key_at, key_bytes, replica_f, replica_read, replicas_at, replicas_bytes, no_replica}
use Rattle.image_parts.specs.Canon.{padded, image_key}
use Rattle.image_parts.proofs.Images.{length-items}
use Rattle.image_header_row.specs.Rows.{role_f, role_of, role_at, role_bytes, held_row_at}
use Rattle.image_header_row.specs.Tidy.{tidy_held, tidy_held_row}
use Rattle.image_header_form.specs.Rows.{counts_bytes, front_bytes}

module _ (s : List ℕ) (p : ℕ) where
  pub key-is : (held_row_at s p).key ≡ key_at s p
  unfolding held_row_at key_at
  key-is = refl

  pub epoch-is : (held_row_at s p).held.epoch.0 ≡ number_at 8 s (p + 64)
  unfolding held_row_at
  epoch-is = refl

  pub metric_is : (held_row_at s p).held.metric ≡ metric_of (number_at 4 s (p + 96))
  unfolding held_row_at
  metric_is = let q : p + 64 + 32 ≡ p + 96 = omega arith in ap (λ (j : ℕ). metric_of (number_at 4 s j)) q

  pub own_is : (held_row_at s p).held.own ≡ flag_of (number_at 4 s (p + 100))
  unfolding held_row_at
  own_is = let q : p + 64 + 36 ≡ p + 100 = omega arith in ap (λ (j : ℕ). flag_of (number_at 4 s j)) q

  pub role_is : (held_row_at s p).held.role ≡ role_at s (p + 108)
  unfolding held_row_at role_at
  role_is = let q : p + 64 + 44 ≡ p + 108 = omega arith in ap (λ (j : ℕ). role_of (value role_f s j)) q

  pub replicas-is : (held_row_at s p).held.replicas ≡ replicas_at s (p + 128)
  unfolding held_row_at replicas_at
  replicas-is = let q : p + 64 + 64 ≡ p + 128 = omega arith in ap (λ (j : ℕ). map replica_read (value (rep 8 replica_f) s j)) q

  pub replicas_long : length (held_row_at s p).held.replicas ≡ 8
  unfolding held_row_at
  replicas_long = length-map (value (rep 8 replica_f) s (p + 64 + 64)) replica_read ∙ length-items 8 (value replica_f s) 16 (p + 64 + 64)

pub front_as : (x : HeldRow) (key : ShardKey) (slot stored epoch last holders count metric own : ℕ) (role : Role) (replicas : List Replica)
    → key ≡ image_key (view_key x.key) → slot ≡ x.slot → stored ≡ x.stored → epoch ≡ x.held.epoch.0 → last ≡ x.held.last
    → holders ≡ length (take x.held.holders x.held.replicas) → count ≡ length (take x.held.count x.held.peers)
    → metric ≡ metric_code x.held.metric → own ≡ flag_code x.held.own → role ≡ x.held.role
    → replicas ≡ padded 8 no_replica (take x.held.holders x.held.replicas)
    → ((((key_bytes key ++ bytes_of 4 0) ++ counts_bytes slot stored epoch last holders count metric own) ++ bytes_of 4 0) ++ role_bytes role)
    ++ replicas_bytes replicas
    ≡ front_bytes (tidy_held_row x)
unfolding front_bytes tidy_held_row tidy_held
front_as x key slot stored epoch last holders count metric own role replicas k a b c d e f g h i j = rw (k, a, b, c, d, e, f, g, h, i, j)

pub stored_same : {s t : List ℕ} {at : ℕ} {a b : List ℕ} {n : ℕ} → a ≡ b → Stored s t at a n → Stored s t at b n
stored_same {s} {t} {at} {a} {b} {n} e p = subst (λ (x : List ℕ). Stored s t at x n) e p
