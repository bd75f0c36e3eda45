-- What a grant in place is of the image. Assumes nothing.
use Prim.Native.Nat.{ℕ}
use mathlib.Core.Bool.{true, false}
use mathlib.Core.Path.{◌≡◌, refl, sym, subst, ◌∙◌}
use mathlib.Core.List.{List}
use lib.Dec.{ltb}
use Rattle.spec.specs.Lists.{◌or◌}
use Rattle.spec.specs.Limits.{max_time}
use Rattle.spec.specs.Layout.Format.{number_at}
use Rattle.spec_laws.proofs.Lists.{not_both}
use Rattle.std.specs.Prelude.{Option}
use Rattle.std.specs.Prelude.{None, Some}
use Rattle.node_admit.specs.View as serve
use Rattle.node_header.specs.declared.GrantAnswer.TheVariants as G
use Rattle.node_header.specs.Formed.{formed_node}
use Rattle.node_header.specs.Arrays.{arrays_fit}
use Rattle.node_header.specs.Slots.{Keeps}
use Rattle.node_header.specs.Answers.{ReExpires}
use Rattle.node_header.proofs.Formed.{formed-lent}
use Rattle.node_header.proofs.Arrays.{keeps-all}
use Rattle.node_header.proofs.Calls.{grant_malformed, grant-done}
use Rattle.image_header_row.specs.Rows.{expiry_of, expiry_code, expiry_time}
use Rattle.image_header.specs.declared.Lent.{Lent}
use Rattle.image_header.specs.Image.{header_lent, node_at, lent_header}
use Rattle.image_header.specs.Becomes.{HeaderWrites}
use Rattle.calls_header.specs.Grants.{GrantsImage}
use Rattle.calls_header.proofs.Calls.{grants_image}
use Rattle.image_header_put.specs.Back.{with_end, EndOf}

-- a lease's end in two numbers, and back
pub end_back : (e : Option ℕ) → expiry_of (expiry_code e) (expiry_time e) ≡ e
end_back None = refl
end_back (Some t) = refl

pub end_of : (e : Option ℕ) (code end : ℕ) → code ≡ expiry_code e → end ≡ expiry_time e → EndOf code end
end_of None code end a b = rw (a, b) (refl, refl)
end_of (Some t) code end a b = rw (a, b) (refl, refl)

module _ (s : List ℕ) (lent : header_lent s ≡ true) where
  abbrev read : Lent
  read = record { found = true; node = node_at s }

  is_read_lem : read ≡ lent_header s
  is_read_lem = rw lent

  module _ (i sent lease : ℕ) (early : ltb max_time sent ≡ false) (short : ltb max_time lease ≡ false) where
    -- 24, and no byte changes
    pub granted_not : formed_node (node_at s) ≡ false → GrantsImage s s i sent lease 24
    granted_not bad =
        grants_image s read is_read_lem refl s i sent lease 24 (record { answer = G.Refused 24; node = node_at s })
        (grant_malformed (node_at s) i sent lease early short (λ st. sym bad ∙ formed-lent (node_at s) st)) (keeps-all (node_at s))
        (G.Refused 24) refl refl refl (λ d. not_both false d refl)

    module _ (formed : formed_node (node_at s) ≡ true) (own : ℕ) (old e : Option ℕ) (mine : own ≡ number_at 8 s 8)
        (last : old ≡ expiry_of (number_at 4 s 36) (number_at 8 s 40)) (raised : serve.Grants own old i sent lease e)
        (code end : ℕ) (a : code ≡ expiry_code e) (b : end ≡ expiry_time e) where
      is-end : expiry_of code end ≡ e
      is-end = rw (a, b) (end_back e)

      re_expires : ReExpires (node_at s) e (with_end (node_at s) code end)
      re_expires st = rw is-end

      raised_here : serve.Grants (node_at s).incarnation (node_at s).expiry i sent lease e
      unfolding node_at
      raised_here = subst (λ (o : ℕ). serve.Grants o (expiry_of (number_at 4 s 36) (number_at 8 s 40)) i sent lease e) mine
          (subst (λ (x : Option ℕ). serve.Grants own x i sent lease e) last raised)

      keeps : Keeps (node_at s) (with_end (node_at s) code end)
      unfolding arrays_fit
      keeps = record { fits = λ q. q; slots_are = refl }

      pub granted_so : (t : List ℕ) → HeaderWrites s t (with_end (node_at s) code end) → GrantsImage s t i sent lease 0
      granted_so t w =
          grants_image s read is_read_lem refl t i sent lease 0 (record { answer = G.Granted; node = with_end (node_at s) code end })
          (grant-done (node_at s) i sent lease early short (λ st. sym formed ∙ formed-lent (node_at s) st) e raised_here (with_end (node_at s) code end) re_expires) keeps
          G.Granted refl refl w.image (λ d. w.becomes)
