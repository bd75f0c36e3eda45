-- Laws of what a Write leaves in a host's buffers, one for each way out. Assumes nothing.
use Prim.Native.Nat.{ℕ}
use mathlib.Core.Path.{◌≡◌, refl, sym, ap, ◌∙◌}
use mathlib.Core.Bool.{true, false}
use mathlib.Core.List.{List}
use Rattle.spec_laws.proofs.Lists.{not_both}
use Rattle.node_header.specs.declared.Node.{Node}
use Rattle.image_header.specs.Image.{header_written}
use Rattle.node_lent.specs.Lend.{LentStore}
use Rattle.image_node.specs.Lent.{stores_put, Puts}
use Rattle.calls_parts.specs.Answer.{answer_lent, number_put}
use Rattle.calls_parts.proofs.AnswerLaws.{number_unput}
use Rattle.node_write.specs.declared.WriteReply.{WriteReply}
use Rattle.node_write.specs.declared.WriteReply.TheVariants as R
use Rattle.node_write.specs.declared.WriteAnswer.{WriteAnswer}
use Rattle.node_write.specs.ClientWrites.{turned_down}
use Rattle.calls_client_out.specs.Ends.{Buffers, buffers, WriteEnded, ended, ended_as, write_ended}

module _ (h s a : List ℕ) (n : Node) (at : ℕ) (l : LentStore) (w : WriteAnswer) where
  abbrev b : Buffers
  b = buffers h s a

  abbrev h₁ : List ℕ
  h₁ = header_written h w.node

  abbrev s₁ : List ℕ
  s₁ = stores_put s n w.node l at

  as_told : (x : WriteReply) → w.answer ≡ x → (e : WriteEnded) → e ≡ ended_as b h₁ s₁ x → e ≡ write_ended b n at l w
  as_told x q e f = f ∙ ap (ended_as b h₁ s₁) (sym q)

  pub told-short : (o : ℕ) → w.answer ≡ R.Accepted (record { 0 = o }) → answer_lent a ≡ false → (x : ℕ) (a' : List ℕ) → a' ≡ number_put a x
      → ended 23 (buffers h s a') ≡ write_ended b n at l w
  told-short o q e x a' f = as_told (R.Accepted (record { 0 = o })) q _
      (ap (λ (y : List ℕ). ended 23 (buffers h s y)) (f ∙ number_unput a x e) ∙ (rw e refl))

  pub told-accepted : (o : ℕ) → w.answer ≡ R.Accepted (record { 0 = o }) → answer_lent a ≡ true → (h' s' a' : List ℕ)
      → Puts h h' s s' n w.node l at → a' ≡ number_put a o → ended 0 (buffers h' s' a') ≡ write_ended b n at l w
  told-accepted o q e h' s' a' p f = as_told (R.Accepted (record { 0 = o })) q _
      (ap (λ (x : List ℕ). ended 0 (buffers x s' a')) p.header
      ∙ ap (λ (x : List ℕ). ended 0 (buffers h₁ x a')) p.stores
      ∙ ap (λ (x : List ℕ). ended 0 (buffers h₁ s₁ x)) f
      ∙ (rw e refl))

  pub told_elsewhere : (o : ℕ) → w.answer ≡ R.NotPrimary (record { 0 = o }) → (a' : List ℕ) → a' ≡ number_put a o
      → ended 18 (buffers h s a') ≡ write_ended b n at l w
  told_elsewhere o q a' f = as_told (R.NotPrimary (record { 0 = o })) q _ (ap (λ (x : List ℕ). ended 18 (buffers h s x)) f)

  pub told-refused : (x : ℕ) → w.answer ≡ R.Refused x → ended x b ≡ write_ended b n at l w
  told-refused x q = as_told (R.Refused x) q _ refl

-- .. and whether the images were written
pub not_accepted : (x y : WriteReply) → x ≡ y → turned_down y ≡ true → {P : Type 0} → turned_down x ≡ false → P
not_accepted x y q t f = not_both (turned_down x) (ap turned_down q ∙ t) f
