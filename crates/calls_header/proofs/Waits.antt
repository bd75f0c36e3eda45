-- What a wait leaves in a host's buffers, one law for each way out. Assumes nothing.
use Prim.Native.Nat.{ℕ, ◌*◌, ◌≤◌, ◌<◌}
use mathlib.Core.Bool.{true, false}
use mathlib.Core.Path.{◌≡◌, sym, ap, subst, ◌∙◌}
use mathlib.Core.List.{List}
use lib.ListN.{length, take}
use lib.Seq.{sets}
use borrow.Author.Tests.{le-leb, lt-leb}
use Rattle.spec.specs.Lists.{◌and◌}
use Rattle.spec.specs.Layout.Format.{concat_map}
use Rattle.spec_laws.proofs.Lists.{not_both, and_left, and_right}
use Rattle.wire_write.proofs.Writes.{no_second}
use Rattle.node_shard.specs.declared.WaitAnswer.{WaitAnswer}
use Rattle.node_header.specs.declared.Node.{Node}
use Rattle.node_header.specs.declared.NodeWaited.{NodeWaited}
use Rattle.node_show.specs.declared.NodeShown.{NodeShown}
use Rattle.node_show.specs.declared.ShownAnswer.{ShownAnswer}
use Rattle.node_show.specs.Shows.{view_starts}
use Rattle.calls_parts.specs.Answer.{answer_lent, number_put}
use Rattle.calls_parts.proofs.AnswerLaws.{number_unput}
use Rattle.image_header.specs.Image.{header_written}
use Rattle.calls_header.specs.Asked.{Becomes}
use Rattle.calls_header.specs.Shows.{worker_bytes, show_said, is_shown, ShowPut}
use Rattle.calls_header.specs.Waits.{left, id_bytes, rows_room, RowsPut, wait_said, is_waited, WaitPut}

same_left : (r : ℕ) {t u q p b a : List ℕ} → t ≡ u → q ≡ p → b ≡ a → left r t q b ≡ left r u p a
same_left r x y z = rw (x, y, z)

module _ {A : Type 0} (bytes : A → List ℕ) (w : ℕ) (said : ℕ) (s p a : List ℕ) (l : List A) (n : Node) where
  -- without room nothing is written
  unput : rows_room bytes w p a l ≡ false → RowsPut bytes w said s s p p a a l n 23
  unput e = record { buffers = rw e; becomes = λ d. not_both (rows_room bytes w p a l) d e }

  pub no_peers : length p < w * length l → RowsPut bytes w said s s p p a a l n 23
  no_peers h = unput (no_second (answer_lent a) _ (lt-leb (w * length l) (length p) h))

  module _ (peers : w * length l ≤ length p) (b : List ℕ) (c : ℕ) (put : b ≡ number_put a c) where
    pub no_answer : answer_lent a ≡ false → RowsPut bytes w said s s p p a b l n 23
    no_answer e =
        subst (λ (x : List ℕ). RowsPut bytes w said s s p p a x l n 23) (sym (put ∙ number_unput a c e)) (unput (unfold ◌and◌ in rw e))

    pub all-put : answer_lent a ≡ true → {t q : List ℕ} → t ≡ header_written s n → Becomes s t n → q ≡ sets p 0 (concat_map bytes l) → c ≡ length l
        → RowsPut bytes w said s t p q a b l n said
    all-put e x g y z = record {
      buffers = same_left said x y (put ∙ ap (number_put a) z)
          ∙ (unfold ◌and◌ in rw e (rw (le-leb (w * length l) (length p) peers)));
      becomes = λ d. g;
    }

-- what is said decides whether the header is written
pub waited_as : (s p a : List ℕ) (x : NodeWaited) (w : WaitAnswer) → x.answer ≡ w → {t q b : List ℕ} {r : ℕ}
    → left r t q b ≡ wait_said w s p a (take x.shrink.count x.shrink.items) x.node
    → (is_waited w ≡ true → rows_room id_bytes 8 p a (take x.shrink.count x.shrink.items) ≡ true → Becomes s t x.node)
    → WaitPut s t p q a b x r
waited_as s p a x w e h g =
    let room = rows_room id_bytes 8 p a (take x.shrink.count x.shrink.items) in
    record {
      buffers = h ∙ ap (λ (y : WaitAnswer). wait_said y s p a (take x.shrink.count x.shrink.items) x.node) (sym e);
      becomes = λ d. g (ap is_waited (sym e) ∙ and_left (is_waited x.answer) room d) (and_right (is_waited x.answer) room d);
    }

pub shown_as_lem : (s p a : List ℕ) (x : NodeShown) (w : ShownAnswer) → x.answer ≡ w → {t q b : List ℕ} {r : ℕ}
    → left r t q b ≡ show_said w s p a (view_starts (take x.count x.starts)) x.node
    → (is_shown w ≡ true → rows_room worker_bytes 54 p a (view_starts (take x.count x.starts)) ≡ true → Becomes s t x.node)
    → ShowPut s t p q a b x r
shown_as_lem s p a x w e h g =
    let room = rows_room worker_bytes 54 p a (view_starts (take x.count x.starts)) in
    record {
      buffers = h ∙ ap (λ (y : ShownAnswer). show_said y s p a (view_starts (take x.count x.starts)) x.node) (sym e);
      becomes = λ d. g (ap is_shown (sym e) ∙ and_left (is_shown x.answer) room d) (and_right (is_shown x.answer) room d);
    }
