-- Laws of a worker's step over the images, one for each way out. Assumes nothing.
use Prim.Native.Nat.{ℕ, ◌≤◌, ◌<◌}
use mathlib.Core.Path.{◌≡◌, refl, sym, ap, subst, ◌∙◌}
use mathlib.Core.Bool.{Bool, true, false, cond}
use mathlib.Core.List.{List}
use borrow.Author.Tests.{lt-leb, le-leb}
use lib.Seq.{sets}
use Rattle.spec.specs.Limits.{max_name}
use Rattle.spec.specs.Lists.{◌and◌}
use Rattle.spec.specs.Keys.{Key}
use Rattle.spec.specs.declared.Metric.{Metric}
use Rattle.spec.specs.Layout.Format.{bytes_of}
use Rattle.spec_laws.proofs.Lists.{not_both, and_left}
use Rattle.wire_write.specs.Written.{text_fits}
use Rattle.node_admit.specs.declared.Step.TheVariants as S
use Rattle.node_header.specs.declared.StepAnswer.TheVariants as stepped
use Rattle.node_header.proofs.Calls.{step-absent}
use Rattle.node_header.proofs.Formed.{formed-lent}
use Rattle.node_send.specs.declared.Request.TheVariants as request
use Rattle.node_lent.specs.declared.Lent.TheVariants as L
use Rattle.node_lent.specs.Lend.{place_of}
use Rattle.node_step.proofs.Requests.{unfit, gone}
use Rattle.image_header.specs.Image.{header_lent, node_at}
use Rattle.image_header.proofs.Image.{lent_long}
use Rattle.calls_parts.specs.Answer.{answer_lent, number_put}
use Rattle.image_node.specs.Lent.{lends_state, lent_store_in}
use Rattle.image_node_check.specs.Find.{AbsentIn, FindsIn}
use Rattle.calls_worker.specs.Steps.{Asking, decodes, key_of, metric_of, Outputs, outputs, StepAsked, StepsImage}
use Rattle.calls_worker.proofs.Some.{some_step}

-- ---- the operands

module _ (w : Asking) (b : Bool) (e : b ≡ text_fits max_name w.name) where
  pub bad_name : b ≡ false → decodes w ≡ false
  unfolding decodes ◌and◌
  bad_name t = rw (sym e ∙ t) refl

  module _ (t : b ≡ true) where
    pub bad_metric : 1 < w.metric → decodes w ≡ false
    unfolding decodes ◌and◌
    bad_metric m = rw (sym e ∙ t) (rw (lt-leb w.metric 1 m) refl)

    pub decoded : w.metric ≤ 1 → decodes w ≡ true
    unfolding decodes ◌and◌
    decoded m = rw (sym e ∙ t) (rw (le-leb w.metric 1 m) refl)

-- ---- the ways out

module _ (h s : List ℕ) (w : Asking) (o : Outputs) where
  pub undecoded : decodes w ≡ false → StepsImage h s w o o 21
  undecoded e = record {
    undecoded = λ z. record { answer = refl; kept = refl };
    unlent = λ z i. not_both (decodes w) z e;
    asked = λ z i. not_both (decodes w) z e;
  }

  module _ (e : decodes w ≡ true) (k : Key) (name : k ≡ key_of w) where
    abbrev Image : (p : Outputs) → ℕ → Type 0
    Image p r = StepsImage h s w o p r

    -- the state is lent, or is found malformed below
    answered : (p : Outputs) (r : ℕ) → (lends_state h s k ≡ false → (r ≡ 24) × (p ≡ o))
        → (lends_state h s k ≡ true → StepAsked (node_at h) (lent_store_in s (node_at h) k) k w.epoch w.peer (metric_of w.metric) o p r) → Image p r
    answered p r f g =
        subst (λ (i : Key). (lends_state h s i ≡ false → (r ≡ 24) × (p ≡ o))
        → (lends_state h s i ≡ true → StepAsked (node_at h) (lent_store_in s (node_at h) i) i w.epoch w.peer (metric_of w.metric) o p r) → Image p r) (sym name)
        (λ f g. record {
          undecoded = λ z. not_both (decodes w) e z;
          unlent = λ z i. record { answer = (f i).0; kept = (f i).1 };
          asked = λ z i. g i;
        }) f g

    pub lent-asked : lends_state h s k ≡ true → (p : Outputs) (r : ℕ) → StepAsked (node_at h) (lent_store_in s (node_at h) k) k w.epoch w.peer (metric_of w.metric) o p r
        → Image p r
    lent-asked l p r a = answered p r (λ z. not_both (lends_state h s k) l z) (λ z. a)

    module _ (m : Metric) (is-metric : m ≡ metric_of w.metric) where
      pub found-asked : lends_state h s k ≡ true → (p : Outputs) (r : ℕ) → StepAsked (node_at h) (lent_store_in s (node_at h) k) k w.epoch w.peer m o p r → Image p r
      found-asked l p r a =
          lent-asked l p r (subst (λ (x : Metric). StepAsked (node_at h) (lent_store_in s (node_at h) k) k w.epoch w.peer x o p r) is-metric a)

    pub malformed : FindsIn h s k L.Malformed → Image o 24
    unfolding lends_state
    malformed f =
        answered o 24 (λ z. (refl, refl))
        (λ l.
        let bad = f l in
        let step = some_step h (lent_long h (and_left (header_lent h) _ l)) k w.epoch w.peer in
        record {
          short = λ z. record { answer = λ t. ap (λ (b : Bool). cond b 23 24) (sym (bad t)); kept = refl };
          told = λ z. record {
            step = step.answer;
            sent = request.Refused 24;
            steps = step.is;
            requests = unfit (node_at h) (lent_store_in s (node_at h) k) k L.Malformed bad w.epoch w.peer (metric_of w.metric) o.request refl;
            number = refl;
            answer = refl;
          };
        })

    pub absent : AbsentIn h s k → (a : List ℕ) (r : ℕ) → r ≡ cond (answer_lent o.answer) 1 23 → a ≡ number_put o.answer 0 → Image (outputs o.request a) r
    unfolding number_put
    absent d a r rs left =
        let g = d.absent in
        lent-asked d.lends (outputs o.request a) r
        (record {
          short = λ z. record {
            answer = λ t. rs ∙ ap (λ (b : Bool). cond b 1 23) z ∙ ap (λ (b : Bool). cond b 23 24) (sym (g.lent t));
            kept = ap (outputs o.request) (left ∙ ap (λ (b : Bool). cond b (sets o.answer 0 (bytes_of 8 0)) o.answer) z);
          };
          told = λ z. record {
            step = stepped.Stepped S.Stop;
            sent = request.Unsent;
            steps = step-absent (node_at h) k w.epoch w.peer (λ t. sym g.formed ∙ formed-lent (node_at h) t) g.inside (place_of (node_at h) k) refl g.gone;
            requests = gone (node_at h) (lent_store_in s (node_at h) k) k L.Absent g w.epoch w.peer (metric_of w.metric) o.request refl;
            number = rs ∙ ap (λ (b : Bool). cond b 1 23) z;
            answer = left;
          };
        })
