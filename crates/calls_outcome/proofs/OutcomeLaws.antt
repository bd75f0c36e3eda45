-- What the outcome of a proposal in place is of the image, one law for each way out. Assumes nothing.
use Prim.Native.Nat.{ℕ, ◌+◌, ◌*◌, ◌≤◌, ◌<◌}
use mathlib.Core.Bool.{Bool, true, false}
use mathlib.Core.Path.{◌≡◌, refl, sym, ap, subst, ◌∙◌}
use mathlib.Core.List.{List}
use lib.Dec.{eqb}
use lib.ListN.{length, take}
use native.Mathlib.Omega.{arith}
use Rattle.spec.specs.Lists.{lead}
use Rattle.spec.specs.Keys.{Key}
use Rattle.spec.specs.Layout.Format.{Bytes, number_at}
use Rattle.spec.specs.Node.Ack.{leaves}
use Rattle.spec_laws.proofs.Lists.{not_both}
use Rattle.node_shard.specs.declared.Held.{Held}
use Rattle.node_shard.specs.declared.OutcomeAnswer.TheVariants as O
use Rattle.node_shard.specs.Answers.{OutcomesHeld}
use Rattle.node_header.specs.declared.Node.{Node}
use Rattle.node_header.specs.declared.NodeSettled.{NodeSettled}
use Rattle.node_header.specs.declared.Proposal.{Proposal}
use Rattle.node_header.specs.View.{other_key, kept_as, with_shard}
use Rattle.node_header.specs.Formed.{formed_node}
use Rattle.node_header.specs.Arrays.{Trims}
use Rattle.node_header.specs.Slots.{Keeps}
use Rattle.node_header.specs.Answers.{proposal_of, OutcomesIn, OutcomesNode}
use Rattle.node_header.proofs.Formed.{formed-lent}
use Rattle.node_header.proofs.Arrays.{keeps-all, keeps-put}
use Rattle.node_header.proofs.Calls.{outcome_malformed, outcome-formed, outcome-absent, outcome-done}
use Rattle.image_header_row.specs.Rows.{held_row_at}
use Rattle.image_header.specs.Image.{header_lent, node_at}
use Rattle.image_header.specs.Becomes.{HeaderWrites}
use Rattle.wire_write.specs.Written.{key_given}
use Rattle.calls_header.specs.Asked.{After}
use Rattle.calls_header.specs.Outcomes.{proposal_at, outcome_number, is_settled, OutcomesImage}
use Rattle.calls_header.proofs.Calls.{settles_image}
use Rattle.image_header_check.specs.Rows.{Counts}
use Rattle.image_header_set.specs.Row.{RowBecomes}
use Rattle.image_header_set.proofs.Place.{in_array, place_is, place_out, held_in, place_in, held-is, peers-few, few-there, replicas-few}
use Rattle.image_header_set.proofs.SetLaws.{row_back}
use Rattle.calls_outcome.specs.Settled.{OutcomesRow}

id-is : (s : List ℕ) → (node_at s).id.0 ≡ number_at 8 s 0
unfolding node_at
id-is s = refl

module _ (s : List ℕ) (lent : header_lent s ≡ true) (name : List ℕ) (shard : ℕ) (k : Key) (key : k ≡ key_given name shard) (epoch peer command applied : ℕ) where
  abbrev Image : List ℕ → ℕ → Type 0
  Image t r = OutcomesImage s t name shard epoch peer command applied r

  image_of : (t : List ℕ) (r : ℕ) (after : NodeSettled) → OutcomesNode (node_at s) k epoch peer (proposal_at command) (eqb applied 1) after
      → Keeps (node_at s) after.node → After s t after.node (is_settled after.answer) (outcome_number after.answer) r → Image t r
  image_of t r after call keeps p =
      settles_image s (record { found = true; node = node_at s }) (rw lent) refl name shard k key t epoch peer command applied r (proposal_at command) refl after
      call keeps after.answer refl p.answer p.image p.becomes

  pub outcome_bad : formed_node (node_at s) ≡ false → Image s 24
  outcome_bad bad =
      image_of s 24 (record { answer = O.Refused 24; node = node_at s })
      (outcome_malformed (node_at s) k epoch peer (proposal_at command) (eqb applied 1) (λ st. sym bad ∙ formed-lent (node_at s) st)) (keeps-all (node_at s))
      (record { answer = refl; image = refl; becomes = λ d. not_both false d refl })

  module _ (formed : formed_node (node_at s) ≡ true) (count : ℕ) (counts : Counts s count) (at : ℕ) (is : at ≡ lead (other_key k) (take count (node_at s).held)) where
    well : (left : Bool) → left ≡ leaves (proposal_of (proposal_at command)) (eqb applied 1) → (m : Node)
        → OutcomesIn (node_at s) k epoch peer left m → OutcomesNode (node_at s) k epoch peer (proposal_at command) (eqb applied 1) (record { answer = O.Noted; node = m })
    well left e m w = outcome-formed (node_at s) k epoch peer (proposal_at command) (eqb applied 1) (λ st. sym formed ∙ formed-lent (node_at s) st) left e m w

    pub outcome-none : count ≤ at → (t : List ℕ) → HeaderWrites s t (node_at s) → Image t 0
    outcome-none h t put =
        let left = leaves (proposal_of (proposal_at command)) (eqb applied 1) in
        image_of t 0 (record { answer = O.Noted; node = node_at s })
        (well left refl (node_at s)
        (outcome-absent (node_at s) k epoch peer left (in_array s count counts) at (place_is s count counts k at is) (place_out s count counts at h)))
        (keeps-all (node_at s))
        (record { answer = refl; image = put.image; becomes = λ d. put.becomes })

    pub few_here : at < count → number_at 8 s (48 + 1280 * at + 88) ≤ 32
    few_here lt = few-there s count counts at lt formed

    pub outcome-at : at < count → (me : ℕ) → me ≡ number_at 8 s 0 → (left : Bool) → left ≡ leaves (proposal_of (proposal_at command)) (eqb applied 1)
        → (m t : List ℕ) → OutcomesRow s m (48 + 1280 * at) me epoch peer left → Bytes m → HeaderWrites m t (node_at m) → Image t 0
    outcome-at lt me me-is left left_is m t row bytes put =
        let le = in_array s count counts in
        let here = place_is s count counts k at is in
        let in_use = place_in s count counts at lt in
        let h = row.held in
        let e = held-is s count counts at lt in
        let settles = subst (λ (x : Held). OutcomesHeld x (node_at s).id.0 epoch peer left h) (sym e)
        (subst (λ (i : ℕ). OutcomesHeld (held_row_at s (48 + 1280 * at)).held i epoch peer left h) (me-is ∙ sym (id-is s)) row.settles) in
        let f = peers-few s count counts at lt formed in
        let r = replicas-few s count counts at lt formed in
        let c : h.count ≡ (held_in s count counts at lt).count = row.count ∙ ap (λ (x : Held). x.count) (sym e) in
        let d : h.holders ≡ (held_in s count counts at lt).holders = row.holders ∙ ap (λ (x : Held). x.holders) (sym e) in
        let trims : Trims h h = record { count = omega arith; holders = omega arith; seen = λ k l v. refl } in
        let node = with_shard (node_at s) at h in
        let w = row_back s m t count counts at lt h row.becomes bytes put in
        image_of t 0 (record { answer = O.Noted; node = node })
        (well left left_is node (outcome-done (node_at s) k epoch peer left le at here in_use h settles h trims node refl))
        (keeps-put (node_at s) le at in_use h h trims node refl)
        (record { answer = refl; image = w.image; becomes = λ q. w.becomes })
