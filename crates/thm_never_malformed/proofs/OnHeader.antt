-- The calls that are lent the header alone leave intact images intact, and do not answer 24: a fresh node, a grant, a wait, an ack, an outcome.
-- Assumes nothing.
use Prim.Native.Nat.{ℕ, ◌≤◌, ◌<◌}
use mathlib.Core.Path.{◌≡◌, refl, sym, ap, subst, ◌∙◌}
use mathlib.Core.Bool.{Bool, true}
use mathlib.Core.Logic.{⊎_elim}
use mathlib.Core.List.{List}
use native.Mathlib.Omega.{arith}
use lib.Dec.{eqb}
use lib.ListN.{length, take}
use borrow.Author.Tests.{eqb-false}
use Rattle.spec.specs.Lists.{◌and◌}
use Rattle.spec.specs.Node.Held as held
use Rattle.spec.specs.declared.DataNodeId.{DataNodeId}
use Rattle.spec_laws.proofs.Lists.{by-test}
use Rattle.spec_laws.proofs.Node.Formed.{FormedNode, formed-header}
use Rattle.spec_laws.proofs.Node.KeptCalls.{grant_with_kept, wait_with_kept, ack_with_kept, outcome_with_kept}
use Rattle.node_shard.specs.declared.WaitAnswer.{WaitAnswer}
use Rattle.node_shard.specs.declared.WaitAnswer.TheVariants as W
use Rattle.node_shard.specs.Acks.{sent_of}
use Rattle.node_header.specs.declared.Node.{Node}
use Rattle.node_header.specs.View.{Stores}
use Rattle.node_header.specs.Formed.{lent_node}
use Rattle.node_header.specs.Slots.{slots_of}
use Rattle.node_header.specs.Answers.{Answered, WaitAnswered, proposal_of}
use Rattle.node_header.proofs.Lists.{by_case}
use Rattle.node_shard.specs.declared.AckAnswer.{AckAnswer}
use Rattle.node_shard.specs.declared.OutcomeAnswer.{OutcomeAnswer}
use Rattle.node_header.specs.declared.GrantAnswer.{GrantAnswer}
use Rattle.image_header.specs.Image.{header_lent, node_at}
use Rattle.image_store.proofs.Stored.{lt_or_ge}
use Rattle.image_node.specs.Lent.{stores_size}
use Rattle.image_node.specs.State.{stores_in, state_at}
use Rattle.wire_write.specs.Written.{key_given}
use Rattle.calls_header.specs.Asked.{Asked}
use Rattle.calls_header.specs.Leaves.{LeavesSlots, StaysFormed}
use Rattle.calls_header.specs.Fresh.{FreshImage, Freshens}
use Rattle.calls_header.specs.Grants.{grant_number, is_granted, granted, Grants, GrantsImage}
use Rattle.calls_header.specs.Waits.{Left, rows_room, id_bytes, wait_said, wait_writes, waited, Waits, WaitsImage}
use Rattle.calls_header.specs.Acks.{sent_at, ack_number, is_acked, acked, Acks, AcksImage}
use Rattle.calls_header.specs.Outcomes.{proposal_at, outcome_number, is_settled, settled, Outcomes, OutcomesImage}
use Rattle.image_header.proofs.Image.{lent_long}
use Rattle.calls_header.proofs.Kept.{wait_left_lem}
use Rattle.thm_never_malformed.specs.Intact.{Intact}
use Rattle.thm_never_malformed.proofs.Pairs.{StoreFits, Pairs}
use Rattle.thm_never_malformed.proofs.Lent.{lent-node, state_formed, state_pairs, intact_of}
use Rattle.thm_never_malformed.proofs.Keeps.{Keeps}
use Rattle.thm_never_malformed.proofs.Changes.{Quiet, grant_quiet, wait_quiet, ack_quiet, outcome_quiet}
use Rattle.thm_never_malformed.proofs.Refused.{Fine, wait_number, grant-fine, wait_fine, ack_fine, outcome-fine}

-- ---- a fresh node

pub fresh-made : (before h s : List ℕ) (id incarnation r : ℕ) → FreshImage before h id incarnation r → stores_size ≤ length s → Intact h s
fresh-made before h s id incarnation r f size =
    let st = stores_in s in
    intact_of h s f.leaves.lent f.formed size
    (subst (λ (is : List ℕ). Pairs (StoreFits s) is (state_at h s).held) (sym (f.leaves.slots_are st)) tt)

-- whatever the stores hold
pub fresh_intact : (before h s : List ℕ) (id incarnation : ℕ) → Freshens before h id incarnation 0 → stores_size ≤ length s → Intact h s
fresh_intact before h s id incarnation f size =
    ⊎_elim (λ (q : length before < 10288). let z = (f.short q).0 in absurd (omega arith))
    (λ (q : 10288 ≤ length before). fresh-made before h s id incarnation 0 (f.made q) size) (lt_or_ge (length before) 10288)

module _ (h s : List ℕ) (i : Intact h s) where
  pub on-fresh : (h' : List ℕ) (id incarnation r : ℕ) → Freshens h h' id incarnation r → Keeps true h' s r
  on-fresh h' id incarnation r f =
      let m = f.made (lent_long h i.lent) in
      record { intact = fresh-made h h' s id incarnation r m i.size; fine = λ t z. let a = m.answer in omega arith }

  -- ---- the header written back, with its slots

  abbrev st : Stores
  st = stores_in s

  abbrev test : Bool
  test = lent_node st (node_at h)

  left : (h' : List ℕ) (after : Stores → held.Node) → LeavesSlots h h' after → StaysFormed h h' after → FormedNode (after st)
      → Quiet (state_at h s) (after st) → Intact h' s
  left h' after l f formed quiet =
      intact_of h' s l.lent (f i.formed st (formed-header (after st) formed)) i.size
      (subst (λ (is : List ℕ). Pairs (StoreFits s) is (state_at h' s).held) (sym (l.slots_are st))
      (subst (λ (v : held.Node). Pairs (StoreFits s) (slots_of (node_at h)) v.held) (sym (l.read st)) (quiet s (slots_of (node_at h)) (state_pairs h s i))))

  -- or as it was
  pub stays : (h' : List ℕ) → h' ≡ h → Intact h' s
  stays h' e = subst (λ (t : List ℕ). Intact t s) (sym e) i

  -- 21, and past it
  asked : (h' : List ℕ) (unread : Bool) (r : ℕ) (Same Called : Type 0) → Asked unread (header_lent h) r Same Called → (Same → h' ≡ h)
      → (Called → Keeps true h' s r) → Keeps true h' s r
  asked h' unread r Same Called a same called =
      by_case unread
      (λ e. let q = a.undecodable e in record { intact = stays h' (same q.1); fine = λ t z. let n = q.0 in omega arith })
      (λ e. called (a.called e i.lent))

  pub on-grant : (h' : List ℕ) (incarnation sent lease r : ℕ) → Grants h h' incarnation sent lease r → Keeps true h' s r
  on-grant h' incarnation sent lease r a =
      asked h' _ r (h' ≡ h) (GrantsImage h h' incarnation sent lease r) a (λ q. q)
      (λ g. record {
        intact =
            by_case (is_granted g.after.answer)
            (λ e.
            left h' (λ z. (granted h incarnation sent lease z).after) (g.leaves e) g.formed
            (grant_with_kept (state_at h s) (state_formed h s i) test incarnation sent lease) (grant_quiet (state_at h s) test incarnation sent lease))
            (λ e. stays h' (g.stays e).bytes);
        fine = λ t z.
            eqb-false _ 24 (grant-fine (state_at h s) test (lent-node h s i st) incarnation sent lease)
            (sym (ap (λ (x : Answered GrantAnswer). grant_number x.answer) (g.call st)) ∙ sym g.answer ∙ z);
      })

  pub on_ack_lem : (h' name reply : List ℕ) (shard epoch peer code r : ℕ) → Acks h h' name reply shard epoch peer code r → Keeps true h' s r
  on_ack_lem h' name reply shard epoch peer code r a =
      asked h' _ r (h' ≡ h) (AcksImage h h' name reply shard epoch peer code r) a (λ q. q)
      (λ g. record {
        intact =
            by_case (is_acked g.after.answer)
            (λ e.
            left h' (λ z. (acked h name reply shard epoch peer code z).after) (g.leaves e) g.formed
            (ack_with_kept (state_at h s) (state_formed h s i) test (key_given name shard) epoch peer (sent_of (sent_at code)) reply)
            (ack_quiet (state_at h s) test (key_given name shard) epoch peer (sent_of (sent_at code)) reply))
            (λ e. stays h' (g.stays e).bytes);
        fine = λ t z.
            eqb-false _ 24 (ack_fine (state_at h s) test (lent-node h s i st) (key_given name shard) epoch peer (sent_of (sent_at code)) reply)
            (sym (ap (λ (x : Answered AckAnswer). ack_number x.answer) (g.call st)) ∙ sym g.answer ∙ z);
      })

  pub on-outcome : (h' name : List ℕ) (shard epoch peer command applied r : ℕ) → Outcomes h h' name shard epoch peer command applied r → Keeps true h' s r
  on-outcome h' name shard epoch peer command applied r a =
      asked h' _ r (h' ≡ h) (OutcomesImage h h' name shard epoch peer command applied r) a (λ q. q)
      (λ g. record {
        intact =
            by_case (is_settled g.after.answer)
            (λ e.
            left h' (λ z. (settled h name shard epoch peer command applied z).after) (g.leaves e) g.formed
            (outcome_with_kept (state_at h s) (state_formed h s i) test (key_given name shard) epoch peer (proposal_of (proposal_at command)) (eqb applied 1))
            (outcome_quiet (state_at h s) test (key_given name shard) epoch peer (proposal_of (proposal_at command)) (eqb applied 1)))
            (λ e. stays h' (g.stays e).bytes);
        fine = λ t z.
            eqb-false _ 24 (outcome-fine (state_at h s) test (lent-node h s i st) (key_given name shard) epoch peer (proposal_of (proposal_at command)) (eqb applied 1))
            (sym (ap (λ (x : Answered OutcomeAnswer). outcome_number x.answer) (g.call st)) ∙ sym g.answer ∙ z);
      })

  -- ---- a wait writes the header only where there is room for its peers

  said-fine : (w : WaitAnswer) (t p a : List ℕ) (l : List DataNodeId) (n : Node) → Fine (wait_number w) → Fine (wait_said w t p a l n).number
  said-fine W.Done t p a l n f = by-test (λ (x : Left). Fine x.number) (rows_room id_bytes 8 p a l) (λ q. refl) (λ q. refl)
  said-fine W.Waiting t p a l n f = by-test (λ (x : Left). Fine x.number) (rows_room id_bytes 8 p a l) (λ q. refl) (λ q. refl)
  said-fine (W.NotPrimary own) t p a l n f = refl
  said-fine (W.Refused k) t p a l n f = f

  pub on_wait_lem : (h' p q a b name : List ℕ) (shard epoch offset now timeout r : ℕ) → Waits h h' p q a b name shard epoch offset now timeout r → Keeps true h' s r
  on_wait_lem h' p q a b name shard epoch offset now timeout r w =
      asked h' _ r ((h' ≡ h) × (q ≡ p) × (b ≡ a)) (WaitsImage h h' p q a b name shard epoch offset now timeout r) w (λ e. e.0)
      (λ g. record {
        intact =
            by_case (wait_writes p a g.after)
            (λ e.
            left h' (λ z. (waited h name shard epoch offset now timeout z).after) (g.leaves e) g.formed
            (wait_with_kept (state_at h s) (state_formed h s i) test now timeout (key_given name shard) epoch offset)
            (wait_quiet (state_at h s) test (key_given name shard) epoch now timeout offset))
            (λ e. stays h' (ap (λ (x : Left). x.header) g.buffers ∙ wait_left_lem g.after.answer h p a _ g.after.node e));
        fine = λ t z.
            eqb-false _ 24
            (said-fine g.after.answer h p a (take g.after.shrink.count g.after.shrink.items) g.after.node
            (ap (λ (x : WaitAnswered). eqb (wait_number x.answer) 24) (g.call st)
            ∙ wait_fine (state_at h s) test (lent-node h s i st) now timeout (key_given name shard) epoch offset))
            (sym (ap (λ (x : Left). x.number) g.buffers) ∙ z);
      })
