-- The three ways through apply on bytes: 21, 24, and the command. Assumes nothing.
use Prim.Native.Nat.{ℕ}
use mathlib.Core.Path.{◌≡◌, refl, sym, ap, ◌∙◌}
use mathlib.Core.Bool.{Bool, true, false, cond}
use mathlib.Core.List.{List, []}
use mathlib.Core.Option.{Option, none, some}
use Rattle.spec.specs.Refusals.{undecodable, malformed}
use Rattle.spec.specs.Layout.Request as request
use Rattle.spec.specs.Layout.Request.{decode_request}
use Rattle.spec.specs.Map.Tables as tables
use Rattle.spec.specs.Map.Apply as define
use Rattle.spec.specs.Map.Calls.{refused_with}
use Rattle.map_tables.specs.View.{answer_of, view_map, view_request}
use Rattle.map_tables.specs.declared.ShardMap.{ShardMap}
use Rattle.map_tables.specs.declared.Verdict.{Verdict}
use Rattle.map_tables.specs.declared.Request.{Request}
use Rattle.map_request.specs.Read.{Within}
use Rattle.map_check.specs.Lent.{well_formed_lent}
use Rattle.map_check.proofs.Formed.{lent_tables, lent-formed}
use Rattle.map_apply.specs.Applied.{Settleable, SettledAs}
use Rattle.map_apply.specs.declared.Settled.{Settled}
use Rattle.map_apply.specs.Calls.{apply_lent, AppliesBytes}

module _ (m : ShardMap) (bytes : List ℕ) where
  pub undecoded : (v : Verdict) → decode_request bytes ≡ none → answer_of v ≡ tables.refused undecodable
      → AppliesBytes m bytes (record { verdict = v; map = m })
  undecoded v e a = record {
    answer = a ∙ sym (ap (λ (o : Option request.Request). (apply_lent m o).answer) e);
    map = sym (ap (λ (o : Option request.Request). (apply_lent m o).map) e);
    kept = λ _. refl;
    counted = lent_tables m;
    formed = lent-formed m;
  }

  module _ (q : request.Request) (e : decode_request bytes ≡ some q) where
    -- the definition's call on what was read, by the test of the map
    pub called : (b : Bool) → well_formed_lent m ≡ b
        → apply_lent m (decode_request bytes) ≡ cond b (define.apply (view_map m) q) (refused_with (view_map m) malformed)
    called b w =
        ap (apply_lent m) e ∙ ap (λ (x : Bool). cond x (define.apply (view_map m) q) (refused_with (view_map m) malformed)) w

    pub unformed : (v : Verdict) → well_formed_lent m ≡ false → answer_of v ≡ tables.refused malformed
        → AppliesBytes m bytes (record { verdict = v; map = m })
    unformed v w a = record {
      answer = a ∙ sym (ap (λ (x : define.Applied). x.answer) (called false w));
      map = sym (ap (λ (x : define.Applied). x.map) (called false w));
      kept = λ _. refl;
      counted = lent_tables m;
      formed = lent-formed m;
    }

  -- the command, as it was loaded
  module _ (x : Request) (padding : List ℕ) (e : decode_request bytes ≡ some (view_request x padding)) where
    pub settled : (s : Settled) → well_formed_lent m ≡ true → SettledAs m x s → AppliesBytes m bytes s
    settled s w q = record {
      answer = q.answer padding ∙ sym (ap (λ (x : define.Applied). x.answer) (called (view_request x padding) e true w));
      map = q.map padding ∙ sym (ap (λ (x : define.Applied). x.map) (called (view_request x padding) e true w));
      kept = λ h. q.kept padding (ap (λ (x : define.Applied). x.map) (sym (called (view_request x padding) e true w)) ∙ h);
      counted = λ _. q.counted;
      formed = λ _. q.formed;
    }

pub settleable : (m : ShardMap) (x : Request) → Within x → well_formed_lent m ≡ true → Settleable m x
settleable m x within w = record {
  counted = lent_tables m w;
  formed = lent-formed m w;
  lists = within.counted.lists;
  within = within.fits [];
}
