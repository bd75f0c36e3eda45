-- The whole call: what is refused before the command is looked at, and what settling comes to. Assumes nothing.
use Prim.Native.Nat.{ℕ, ◌≤◌}
use mathlib.Core.Path.{◌≡◌, refl, sym, ap, subst, ◌∙◌}
use mathlib.Core.Bool.{Bool, true, false}
use mathlib.Core.List.{List, []}
use mathlib.Core.Option.{none, some}
use lib.ListN.{length}
use lib.Dec.{leb}
use borrow.Author.Tests.{leb-true}
use Rattle.spec.specs.Lists.{◌and◌}
use Rattle.spec.specs.Layout.Request as request
use Rattle.spec.specs.Layout.Request.{decode_request}
use Rattle.spec_laws.proofs.Lists.{and_left}
use Rattle.std.specs.Prelude.{Err}
use Rattle.map_tables.specs.declared.Refusal.TheVariants.{Undecodable, Malformed}
use Rattle.map_tables.specs.declared.Request.{Request}
use Rattle.map_tables.specs.declared.ShardKey.{ShardKey}
use Rattle.map_tables.specs.declared.Verdict.{Verdict}
use Rattle.map_request.specs.Read.{LoadedAll, Within}
use Rattle.map_check.specs.Lent.{well_formed_lent}
use Rattle.map_check.proofs.Formed.{lent_tables}
use Rattle.map_apply.specs.Calls.{AppliesBytes}
use Rattle.map_apply.proofs.Ways as ways
use Rattle.image_map.specs.Image.{map_at, map_lent, codes_listed}
use Rattle.calls_map.specs.Calls.{noted, AppliesTo}
use Rattle.calls_map.proofs.Apply.{unlent_way, unlent_21, unlent_24, kept_way, written_way}
use Rattle.calls_map.proofs.Formed.{image_formed}
use Rattle.image_map_put.specs.Few.{Few}
use Rattle.calls_decide.specs.Decides.{Ready}
use Rattle.calls_apply.specs.Settles.{Settles}

abbrev no_key : ShardKey
no_key = record { collection = record { bytes = []; len = 0 }; shard = 0 }

-- a map that passed its test (24), and a request that was read
pub record Called (s bytes : List ℕ) (q : Request) : Type 0 where
  pub given : map_lent s ≡ true
  pub formed : well_formed_lent (map_at s) ≡ true
  pub loaded : LoadedAll bytes (record { found = true; request = q; next = length bytes })

pub room : (s : List ℕ) → map_lent s ≡ true → 26536 ≤ length s
unfolding map_lent
room s e = leb-true 26536 (length s) (and_left (leb 26536 (length s)) (codes_listed s) e)

pub few_of : (s : List ℕ) → map_lent s ≡ true → well_formed_lent (map_at s) ≡ true → Few s
unfolding map_at
few_of s e w = let t = lent_tables (map_at s) w in record { long = room s e; nodes = t.nodes; collections = t.collections; shards = t.shards.count; sessions = t.sessions }

-- a map that passed its test (24), and a request within its limits
pub ready : (s : List ℕ) (q : Request) → map_lent s ≡ true → well_formed_lent (map_at s) ≡ true → Within q → Ready s q
ready s q given formed within = record { few = few_of s given formed; settleable = ways.settleable (map_at s) q within formed }

-- and it passes the test again
pub settled-formed : (s t : List ℕ) (q : Request) (r : ℕ) → map_lent s ≡ true → well_formed_lent (map_at s) ≡ true → Settles s t q r
    → (map_lent t ≡ true) × (well_formed_lent (map_at t) ≡ true)
settled-formed s t q r given formed x = go (noted r) refl
  where
    go : (b : Bool) → noted r ≡ b → (map_lent t ≡ true) × (well_formed_lent (map_at t) ≡ true)
    go false n = subst (λ (u : List ℕ). (map_lent u ≡ true) × (well_formed_lent (map_at u) ≡ true)) (sym (x.kept n)) (given, formed)
    go true n =
        let b = (x.written n).becomes (room s given) in
        (b.lent, ap well_formed_lent b.held ∙ image_formed x.after.map x.settles.counted x.settles.formed)

module _ (s bytes : List ℕ) where
  pub undecoded_way : decode_request bytes ≡ none → AppliesTo s s bytes 21
  undecoded_way n = go (map_lent s) refl
    where
      go : (b : Bool) → map_lent s ≡ b → AppliesTo s s bytes 21
      go false f = unlent_way s bytes 21 f (unlent_21 bytes n)
      go true f =
          let v : Verdict = record { answer = Err Undecodable; key = no_key } in
          kept_way s bytes 21 (map_at s) (record { verdict = v; map = map_at s }) f refl (ways.undecoded (map_at s) bytes v n refl) refl refl

  module _ (q : request.Request) (read : decode_request bytes ≡ some q) where
    pub lent_not : map_lent s ≡ false → AppliesTo s s bytes 24
    lent_not f = unlent_way s bytes 24 f (unlent_24 bytes q read)

    pub malformed_way : map_lent s ≡ true → well_formed_lent (map_at s) ≡ false → AppliesTo s s bytes 24
    malformed_way given w =
        let v : Verdict = record { answer = Err Malformed; key = no_key } in
        kept_way s bytes 24 (map_at s) (record { verdict = v; map = map_at s }) given refl (ways.unformed (map_at s) bytes q read v w refl) refl refl

  module _ (q : Request) (c : Called s bytes q) where
    pub ready_for : Ready s q
    ready_for = ready s q c.given c.formed (c.loaded.within refl)

    module _ (t : List ℕ) (r : ℕ) (x : Settles s t q r) where
      called : AppliesBytes (map_at s) bytes x.after
      called = ways.settled (map_at s) bytes q c.loaded.padding c.loaded.read x.after c.formed x.settles

      pub settled_way : AppliesTo s t bytes r
      settled_way = go (noted r) refl
        where
          go : (b : Bool) → noted r ≡ b → AppliesTo s t bytes r
          go true n = written_way s bytes r (map_at s) x.after c.given refl called x.answer t n (x.written n)
          go false n =
              subst (λ (u : List ℕ). AppliesTo s u bytes r) (sym (x.kept n)) (kept_way s bytes r (map_at s) x.after c.given refl called x.answer n)
