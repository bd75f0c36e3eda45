-- Paper 02, 2.9, 'List exactly those ids, lowest first': a node is listed if and only if the map has the collection, the node is alive, and
-- place answers otherwise with it marked dead; beside it stands that answer. Ids rise. Assumes nothing.
use Prim.Native.Nat.{ℕ}
use native.Mathlib.Omega.{arith}
use mathlib.Core.Path.{◌≡◌, refl, sym, ap, ◌∙◌, subst}
use mathlib.Core.Bool.{Bool, true, false, cond, not}
use mathlib.Core.Logic.{◌⊎◌, inl, inr}
use mathlib.Core.List.{List, [], ◌∷◌}
use mathlib.Core.Option.{Option, none, some}
use lib.Dec.{ltb}
use borrow.Author.Tests.{not-true, lt-ltb}
use Rattle.spec.specs.Lists.{◌and◌, any, find, collect, rising}
use Rattle.spec.specs.Keys.{Name}
use Rattle.spec.specs.Map.Tables.{NodeInfo, Spec, Collection, Map}
use Rattle.spec.specs.Map.Create.{is_named, has_collection}
use Rattle.spec.specs.Map.Apply.{node_below}
use Rattle.spec.specs.Map.Place.{Placed, place}
use Rattle.spec.specs.Map.WellFormed.{well_formed_map}
use Rattle.spec_laws.proofs.Lists.{by-test, not_both, and_true, and_left, and_right, none_some, some_same}
use Rattle.spec_laws.proofs.Rising.{ByKey, Below, rising_tail, rising_cons}
use Rattle.spec_laws.proofs.Map.Orders.{nodes_by_id, by_key_lem, numbers}
use Rattle.spec_laws.proofs.Map.Lightest.{Has, above}
use Rattle.spec_laws.proofs.Map.WellFormed.{map-parts}
use Rattle.spec_losses.specs.Losses.{Loss, marked_dead, same_placed, loss_of, matters, losses_of, losses_in, losses, lost, losses_call}
use Rattle.spec_losses.proofs.Same.{Answered, place-answered, placed-apart, apart-placed}

-- ---- what stands in a list that is collected

module _ {A B : Type 0} (p : A → Bool) (f : A → B) where
  pub has-collect : (x : A) (l : List A) → p x ≡ true → Has x l → Has (f x) (collect p f l)
  unfolding collect
  has-collect x (y ∷ ys) e (inl q) = rw (← q, e) (inl refl)
  has-collect x (y ∷ ys) e (inr h) = by-test (Has (f x)) (p y) (λ t. inr (has-collect x ys e h)) (λ t. has-collect x ys e h)
  has-collect x [] e x3 = elim x3 [ ]

  pub collect-has : (v : B) (l : List A) → Has v (collect p f l) → (x : A) × Has x l × (p x ≡ true) × (v ≡ f x)
  unfolding collect
  collect-has v [] = λ h. absurd h
  collect-has v (y ∷ ys) =
      by-test (λ (w : List B). Has v w → (x : A) × Has x (y ∷ ys) × (p x ≡ true) × (v ≡ f x)) (p y)
      (λ t h. kept t (collect-has v ys) h)
      (λ t h. let r = collect-has v ys h in (r.0, inr r.1, r.2, r.3))
    where
      kept : p y ≡ true → (Has v (collect p f ys) → (x : A) × Has x ys × (p x ≡ true) × (v ≡ f x)) → Has v (f y ∷ collect p f ys)
          → (x : A) × Has x (y ∷ ys) × (p x ≡ true) × (v ≡ f x)
      kept t more (inl q) = (y, inl refl, t, q)
      kept t more (inr h) = let r = more h in (r.0, inr r.1, r.2, r.3)

-- ---- exactly those

-- a row of the list, said without a test: the collection that the map has, the node's row, that it is alive, that place answers otherwise with
-- it marked dead, and that answer beside its id
pub record Matters (m : Map) (name : Name) (x : Loss) : Type 0 where
  pub collection : Collection
  pub found : find (is_named name) m.collections ≡ some collection
  pub row : NodeInfo
  pub known : Has row m.nodes
  pub live : row.alive ≡ true
  pub id : x.node ≡ row.node
  pub answer : x.then ≡ place (marked_dead m row.node) collection.spec
  pub changes : place (marked_dead m row.node) collection.spec ≡ place m collection.spec → ⊥

module _ (m : Map) (spec : Spec) (i : NodeInfo) where
  -- the answer with the node marked dead
  abbrev pub then : Placed
  then = place (marked_dead m i.node) spec

  matters-live : matters m spec i ≡ true → i.alive ≡ true
  unfolding matters
  matters-live e = and_left i.alive _ e

  matters_changes : matters m spec i ≡ true → then ≡ place m spec → ⊥
  unfolding matters loss_of
  matters_changes e = placed-apart then (place m spec) (not-true _ (and_right i.alive _ e))

  changes_matters : i.alive ≡ true → (then ≡ place m spec → ⊥) → matters m spec i ≡ true
  unfolding matters loss_of
  changes_matters a n =
      and_true i.alive _ a
      (ap not (apart-placed then (place m spec) (place-answered (marked_dead m i.node) spec) (place-answered m spec) n))

module _ (m : Map) (name : Name) where
  pub listed_matters : (x : Loss) → Has x (losses m name) → Matters m name x
  unfolding losses losses_in losses_of loss_of
  listed_matters x = go (find (is_named name) m.collections) refl
    where
      go : (o : Option Collection) → find (is_named name) m.collections ≡ o → Has x (losses_in m o) → Matters m name x
      go none e h = absurd h
      go (some c) e h =
          let r = collect-has (matters m c.spec) (loss_of m c.spec) x m.nodes h in
          record {
            collection = c;
            found = e;
            row = r.0;
            known = r.1;
            live = matters-live m c.spec r.0 r.2;
            id = ap (λ (y : Loss). y.node) r.3;
            answer = ap (λ (y : Loss). y.then) r.3;
            changes = matters_changes m c.spec r.0 r.2;
          }

  pub matters_listed : (x : Loss) → Matters m name x → Has x (losses m name)
  unfolding losses losses_in losses_of loss_of
  matters_listed x t =
      let spec = t.collection.spec in
      let own : x ≡ loss_of m spec t.row = ap (λ (n : ℕ). record { node = n; then = x.then }) t.id ∙ ap (λ (p : Placed). record { node = t.row.node; then = p }) t.answer in
      rw (t.found, own)
      (has-collect (matters m spec) (loss_of m spec) t.row m.nodes (changes_matters m spec t.row t.live t.changes) t.known)

-- ---- none of a collection that the map lacks

nobody_found : {A : Type 0} (p : A → Bool) (l : List A) → any p l ≡ false → find p l ≡ none
unfolding any find
nobody_found p [] e = refl
nobody_found {A = A} p (y ∷ ys) e = go (p y) (nobody_found p ys) e
  where
    go : (b : Bool) → (any p ys ≡ false → find p ys ≡ none) → cond b true (any p ys) ≡ false → cond b (some y) (find p ys) ≡ none
    go true more f = not_both true refl f
    go false more f = more f

-- an empty list, and no refusal
pub lacking : (m : Map) (name : Name) → well_formed_map m ≡ true → has_collection name m.collections ≡ false → losses_call m name ≡ lost []
unfolding losses_call losses losses_in has_collection
lacking m name h e = rw (h, nobody_found (is_named name) m.collections e)

-- ---- lowest first

abbrev pub loss_below : Loss → Loss → Bool
loss_below a b = ltb a.node b.node

losses_by_id : ByKey loss_below
losses_by_id = by_key_lem ltb numbers (λ (x : Loss). x.node)

below_all : (x : Loss) (l : List Loss) → ((v : Loss) → Has v l → loss_below x v ≡ true) → Below loss_below losses_by_id x l
below_all x [] h = tt
below_all x (y ∷ ys) h = h y (inl refl)

rise : (p : NodeInfo → Bool) (f : NodeInfo → Loss) → ((i : NodeInfo) → (f i).node ≡ i.node) → (ns : List NodeInfo) → rising node_below ns ≡ true
    → rising loss_below (collect p f ns) ≡ true
unfolding collect rising
rise p f own [] h = refl
rise p f own (i ∷ is) h =
    let more = rise p f own is (rising_tail node_below nodes_by_id i is h) in
    by-test (λ (l : List Loss). rising loss_below l ≡ true) (p i)
    (λ _. rising_cons loss_below losses_by_id (f i) (collect p f is) (below_all (f i) (collect p f is) lower) more)
    (λ _. more)
  where
    lower : (v : Loss) → Has v (collect p f is) → loss_below (f i) v ≡ true
    lower v t =
        let r = collect-has p f v is t in
        let q : v.node ≡ r.0.node = ap (λ (y : Loss). y.node) r.3 ∙ own r.0 in
        lt-ltb (f i).node v.node (omega (arith, above i is h r.0 r.1, own i, q))

pub ids-rise : (m : Map) (name : Name) → well_formed_map m ≡ true → rising loss_below (losses m name) ≡ true
unfolding losses losses_in losses_of loss_of rising
ids-rise m name h = go (find (is_named name) m.collections)
  where
    go : (o : Option Collection) → rising loss_below (losses_in m o) ≡ true
    go none = refl
    go (some c) = rise (matters m c.spec) (loss_of m c.spec) (λ i. refl) m.nodes (map-parts m h).0.1
