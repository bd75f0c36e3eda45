-- The struct that is loaded from a command's operands is viewed as the command that was read; and what is answered, by whether wire_read's reader
-- answered a request. Assumes nothing.
use Prim.Native.Nat.{ℕ, ◌+◌}
use mathlib.Core.Path.{◌≡◌, refl, sym, ap, subst, ◌∙◌}
use mathlib.Core.Bool.{true, false}
use mathlib.Core.List.{List, []}
use mathlib.Core.Option.{Option, none, some}
use native.Mathlib.Omega.{arith}
use lib.ListN.{length}
use Rattle.spec.specs.Map.WellFormed.{command_fits}
use Rattle.spec.specs.Layout.Format.{Bytes, fits, value, next, whole}
use Rattle.spec.specs.Layout.Request as request
use Rattle.spec_laws.proofs.Wire.Tests.{and_left, and_right}
use Rattle.spec_laws.proofs.Wire.Data.{whenever_some}
use Rattle.spec_laws.proofs.Map.Stream.{ends_inside, ends_later}
use Rattle.wire_read.specs.Shown.{request_shown, request_part, request_read_of, read_or, message_of}
use Rattle.wire_read.specs.declared.CommandPart.{CommandPart}
use Rattle.wire_read.specs.declared.CommandPart.TheVariants as part
use Rattle.wire_read.specs.declared.RequestPart.{RequestPart}
use Rattle.wire_read.specs.declared.RequestRead.{RequestRead}
use Rattle.wire_read.specs.declared.Message.TheVariants as message
use Rattle.wire_read.proofs.Decoded.{Decoded, request_decoded, request-answered}
use Rattle.map_tables.specs.Names.{view_name, view_address, view_key}
use Rattle.map_tables.specs.View.{view_placement, view_request, command_in}
use Rattle.map_tables.specs.declared.Name.{Name}
use Rattle.map_tables.specs.declared.Address.{Address}
use Rattle.map_tables.specs.declared.Placement.{Placement}
use Rattle.map_tables.specs.declared.Command.{Command}
use Rattle.map_tables.specs.declared.Command.TheVariants.{Create, Drop, Register, MarkNodeDead, OfShard, Bench}
use Rattle.map_tables.specs.declared.Change.TheVariants.{Add, Remove, Promote, Shrink, Expand}
use Rattle.map_tables.specs.declared.Request.{Request}
use Rattle.spec.specs.Keys as keys
use Rattle.map_names.specs.Texts.{bytes_at}
use Rattle.map_request.specs.Parts.{Held, operands_of, lists_at}
use Rattle.map_request.specs.Read.{command_read, request_read, padding_of, LoadedAs, Within, LoadedAt, LoadedAll}
use Rattle.map_request.specs.declared.Operands.{Operands}
use Rattle.map_request.proofs.Stands.{command_stands}

-- ---- the struct

module _ (s : List ℕ) where
  viewed : (c : CommandPart) (name address : keys.Name) (lists : List (List ℕ)) → name ≡ bytes_at s (operands_of c).name
      → address ≡ bytes_at s (operands_of c).address → lists ≡ lists_at s (operands_of c).placement
      → command_in (operands_of c).command (record { collection = name; shard = (operands_of c).shard }) address lists (padding_of (command_read s c)) ≡ command_read s c
  viewed (part.Create c) name address lists n a p = rw (n, p)
  viewed (part.Drop c) name address lists n a p = rw n
  viewed (part.Register c) name address lists n a p = rw a
  viewed (part.MarkNodeDead c) name address lists n a p = refl
  viewed (part.AddReplica c) name address lists n a p = rw n
  viewed (part.Remove c) name address lists n a p = rw n
  viewed (part.Promote c) name address lists n a p = rw n
  viewed (part.Shrink c) name address lists n a p = rw n
  viewed (part.Expand c) name address lists n a p = rw n
  viewed (part.Bench c) name address lists n a p = refl

  module _ (c : CommandPart) (o : Operands) (q : o ≡ operands_of c) (name : Name) (address : Address) (placement : Placement) where
    pub loaded-view : view_name name ≡ bytes_at s o.name → view_address address ≡ bytes_at s o.address → view_placement placement ≡ lists_at s o.placement
        → command_in o.command (record { collection = view_name name; shard = o.shard }) (view_address address) (view_placement placement) (padding_of (command_read s c))
        ≡ command_read s c
    loaded-view =
        subst (λ (z : Operands). view_name name ≡ bytes_at s z.name → view_address address ≡ bytes_at s z.address → view_placement placement ≡ lists_at s z.placement
        → command_in z.command (record { collection = view_name name; shard = z.shard }) (view_address address) (view_placement placement) (padding_of (command_read s c)) ≡ command_read s c)
        (sym q) (viewed c (view_name name) (view_address address) (view_placement placement))

-- the bytes of a Bench do not matter to the limits
any-padding : (c : Command) (k : keys.Key) (a : keys.Name) (p : List (List ℕ)) (xs ys : List ℕ) → command_fits (command_in c k a p xs) ≡ command_fits (command_in c k a p ys)
unfolding command_fits
any-padding (Create s) k a p xs ys = refl
any-padding Drop k a p xs ys = refl
any-padding (Register n i) k a p xs ys = refl
any-padding (MarkNodeDead n i) k a p xs ys = refl
any-padding (OfShard (Add n i) e) k a p xs ys = refl
any-padding (OfShard (Remove n) e) k a p xs ys = refl
any-padding (OfShard (Promote n) e) k a p xs ys = refl
any-padding (OfShard (Shrink n) e) k a p xs ys = refl
any-padding (OfShard (Expand n) e) k a p xs ys = refl
any-padding Bench k a p xs ys = refl

-- ---- a request that stands at a place

-- a request that was read at a place, and shown as p
pub record Shows (s : List ℕ) (p : RequestPart) (r : request.Request) : Type 0 where
  pub held : Held s (operands_of p.command)
  pub back : request_read s p ≡ r
  pub fits : command_fits r.command ≡ true

module _ (s : List ℕ) (at : ℕ) where
  stands : fits request.request_f s at ≡ true → Shows s (request_part at (request.request_of (value request.request_f s at))) (request.request_of (value request.request_f s at))
  stands e =
      let r = request.request_of (value request.request_f s at) in
      let h = command_stands s (at + 1 + 8 + 8 + 8) (and_right _ _ (and_right _ _ (and_right _ _ (and_right _ _ e)))) in
      record {
        held = h.held;
        back = ap (λ (c : request.Command). record { index = r.index; client = r.client; seq = r.seq; command = c }) h.back;
        fits = h.fits;
      }

  pub shows_at : (r : request.Request) (end : ℕ) → request.request_at s at ≡ some (r, end) → Shows s (request_part at r) r
  unfolding request.request_at
  shows_at r end e =
      let w = whenever_some (fits request.request_f s at) (request.request_of (value request.request_f s at), next request.request_f s at) (r, end) e in
      let q : request.request_of (value request.request_f s at) ≡ r = ap (λ (z : request.Request × ℕ). z.0) w.1 in
      subst (λ (z : request.Request). Shows s (request_part at z) z) q (stands w.0)

pub shows_all : (s : List ℕ) (r : request.Request) → request.decode_request s ≡ some r → Shows s (request_part 0 r) r
unfolding request.decode_request whole
shows_all s r e =
    let w = whenever_some (whole request.request_f s) (request.request_of (value request.request_f s 0)) r e in
    subst (λ (z : request.Request). Shows s (request_part 0 z) z) w.1 (stands s 0 (and_left _ _ w.0))

module _ (s : List ℕ) (p : RequestPart) (r : request.Request) (h : Shows s p r) (x : Request) (l : LoadedAs s p x) where
  abbrev pub padding : List ℕ
  padding = padding_of (command_read s p.command)

  pub loaded-is : view_request x padding ≡ r
  loaded-is = l.view ∙ h.back

  pub loaded-within : Within x
  loaded-within = record {
    counted = l.counted;
    fits = λ bs.
        any-padding x.command (view_key x.key) (view_address x.address) (view_placement x.placement) bs padding
        ∙ ap (λ (z : request.Request). command_fits z.command) loaded-is
        ∙ h.fits;
  }

-- ---- the answers

-- a request that was read at a place
pub record Found (s : List ℕ) (p : RequestPart) (o : Option (request.Request × ℕ)) (end : ℕ) : Type 0 where
  pub request : request.Request
  pub read : o ≡ some (request, end)
  pub shows : Shows s p request

none_of : {A : Type 0} (o : Option A) → ((a : A) → o ≡ some a → ⊥) → o ≡ none
none_of none h = refl
none_of (some a) h = absurd (h a refl)

part-is : (r : RequestPart) (p : RequestPart) → message.Request r ≡ message.Request p → r ≡ p
part-is r p e = cc

module _ (s : List ℕ) (at : ℕ) where
  found_in_lem : (o : Option (request.Request × ℕ)) (p : RequestPart) → ((r : request.Request) (end : ℕ) → o ≡ some (r, end) → Shows s (request_part at r) r)
      → (read_or at o).message ≡ message.Request p → Found s p o (read_or at o).next
  found_in_lem none p h e = let z : ◌≡◌ {A = ℕ} 0 1 = cc in absurd (omega arith)
  found_in_lem (some r) p h e = record {
    request = r.0;
    read = refl;
    shows = subst (λ (z : RequestPart). Shows s z r.0) (part-is (request_part at r.0) p e) (h r.0 r.1 refl);
  }

  module _ (m : RequestRead) (q : m ≡ request_read_of s at) where
    pub found_at : (p : RequestPart) → m.message ≡ message.Request p → Found s p (request.request_at s at) m.next
    unfolding request_read_of
    found_at p e =
        subst (λ (z : RequestRead). z.message ≡ message.Request p → Found s p (request.request_at s at) z.next) (sym q)
        (found_in_lem (request.request_at s at) p (shows_at s at)) e

    pub missed_at : ((r : request.Request) → m.message ≡ request_shown at r → ⊥) → request.request_at s at ≡ none
    unfolding request_read_of
    missed_at h = none_of (request.request_at s at) (λ r e. h r.0 (ap (λ (z : RequestRead). z.message) (q ∙ ap (read_or at) e)))

  no {ℓ} : {P : Type ℓ} → false ≡ true → P
  no h = let z : ◌≡◌ {A = ℕ} 0 1 = cc in absurd (omega arith)

  pub none-at : (x : Request) → request.request_at s at ≡ none → LoadedAt s at (record { found = false; request = x; next = at })
  none-at x e = record { padding = []; read = e; stays = λ h. refl; passes = λ h. no h; inside = λ h. no h; within = λ h. no h }

  pub some_at : (p : RequestPart) (end : ℕ) → Bytes s → Found s p (request.request_at s at) end → (x : Request) → LoadedAs s p x
      → LoadedAt s at (record { found = true; request = x; next = end })
  some_at p end b f x l = record {
    padding = padding_of (command_read s p.command);
    read = f.read ∙ ap (λ (r : request.Request). some (r, end)) (sym (loaded-is s p f.request f.shows x l));
    stays = λ h. let z : ◌≡◌ {A = ℕ} 0 1 = cc in absurd (omega arith);
    passes = λ h. ends_later s b at f.request end f.read;
    inside = λ h. ends_inside s b at f.request end f.read;
    within = λ h. loaded-within s p f.request f.shows x l;
  }

module _ (s : List ℕ) where
  pub decoded_shows : (p : RequestPart) (d : Decoded (request_shown 0) (request.decode_request s) (message.Request p)) → Shows s p d.read
  decoded_shows p d =
      subst (λ (z : RequestPart). Shows s z d.read) (part-is (request_part 0 d.read) p d.shown) (shows_all s d.read d.decoded)

  pub missed_all : ((r : request.Request) → message_of s ≡ request_shown 0 r → ⊥) → request.decode_request s ≡ none
  missed_all h = none_of (request.decode_request s) (λ r e. h r (request-answered s r e))

  pub none-all : (x : Request) → request.decode_request s ≡ none → LoadedAll s (record { found = false; request = x; next = 0 })
  none-all x e = record {
    padding = [];
    read = e;
    next = λ h. let z : ◌≡◌ {A = ℕ} 0 1 = cc in absurd (omega arith);
    stays = λ h. refl;
    within = λ h. absurd (let z : ◌≡◌ {A = ℕ} 0 1 = cc in omega arith);
  }

  pub some_all : (p : RequestPart) → message_of s ≡ message.Request p → (x : Request) → LoadedAs s p x → LoadedAll s (record { found = true; request = x; next = length s })
  some_all p e x l =
      let d = request_decoded s p e in
      let h = decoded_shows p d in
      record {
        padding = padding_of (command_read s p.command);
        read = d.decoded ∙ ap (λ (r : request.Request). some r) (sym (loaded-is s p d.read h x l));
        next = λ q. refl;
        stays = λ q. let z : ◌≡◌ {A = ℕ} 0 1 = cc in absurd (omega arith);
        within = λ q. loaded-within s p d.read h x l;
      }
