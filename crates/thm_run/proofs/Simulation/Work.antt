-- Paper 01, 'Rules of a run', 'At a node', 'Messages': a worker's step. An Align or a Send that fits its buffer goes under way; Wait, Stop
-- and a refusal do nothing. Assumes nothing.
use Prim.Native.Nat.{ℕ, zero, suc, ◌+◌, ◌-◌, ◌≤◌, max}
use mathlib.Core.Path.{◌≡◌, refl, sym, ap, ◌∙◌, subst}
use mathlib.Core.Bool.{Bool, true, false, not, cond}
use mathlib.Core.Logic.{◌⊎◌, inl, inr}
use mathlib.Core.List.{List, [], ◌∷◌, ◌++◌, map}
use mathlib.Core.Option.{Option, none, some}
use native.Mathlib.Omega.{arith}
use lib.Dec.{eqb, ltb}
use lib.ListN.{length, take, drop, length-take}
use borrow.Author.Tests.{eqb-true, eqb-false, not-false}
use Rattle.spec.specs.Keys.{Key}
use Rattle.spec.specs.Limits.{max_u64, max_entries, max_batch, max_table}
use Rattle.spec.specs.Refusals.{no_room}
use Rattle.spec.specs.Lists.{nth, any, find}
use Rattle.spec.specs.Log.{Op, Entry, Log, End, ShardReplica, epoch_ends, entries_from}
use Rattle.spec.specs.Map.Change.{holds}
use Rattle.spec.specs.Layout.Format as format
use Rattle.spec.specs.Layout.Message as message
use Rattle.spec.specs.Layout.Message.{encode_new_epoch, encode_replicate, encode_copy_shard, decode_new_epoch}
use Rattle.spec.specs.Layout.Writable.{GoodKey, GoodEnd, GoodNewEpoch, GoodCopied, GoodReplicated}
use Rattle.spec.specs.Node.Held as held
use Rattle.spec.specs.Node.Held.{Held}
use Rattle.spec.specs.Node.Shards.{leads_at, of_node, on_node}
use Rattle.spec.specs.Node.Wire.{wire_op, wire_entry}
use Rattle.spec.specs.Node.Worker as worker
use Rattle.spec.specs.Node.Worker.{Step, send_of, step_row, step_held, step_at, on_step, Message, new_epoch_message, message_bytes, end_offset, copies, copy_of, lone_of, sending, request_held, request_at, on_request}
use Rattle.spec.specs.Node.Calls.{RequestAnswer, unsent, written, request_refused, written_in, request_of, request_with, call_request}
use Rattle.spec.specs.Node.WellFormed.{well_formed_lent}
use Rattle.spec.specs.declared.Metric.{Metric}
use Rattle.spec.specs.declared.Peer.{Peer}
use Rattle.spec.specs.declared.Replica.{Replica}
use Rattle.spec.specs.declared.Role as role
use Rattle.spec_laws.proofs.Lists.{by-test, not_both, none_some, nth-taken}
use Rattle.spec_laws.proofs.Wire.Data.{length_mapped}
use Rattle.spec_laws.proofs.Wire.Messages.{new_epoch_back, replicate_back, copy_back}
use Rattle.spec_laws.proofs.Log.Numbered.{from_at}
use Rattle.spec_run.specs.State as real
use Rattle.spec_run.specs.Step as step
use Rattle.thm_run.proofs.Protocol.Base.{All, nth-all}
use Rattle.thm_run.proofs.Protocol.State as proto
use Rattle.thm_run.proofs.Protocol.State.{Lead, Role, lead, Node, Request, State}
use Rattle.thm_run.proofs.Simulation.Lists.{any-find, find-any}
use Rattle.thm_run.proofs.Simulation.Ops.{op-back}
use Rattle.thm_run.proofs.Simulation.Relation.{World, LeadSim, HeldSim, AlignSim, CopySim, LoneSim, RequestSim, Sim}
use Rattle.thm_run.proofs.Simulation.Frame.{Gentle, Gently, rests, gently, on_post}
use Rattle.thm_run.proofs.Simulation.AtNode.{leads, shard_cases, log_facts, held_facts}
use Rattle.thm_run.proofs.Simulation.Commands.{u64_of}
use Rattle.thm_run.proofs.Simulation.Batches.{Ready, ready, Batch, batch, ends_good}

-- as many as were taken
take-taken : {A : Type 0} (n : ℕ) (l : List A) → take (length (take n l)) l ≡ take n l
take-taken zero l = refl
take-taken (suc n) [] = refl
take-taken {A} (suc n) (y ∷ ys) = ap {A = List A} {B = List A} (λ v. y ∷ v) (take-taken n ys)

module _ (w : World) (s : real.State) (a : State) (k : Sim w s a) (n : ℕ) (key : Key) (epoch peer : ℕ) (metric : Metric) (room : ℕ) where
  abbrev x : held.Node
  x = s.nodes n

  abbrev b : Node
  b = a.nodes n

  abbrev top : ℕ
  top = a.map.epoch

  abbrev Goal : RequestAnswer → Type 0
  Goal r = Gently w (step.posted s n key epoch peer r) a

  idle : Goal unsent
  unfolding step.posted
  idle = rests w s a k

  abbrev request : List ℕ → real.Request
  request bytes = record { sent = step.sent_of bytes; key = key; epoch = epoch; bytes = bytes }

  module _ (h : Held) (is : x.held ≡ h ∷ []) (hs : HeldSim w top n h b) (same : key ≡ w.key) (l : Lead) (leading : b.role ≡ lead l)
      (c : LeadSim w top n h.role h.replica h.peers l) (now : l.epoch ≡ epoch) (mine : holds n w.holders ≡ true)
      (holder : holds peer w.holders ≡ true) where
    abbrev log : Log
    log = h.replica.log

    -- what is left for the peer, one batch at most
    abbrev pub due : Log
    due = entries_from log (l.acked peer + 1) max_batch

    -- an alignment asks one that is not aligned, or the node itself, which has no row; a batch is what is left for one that is aligned
    abbrev pub Asks : Request → Type 0
    Asks (proto.align d end t) = (peer ≡ n → ⊥) → l.aligned peer ≡ false
    Asks (proto.send d v) = (l.aligned peer ≡ true) × (due ≡ v)

    pub record Puts (r : RequestAnswer) : Type 0 where
      pub bytes : List ℕ
      pub written : r ≡ written bytes
      pub asked : Request
      pub move : proto.Move
      pub gentle : Gentle w move
      pub moved : proto.step a move ≡ proto.post a n peer asked
      pub like : RequestSim w peer (request bytes) asked
      pub asks : Asks asked

    -- the step, named: one request goes under way, or nothing is left for the peer, or the request is longer than the room
    abbrev pub Named : RequestAnswer → Type 0
    Named r = Puts r ⊎ ((r ≡ unsent) × (l.aligned peer ≡ true) × (due ≡ [])) ⊎ (r ≡ request_refused no_room)

    -- so it does in the protocol
    does : (r : RequestAnswer) → Named r → Goal r
    unfolding step.posted
    does r (inl p) =
        subst Goal (sym p.written)
        (gently w _ a p.move p.gentle
        (subst (Sim w _) (sym p.moved) (on_post w s a k n peer (request p.bytes) p.asked p.like)))
    does r (inr (inl e)) = subst Goal (sym e.0) (rests w s a k)
    does r (inr (inr e)) = subst Goal (sym e) (rests w s a k)

    -- a message is written where it fits
    fits_in : (m : Message) → Puts (written (message_bytes m)) → Named (written_in room (some m))
    fits_in m g = by-test Named (ltb room (length (message_bytes m))) (λ t. inr (inr refl)) (λ t. inl g)

    own : h.replica.epoch ≡ epoch
    own = c.epoch ∙ now

    upto : epoch ≤ max_u64
    upto = subst (λ (e : ℕ). e ≤ max_u64) own hs.fits.epoch

    good_key_lem : GoodKey h.key
    good_key_lem = subst GoodKey (sym hs.key) w.good_key

    small : length log ≤ max_entries
    small = (held_facts w top n x b (k.nodes n) h is).log

    each_ready : (i : ℕ) (e : Entry) → nth log i ≡ some e → Ready epoch e
    each_ready i e q = subst (λ (d : ℕ). Ready d e) own (ready w h.replica hs.fits (log_facts w top n x b (k.nodes n) h is) small i e q)

    -- ---- Align

    abbrev aligning : message.NewEpoch
    aligning = worker.alignment h epoch metric

    aligns : ((peer ≡ n → ⊥) → l.aligned peer ≡ false) → Named (written_in room (request_held epoch metric h worker.align))
    unfolding request_held message_bytes
    aligns loose = fits_in (new_epoch_message aligning) (record {
      bytes = encode_new_epoch aligning;
      written = refl;
      asked = proto.align epoch l.end l.table;
      move = proto.alignment n peer;
      gentle = (mine, holder);
      moved = moved;
      like = sim;
      asks = loose;
    })
      where
        goes : (b : Bool) → eqb n peer ≡ b
            → (let asks = proto.post a n peer (proto.align l.epoch l.end l.table) in cond b asks (cond (l.aligned peer) a asks) ≡ asks)
        goes true e = refl
        goes false e = rw (loose (λ q. eqb-false n peer e (sym q)))

        moved : proto.step a (proto.alignment n peer) ≡ proto.post a n peer (proto.align epoch l.end l.table)
        moved =
            unfold proto.step in unfold proto.on_align in unfold proto.align_as in
            ap (proto.align_as a n peer) leading ∙ goes (eqb n peer) refl
            ∙ ap (λ (d : ℕ). proto.post a n peer (proto.align d l.end l.table)) now

        end : end_offset h.role ≡ l.end
        end = ap (λ (r : role.Role). end_offset r) c.role

        taken : All (Ready epoch) (take l.end log)
        taken = nth-all (Ready epoch) (take l.end log) (λ i e q. each_ready i e (nth-taken l.end log i e q).1)

        whole : aligning ≡ record { key = w.key; epoch = epoch; end = l.end; table = l.table; metric = metric }
        whole = unfold worker.alignment in rw (end, hs.key, c.table)

        shorter : length (take l.end log) ≤ length log
        shorter = let p = length-take l.end log in let q = c.end in omega arith

        table_good : GoodNewEpoch (record { key = w.key; epoch = epoch; end = l.end; table = l.table; metric = metric })
        table_good =
            let g = ends_good epoch upto (take l.end log) taken in
            let n = g.1 in
            let m = shorter in
            let p = small in
            let q = c.end in
            let z : length (epoch_ends (take l.end log)) ≤ max_table = omega arith in (
              w.good_key,
              u64_of epoch upto,
              omega arith,
              subst (λ (t : List End). length t ≤ max_table) (sym c.table) z,
              subst
                  (format.All GoodEnd) (sym c.table) g.0,
            )

        sim : AlignSim w peer (record {
          sent = step.sent_of
              (encode_new_epoch aligning);
          key = key;
          epoch = epoch;
          bytes = encode_new_epoch aligning;
        }) epoch l.end l.table
        sim = record {
          sent = unfold step.sent_of in unfold encode_new_epoch in refl;
          key = same;
          epoch = refl;
          metric = metric;
          decoded =
              ap (λ (m : message.NewEpoch). decode_new_epoch (encode_new_epoch m)) whole
              ∙ new_epoch_back (record { key = w.key; epoch = epoch; end = l.end; table = l.table; metric = metric }) table_good;
          upto = upto;
          holder = holder;
        }

    -- ---- Send

    module _ (ne : eqb n peer ≡ false) (first count : ℕ) (tied : l.aligned peer ≡ true) (few : count ≤ max_batch) (all : due ≡ entries_from log first count) where
      abbrev es : Log
      es = entries_from log first count

      all-ready : All (Ready epoch) es
      all-ready = nth-all (Ready epoch) es (λ i e q. each_ready (max first 1 - 1 + i) e (from_at log first count i e q).1)

      short : length es ≤ max_batch
      unfolding entries_from
      short = let p = length-take count (drop (max first 1 - 1) log) in omega arith

      ok : Batch epoch es
      ok = batch epoch upto es all-ready

      moved : (e : Entry) (r : Log) → es ≡ e ∷ r → proto.step a (proto.batch n peer first count) ≡ proto.post a n peer (proto.send epoch (e ∷ r))
      unfolding proto.step proto.on_send proto.send_as proto.send_batch
      moved e r q =
          ap (proto.send_as a n peer first count) leading ∙ rw (ne, tied)
          (ap (λ (v : ShardReplica). proto.send_batch a n peer l.epoch (entries_from v.log first count)) (sym hs.replica)
          ∙ ap (proto.send_batch a n peer l.epoch) q
          ∙ ap (λ (d : ℕ). proto.post a n peer (proto.send d (e ∷ r))) now)

      abbrev copying : Log → message.Copied
      copying v = record { key = h.key; epoch = epoch; entries = map wire_entry v }

      -- several entries, or an older one alone
      copies-out : (e : Entry) (r : Log) → es ≡ e ∷ r → Named (written_in room (some (copy_of h.key epoch (e ∷ r))))
      unfolding message_bytes step.sent_of encode_copy_shard
      copies-out e r q =
          let o : Batch epoch (e ∷ r) = subst (Batch epoch) q ok in
          let z : length (map wire_entry (e ∷ r)) ≤ max_batch =
          (let p = length_mapped wire_entry (e ∷ r) in let v = subst (λ (v : Log). length v ≤ max_batch) q short in omega arith) in
          let good : GoodCopied (copying (e ∷ r)) = (good_key_lem, u64_of epoch upto, z, o.good) in
          let copy : CopySim w (request (encode_copy_shard (copying (e ∷ r)))) epoch (e ∷ r) = record {
            sent = refl;
            message = copying (e ∷ r);
            decoded = copy_back (copying (e ∷ r)) good;
            key = hs.key;
            epoch = refl;
            inside = o.inside;
            entries = o.same;
          } in
          fits_in (copy_of h.key epoch (e ∷ r)) (record {
            bytes = encode_copy_shard (copying (e ∷ r));
            written = refl;
            asked = proto.send epoch (e ∷ r);
            move = proto.batch n peer first count;
            gentle = (mine, holder);
            moved = moved e r q;
            like = record {
              key = same;
              epoch = refl;
              filled = refl;
              formed = o.formed;
              fits = o.fits;
              upto = upto;
              holder = holder;
              way = inl copy;
            };
            asks = (tied, all ∙ q);
          })

      -- one entry of the epoch itself
      goes_alone : (e : Entry) → es ≡ e ∷ [] → copies epoch e.epoch ≡ false → Named (written_in room (some (lone_of h.key epoch e)))
      unfolding message_bytes step.sent_of encode_replicate
      goes_alone e q t =
          let o : Batch epoch (e ∷ []) = subst (Batch epoch) q ok in
          let rd : Ready epoch e = (subst (All (Ready epoch)) q all-ready).0 in
          let back = op-back e.op rd.formed rd.id in
          let level : e.epoch ≡ epoch = eqb-true e.epoch epoch (not-false (eqb e.epoch epoch) t) in
          let m : message.Replicated = record { key = h.key; epoch = epoch; offset = e.offset; op = wire_op e.op } in
          let low = rd.offset in
          let good : GoodReplicated m = (good_key_lem, u64_of epoch upto, omega arith, back.good) in
          let lone : LoneSim w (request (encode_replicate m)) epoch (e ∷ []) = record {
            sent = refl;
            message = m;
            decoded = replicate_back m good;
            key = hs.key;
            epoch = refl;
            inside = back.inside;
            entries =
                ap (λ (d : ℕ). one d e.op) level ∙ ap (λ (v : Op). one epoch v) (sym back.same);
          } in
          fits_in (lone_of h.key epoch e) (record {
            bytes = encode_replicate m;
            written = refl;
            asked = proto.send epoch (e ∷ []);
            move = proto.batch n peer first count;
            gentle = (mine, holder);
            moved = moved e [] q;
            like = record {
              key = same;
              epoch = refl;
              filled = refl;
              formed = o.formed;
              fits = o.fits;
              upto = upto;
              holder = holder;
              way = inr lone;
            };
            asks = (tied, all ∙ q);
          })
        where
          one : ℕ → Op → Log
          one d v = record { epoch = d; offset = e.offset; op = v } ∷ []

      sends : (v : Log) → es ≡ v → Named (written_in room (sending h.key epoch v))
      unfolding sending
      sends [] q = inr (inl (refl, tied, all ∙ q))
      sends (e ∷ []) q =
          by-test (λ (m : Message). Named (written_in room (some m))) (copies epoch e.epoch) (λ t. copies-out e [] q)
          (λ t. goes_alone e q t)
      sends (e ∷ d ∷ r) q = copies-out e (d ∷ r) q

    -- ---- the step of an aligned row

    -- a row is for another node
    apart : (p : Peer) → find (of_node peer) h.peers ≡ some p → eqb n peer ≡ false
    apart p e = go (eqb n peer) refl
      where
        go : (b : Bool) → eqb n peer ≡ b → b ≡ false
        go true t =
            not_both (any (of_node peer) h.peers) (find-any (of_node peer) h.peers p e)
            (ap (λ (z : ℕ). any (of_node z) h.peers) (sym (eqb-true n peer t)) ∙ c.rows.own)
        go false t = refl

    row_step : (p : Peer) → find (of_node peer) h.peers ≡ some p
        → Named (written_in room (request_held epoch metric h (step_row log (some p))))
    unfolding step_row
    row_step p here =
        let row = c.rows.row peer p here in
        let ne = apart p here in
        by-test (λ (z : Step). Named (written_in room (request_held epoch metric h z))) p.aligned
        (λ t. go ne (p.acked.0 + 1) (entries_from log (p.acked.0 + 1) max_batch) refl
        (ap (λ (d : ℕ). entries_from log (d + 1) max_batch) (sym row.acked)) (sym row.aligned ∙ t))
        (λ t. aligns (λ _. sym row.aligned ∙ t))
      where
        go : eqb n peer ≡ false → (first : ℕ) (v : Log) → entries_from log first max_batch ≡ v → due ≡ entries_from log first max_batch → l.aligned peer ≡ true
            → Named (written_in room (request_held epoch metric h (send_of first v)))
        go ne first [] q all t = unfold request_held in inr (inl (refl, t, all ∙ q))
        go ne first (e ∷ r) q all t =
            unfold request_held in
            sends ne first (length (e ∷ r)) t (count first (e ∷ r) q)
            (all ∙ subst (λ (v : Log). entries_from log first max_batch ≡ entries_from log first (length v)) q
            (unfold entries_from in sym (take-taken max_batch (drop (max first 1 - 1) log))))
            (entries_from log first (length (e ∷ r))) refl
          where
            count : (first : ℕ) (v : Log) → entries_from log first max_batch ≡ v → length v ≤ max_batch
            count first v q =
                subst (λ (v : Log). length v ≤ max_batch) q
                (unfold entries_from in (let p = length-take max_batch (drop (max first 1 - 1) log) in omega arith))

    pub steps : Named (written_in room (request_held epoch metric h (step_row log (find (of_node peer) h.peers))))
    steps = go (find (of_node peer) h.peers) refl
      where
        -- who has no row is the node itself, and is aligned
        go : (o : Option Peer) → find (of_node peer) h.peers ≡ o → Named (written_in room (request_held epoch metric h (step_row log o)))
        go (some p) e = row_step p e
        go none e =
            unfold step_row in
            aligns (λ ne. let r = any-find (of_node peer) h.peers (c.rows.has peer holder ne) in none_some (sym e ∙ r.1))

  -- the step at the held shard
  at_held : holds n w.holders ≡ true → (h : Held) → x.held ≡ h ∷ [] → HeldSim w top n h b → key ≡ w.key
      → Goal (written_in room (request_held epoch metric h (step_held epoch peer h)))
  unfolding step_held request_held holds
  at_held y h is hs same =
      let P : Step → Type 0 = λ z. Goal (written_in room (request_held epoch metric h z)) in
      by-test P (not (leads_at h.role epoch)) (λ t. idle)
      (λ t. by-test P (not (any (on_node peer) h.holders)) (λ u. idle)
      (λ u. let c = leads w top n h.role h.replica h.peers b.role hs.role epoch (not-false (leads_at h.role epoch) t) in
      let z : holds peer w.holders ≡ true =
      subst (λ (rs : List Replica). any (on_node peer) rs ≡ true) hs.holders (not-false (any (on_node peer) h.holders) u) in
      does h is hs same c.0 c.1 c.2 c.3 y z _ (steps h is hs same c.0 c.1 c.2 c.3 y z)))

  pub worked : Gently w (step.on_work s n key epoch peer metric room) a
  unfolding step.on_work call_request request_with request_of on_request on_step
  worked =
      by-test Goal (not (well_formed_lent x key)) (λ t. unfold step.posted in rests w s a k)
      (λ t. shard_cases w top n x b (k.nodes n) (λ o. Goal (written_in room (request_at epoch metric (step_at epoch peer o) o))) key idle
      (λ y h is hs same. at_held y h is hs same))

pub on_work_lem : (w : World) (s : real.State) (a : State) → Sim w s a → (n : ℕ) (key : Key) (epoch peer : ℕ) (metric : Metric) (room : ℕ)
    → Gently w (step.on_work s n key epoch peer metric room) a
on_work_lem w s a k n key epoch peer metric room = worked w s a k n key epoch peer metric room
