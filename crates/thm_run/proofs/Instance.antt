-- Demand 3 applied to a run that the checker computes: the write that node 1 acknowledged before the promotion stands in the log of node
-- 2, and node 2's vectors are its log played. The run keeps the paper's rules to the letter, and the theorem about these is put to it too.
-- Request 2.5 is applied to a run in which a lone entry of epoch 1 goes to node 2 at epoch 2, and demand 3 to two in which an alignment comes
-- late (request 2.3). Assumes nothing.
use mathlib.Core.Path.{◌≡◌, refl, sym, ap, subst}
use mathlib.Core.Bool.{true}
use mathlib.Core.List.{List, [], ◌∷◌}
use mathlib.Core.Option.{some}
use Rattle.spec.specs.Lists.{nth}
use Rattle.spec.specs.Log.{Entry, Log, entry_at, play}
use Rattle.spec.specs.Map.Tables.{ShardInfo}
use Rattle.spec_run.specs.Event.{Event}
use Rattle.spec_run.specs.Step.{run}
use Rattle.spec_run.specs.Rules.{allowed_run}
use Rattle.spec_run.specs.Paper.{fresh_history, paper_run}
use Rattle.spec_run.specs.Claim.{Durable, Stands, Alike, Origin, Written, log_of, vectors_of}
use Rattle.thm_run.proofs.Demand3.{durable}
use Rattle.thm_run.proofs.Entries.{alike, written}
use Rattle.spec_run.proofs.Cases.Start.{start, info, key, wrote, entry}
use Rattle.spec_run.proofs.Cases.Fresh.{start-fresh, start-shard}
use Rattle.spec_run.proofs.Cases.Promotion.{events, end, may_happen, acknowledged, in_sync_lem}
use Rattle.spec_run.proofs.Cases.LoneEntry as lone
use Rattle.spec_run.proofs.Cases.LateAlignment as late
use Rattle.spec_run.proofs.Cases.Paper.{seqs, seqs-rise, promotion_of_paper, lone_of_paper, overtaken_of_paper, repeated_of_paper}
use Rattle.thm_run.proofs.Paper.Allowed.{paper-allowed, paper_durable, paper_alike, paper-written}

kept : Durable end
unfolding end
kept = durable start start-fresh events may_happen

pub first_stands : Stands (wrote 1 1 1 41) (log_of (end.nodes 2) key)
first_stands = kept.stands (wrote 1 1 1 41) 0 (rw acknowledged (unfold nth in refl)) 2 in_sync_lem

pub played : vectors_of (end.nodes 2) key ≡ play (log_of (end.nodes 2) key)
played = kept.played key 2 in_sync_lem

-- ---- request 2.5

-- the one entry of a log stands at offset 1
one_entry : (l : Log) (x : Entry) → l ≡ x ∷ [] → entry_at l 1 ≡ some x
unfolding entry_at nth
one_entry l x e = ap (λ (v : Log). entry_at v 1) e

at_first : entry_at (log_of ((lone.end).nodes 1) key) 1 ≡ some (entry 1 1 41)
at_first = one_entry (log_of ((lone.end).nodes 1) key) (entry 1 1 41) lone.sent

at_second : entry_at (log_of ((lone.end).nodes 2) key) 1 ≡ some (entry 1 1 41)
at_second = one_entry (log_of ((lone.end).nodes 2) key) (entry 1 1 41) lone.stored

-- the entry that came as CopyShard is that of the primary
pub same-entry : (x : Entry) → entry_at (log_of ((lone.end).nodes 2) key) 1 ≡ some x → x.epoch ≡ 1 → x ≡ entry 1 1 41
unfolding lone.end
same-entry x p e = (alike start start-fresh lone.events lone.may_happen).entries key 2 1 1 x (entry 1 1 41) p at_first e

-- and the Write that node 1 accepted at epoch 1
pub first-written : Origin lone.end key 1 (entry 1 1 41)
unfolding lone.end
first-written = (written start start-fresh lone.events lone.may_happen).entries key 2 1 (entry 1 1 41) at_second

-- ---- request 2.3: the acknowledged write stands at node 2, overtaken or repeated as the alignment may be

pub overtaken_stands : Stands (wrote 1 1 1 41) (log_of ((run start (late.events_of late.overtaken)).nodes 2) key)
overtaken_stands =
    (durable start start-fresh (late.events_of late.overtaken) late.overtaken-may).stands (wrote 1 1 1 41) 0
    (rw late.overtaken_acknowledged (unfold nth in refl)) 2 late.overtaken_in_sync

pub repeated_stands : Stands (wrote 1 1 1 41) (log_of ((run start (late.events_of late.repeated)).nodes 2) key)
repeated_stands =
    (durable start start-fresh (late.events_of late.repeated) late.repeated-may).stands (wrote 1 1 1 41) 0
    (rw late.repeated_acknowledged (unfold nth in refl)) 2 late.repeated_in_sync

-- ---- the paper's rules

of_paper : paper_run seqs start (fresh_history start start-fresh.shard) events ≡ true
of_paper = subst (λ (i : ShardInfo). paper_run seqs start (fresh_history start i) events ≡ true) (sym start-shard) promotion_of_paper

pub allowed_too : allowed_run start events ≡ true
allowed_too = paper-allowed seqs seqs-rise start start-fresh events of_paper

pub kept_too : Durable end
unfolding end
kept_too = paper_durable seqs seqs-rise start start-fresh events of_paper

-- of the other runs too
from-fresh : (es : List Event) → paper_run seqs start (fresh_history start info) es ≡ true
    → paper_run seqs start (fresh_history start start-fresh.shard) es ≡ true
from-fresh es t = subst (λ (i : ShardInfo). paper_run seqs start (fresh_history start i) es ≡ true) (sym start-shard) t

lone-paper : paper_run seqs start (fresh_history start start-fresh.shard) lone.events ≡ true
lone-paper = from-fresh lone.events lone_of_paper

pub alike_too : Alike lone.end
unfolding lone.end
alike_too = paper_alike seqs seqs-rise start start-fresh lone.events lone-paper

pub written_too : Written lone.end
unfolding lone.end
written_too = paper-written seqs seqs-rise start start-fresh lone.events lone-paper

pub overtaken_too : Durable (run start (late.events_of late.overtaken))
overtaken_too =
    paper_durable seqs seqs-rise start start-fresh (late.events_of late.overtaken) (from-fresh (late.events_of late.overtaken) overtaken_of_paper)

pub repeated_too : Durable (run start (late.events_of late.repeated))
repeated_too =
    paper_durable seqs seqs-rise start start-fresh (late.events_of late.repeated) (from-fresh (late.events_of late.repeated) repeated_of_paper)
