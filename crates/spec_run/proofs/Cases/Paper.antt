-- Computed runs that keep the paper's rules to the letter, with acknowledged writes: a promotion; a shrink with a later expand, whose
-- proposals have the seqs 1 and 2; lost messages, and a proposal that arrives after its timeout; a lone older entry; an alignment that
-- comes late, overtaken by another or come twice. Assumes nothing.
use Prim.Native.Nat.{suc}
use native.Mathlib.Omega.{arith}
use mathlib.Core.Path.{◌≡◌, refl}
use mathlib.Core.Bool.{true}
use Rattle.spec_run.specs.Paper as paper
use Rattle.spec_run.specs.Paper.{History, Seqs, Rising, fresh_history, paper_run}
use Rattle.spec_run.proofs.Created.{started}
use Rattle.spec_run.proofs.Cases.Opened.{opened}
use Rattle.spec_run.proofs.Cases.Start.{start, created, info}
use Rattle.spec_run.proofs.Cases.Promotion as promotion
use Rattle.spec_run.proofs.Cases.ShrinkExpand as shrinkExpand
use Rattle.spec_run.proofs.Cases.Loss as loss
use Rattle.spec_run.proofs.Cases.LoneEntry as lone
use Rattle.spec_run.proofs.Cases.LateAlignment as late

-- each node's first proposal has seq 1, the next 2, and so on
abbrev pub seqs : Seqs
seqs n k = suc k

pub seqs-rise : Rising seqs
seqs-rise n k = omega arith

abbrev pub history : History
history = fresh_history start info

pub promotion_of_paper : paper_run seqs start history promotion.events ≡ true
unfolding opened start started created promotion.events paper.first_started fresh_history paper.proposing paper.made paper.remember paper.paper paper_run
promotion_of_paper = refl

pub shrink_of_paper : paper_run seqs start history shrinkExpand.events ≡ true
unfolding opened start started created shrinkExpand.events paper.first_started fresh_history paper.proposing paper.made paper.remember paper.paper paper_run
shrink_of_paper = refl

pub loss_of_paper : paper_run seqs start history loss.events ≡ true
unfolding opened start started created loss.events paper.first_started fresh_history paper.proposing paper.made paper.remember paper.paper paper_run
loss_of_paper = refl

pub lone_of_paper : paper_run seqs start history lone.events ≡ true
unfolding opened start started created lone.before lone.events paper.first_started fresh_history paper.proposing paper.made paper.remember paper.paper paper_run
lone_of_paper = refl

pub overtaken_of_paper : paper_run seqs start history (late.events_of late.overtaken) ≡ true
unfolding opened start started created late.overtaken late.rest late.late late.events_of paper.first_started fresh_history paper.proposing paper.made paper.remember paper.paper paper_run
overtaken_of_paper = refl

pub repeated_of_paper : paper_run seqs start history (late.events_of late.repeated) ≡ true
unfolding opened start started created late.repeated late.rest late.late late.events_of paper.first_started fresh_history paper.proposing paper.made paper.remember paper.paper paper_run
repeated_of_paper = refl
