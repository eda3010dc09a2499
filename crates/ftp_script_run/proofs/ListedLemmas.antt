-- Faults that are told, by the calls that are listed.
use Rattle.std.proofs.Common.{◌≡◌, ℕ, ◌<◌, List, Option, Some, None, inl, inr, refl, sym, subst, ◌∙◌}
use Rattle.std.specs.Prelude.{Contains, Err}
use Rattle.std.specs.FinMap as map
use Rattle.std.proofs.lemmas.Option.{same_Some}
use Rattle.ftp_base.specs.declared.fault.LinkFault.{LinkFault}
use Rattle.ftp_base.specs.Calls.{Calls}
use Rattle.ftp_base.specs.Memory.{LinkState, LinkMet}
use Rattle.ftp_proxy.specs.declared.error.ProxyError.TheVariants.{ReadError}
use Rattle.ftp_proxy.specs.declared.error.ReadError.TheVariants.{Fault}
use Rattle.ftp_transfer.specs.declared.job.Job.{Job}
use Rattle.ftp_transfer.specs.declared.job.Outcome.{Outcome}
use Rattle.ftp_transfer.specs.Ran.{Told, Ran}
use Rattle.ftp_events.specs.declared.event.Answer.{Answer}
use Rattle.ftp_events.specs.declared.event.Answer.TheVariants as answer
use Rattle.ftp_events.specs.Leads.{Outside, told_by, ReadsHeader, RunsJob}
use Rattle.ftp_events.specs.Log.{past_of}
use Rattle.ftp_text.specs.declared.setup.Item.{Item}
use Rattle.ftp_script_run.specs.SetUp.{StorageState}
use Rattle.ftp_script_run.specs.Legal.{memory_views, start_of}
use Rattle.ftp_script_run.specs.Listed.{IsListed, ToldFaultsAreListed, ToldHeaderFaultsAreListed}
use Rattle.ftp_script_run.proofs.LeadsLemmas.{job-ran, LimitsFall, script-split}

-- a call to come with the fault that was met
abbrev pub ToCome : Calls (ℕ × LinkFault) → LinkFault → Type 0
ToCome c f = (call : ℕ) × Contains c.failing (call, f) × (c.made < call)

-- what the last call met is listed
met-fault : (c : Calls (ℕ × LinkFault)) (d : Option (Calls (ℕ × LinkFault))) (last : Option LinkFault) →
    LinkMet (Some c) d last → (f : LinkFault) × (last ≡ Some f) × ToCome c f
met-fault c None last met = absurd met
met-fault c (Some d) None met = absurd met
met-fault c (Some d) (Some f) met = (f, refl, (d.made, met.listed, met.made))

met-listed : (c : Calls (ℕ × LinkFault)) (d : Option (Calls (ℕ × LinkFault))) (last : Option LinkFault) (f : LinkFault) →
    last ≡ Some f → LinkMet (Some c) d last → ToCome c f
met-listed c d last f is met =
    let x = met-fault c d last met in
    subst (ToCome c) (same_Some x.0 f (sym x.1 ∙ is)) x.2

-- a run that tells a fault met it at a listed call
ran-listed : (job : Job) (old new : Told) (c : Calls (ℕ × LinkFault)) (outcome : Outcome) (f : LinkFault) →
    old.link_calls ≡ Some c → outcome.fault ≡ Some f → Ran job old new outcome → ToCome c f
ran-listed job old new c outcome f told is ran = elim ran.moves.cause [
  | inl failed ↦ met-listed c ran.calls new.sending.last_fault f (sym failed.2 ∙ is) (subst (λ (x : Option (Calls (ℕ × LinkFault))). LinkMet x ran.calls new.sending.last_fault) told failed.1.1)
  | inr held ↦ absurd (cc (sym held.0.0 ∙ is))
]

-- a call to come of a link is one that the items list for it
to-come-listed : (items : List Item) (n : ℕ) (f : LinkFault) (old : Outside StorageState LinkState) (made : LinkState) →
    LimitsFall memory_views (start_of items) old →
    map.get old.links n ≡ Some made →
    ToCome made.calls f →
    IsListed items n f old
to-come-listed items n f old made falls found next =
    let first = falls.links n made found in
    record {
      link = first.0;
      call = next.0;
      there = first.1;
      listed = subst (λ (xs : List (ℕ × LinkFault)). Contains xs (next.0, f)) first.2.list.0 next.1;
      made = made;
      found = found;
      to_come = next.2;
    }

-- the fault of an outcome is listed for the job's link
runs-listed : (items : List Item) (job : Job) (given : Answer) (old new : Outside StorageState LinkState) (outcome : Outcome) (f : LinkFault) →
    LimitsFall memory_views (start_of items) old →
    RunsJob memory_views job given old new →
    given ≡ answer.Done outcome →
    outcome.fault ≡ Some f →
    IsListed items job.number f old
runs-listed items job given old new outcome f falls ran is fault =
    let told : ran.outcome ≡ outcome = cc (sym ran.given_is ∙ is) in
    let same : ran.outcome.fault ≡ Some f = rw told fault in
    to-come-listed items job.number f old ran.before falls ran.there
    (ran-listed job (told_by memory_views old.storage ran.before) (told_by memory_views new.storage ran.after) ran.before.calls ran.outcome f refl same ran.ran)

-- the fault of a header is listed for its link
reads-listed : (items : List Item) (n : ℕ) (given : Answer) (old new : Outside StorageState LinkState) →
    LimitsFall memory_views (start_of items) old →
    ReadsHeader memory_views n given old new →
    given ≡ answer.Header (Err (ReadError Fault)) →
    (f : LinkFault) × IsListed items n f old
reads-listed items n given old new falls read is =
    let told : read.header ≡ Err (ReadError Fault) = cc (sym read.given_is ∙ is) in
    let met = met-fault read.before.calls (Some read.after.calls) read.after.last_fault (read.as_listed told) in
    (met.0, to-come-listed items n met.0 old read.before falls read.there met.2)

pub told-listed : ToldFaultsAreListed
told-listed o items older newer e end job outcome f led runs is fault =
    let x = script-split o items older newer e end led in
    let one = x.4 in
    let run : RunsJob memory_views job e.answer x.0 x.1 = job-ran memory_views o (past_of older) e x.0 x.1 job outcome runs is one in
    (x.0, x.2, runs-listed items job e.answer x.0 x.1 outcome f x.3 run is fault)

pub told-header-listed : ToldHeaderFaultsAreListed
told-header-listed o items older newer e end n led reads is =
    let x = script-split o items older newer e end led in
    let one = x.4 in
    let read : ReadsHeader memory_views n e.answer x.0 x.1 = rw reads at one in
    (x.0, x.2, reads-listed items n e.answer x.0 x.1 x.3 read is)
