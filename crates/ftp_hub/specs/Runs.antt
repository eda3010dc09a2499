-- Runs of events: what they need, and how the log goes on.
use Rattle.std.specs.Prelude.{ℕ, ◌≡◌, Bool, true, is_some, List, ◌++◌, map, reverse, Option, ⊤}
use Rattle.std.specs.Option.{option_and_then, option_map_or}
use Rattle.std.specs.FinMap as table
use Rattle.ftp_base.specs.LinkTable.{Numbered}
use Rattle.ftp_options.specs.declared.options.Options.{Options}
use Rattle.ftp_transfer.specs.declared.job.Job.{Job}
use Rattle.ftp_events.specs.declared.entry.Entry.{Entry}
use Rattle.ftp_events.specs.declared.event.EventKind.{EventKind}
use Rattle.ftp_events.specs.Leads.{HasLinks, Views, Outside, Leads, job_of_ticket}
use Rattle.ftp_events.specs.Counts.{Counted}
use Rattle.ftp_events.specs.Log.{job_ticket, past_of}
use Rattle.ftp_events.specs.Session.{running_job}
use Rattle.ftp_events.specs.declared.event.HubEvent.{HubEvent}
use Rattle.ftp_hub.specs.declared.hub.Hub.{Hub}
use Rattle.ftp_hub.specs.Stands.{Stands, counters_of, options_of}
use Rattle.ftp_hub.specs.declared.run.RunError.{RunError}
use Rattle.ftp_hub.specs.declared.run.RunError.TheVariants.{OutOfMemory, Exhausted}

-- the number has a link
abbrev pub is_linked : {L : Type 0} → Numbered L → ℕ → Bool
is_linked links n = is_some (table.get links n)

-- the link of the job, where there is one, is in the table
abbrev pub has_link_of : {L : Type 0} → Numbered L → Option Job → Bool
has_link_of links job = option_map_or (λ (j : Job). is_linked links j.number) job true

-- the job of the ticket that an event names, where it runs and is not to stop
abbrev pub job_due : Options → List Entry → EventKind → Option Job
job_due o past k = option_and_then (λ t. job_of_ticket (running_job o past t.session) t) (job_ticket k)

-- the log goes on by one entry for each of the events, in their order
pub record GoesOn (old new : List Entry) (events : List HubEvent) : Type 0 where
  pub newer : List Entry
  pub log_is : new ≡ newer ++ old
  pub in_order : map (λ (e : Entry). e.event) (reverse newer) ≡ events

-- the entries by which the log goes on did to a storage and to links what they say
pub record LeadsOn {S L : Type 0} (v : Views S L) (o : Options) (old new : List Entry) (before after : Outside S L) : Type 0 where
  pub newer : List Entry
  pub log_is : new ≡ newer ++ old
  pub led : Leads v o old newer before after

-- so they do of a hub that stood for the first log, where each slot and each job had its link
abbrev pub LeadsFrom : {S L : Type 0} → Views S L → Hub → List Entry → List Entry → Outside S L → Outside S L → Type 0
LeadsFrom v hub old new before after =
    Stands hub old → HasLinks (options_of hub) (past_of old) before.links → LeadsOn v (options_of hub) old new before after

-- each then still has its link
abbrev pub StaysLinked : {L : Type 0} → Hub → List Entry → List Entry → Numbered L → Numbered L → Type 0
StaysLinked hub old new before after =
    Stands hub old → HasLinks (options_of hub) (past_of old) before → HasLinks (options_of hub) (past_of new) after

-- and what was counted of the first log goes on with the second
abbrev pub CountersGoOn : Hub → Hub → List Entry → List Entry → Type 0
CountersGoOn hub after old new =
    Stands hub old → Counted (options_of hub) (past_of old) (counters_of hub) → Counted (options_of hub) (past_of new) (counters_of after)

-- after how many events a run stopped
abbrev pub done_of : RunError → ℕ
done_of (OutOfMemory done) = done
done_of (Exhausted done) = done

-- a run stopped at the end of the count
abbrev pub IsExhausted : RunError → Type 0
IsExhausted (OutOfMemory done) = ⊥
IsExhausted (Exhausted done) = ⊤
