-- The faults that the log of a script tells, by the calls that the script lists.
use Rattle.std.specs.Prelude.{◌≡◌, ℕ, ◌<◌, List, [], ◌∷◌, ◌++◌, Contains, Some, Err}
use Rattle.std.specs.FinMap as map
use Rattle.ftp_base.specs.declared.fault.LinkFault.{LinkFault}
use Rattle.ftp_base.specs.Memory.{LinkState}
use Rattle.ftp_options.specs.declared.options.Options.{Options}
use Rattle.ftp_proxy.specs.declared.error.ProxyError.TheVariants.{ReadError}
use Rattle.ftp_proxy.specs.declared.error.ReadError.TheVariants.{Fault}
use Rattle.ftp_transfer.specs.declared.job.Job.{Job}
use Rattle.ftp_transfer.specs.declared.job.Outcome.{Outcome}
use Rattle.ftp_events.specs.declared.entry.Entry.{Entry}
use Rattle.ftp_events.specs.declared.event.Answer.TheVariants as answer
use Rattle.ftp_events.specs.Leads.{Outside, header_to_read, Leads}
use Rattle.ftp_events.specs.Log.{past_of}
use Rattle.ftp_hub.specs.Runs.{job_due}
use Rattle.ftp_text.specs.declared.setup.Item.{Item}
use Rattle.ftp_script_run.specs.SetUp.{StorageState}
use Rattle.ftp_script_run.specs.Items.{links_in}
use Rattle.ftp_script_run.specs.Legal.{memory_views, start_of}

-- the items list the fault for a call of the link with this number, and it was not yet made
pub record IsListed (items : List Item) (n : ℕ) (f : LinkFault) (before : Outside StorageState LinkState) : Type 0 where
  pub link : LinkState
  pub call : ℕ
  pub there : map.get (links_in items) n ≡ Some link
  pub listed : Contains link.calls.failing (call, f)
  pub made : LinkState
  pub found : map.get before.links n ≡ Some made
  pub to_come : made.calls.made < call

-- each fault of a transfer that an entry tells is one that the script lists for the link of its job
abbrev pub ToldFaultsAreListed : Type 0
ToldFaultsAreListed =
    (o : Options) (items : List Item) (older newer : List Entry) (e : Entry) (end : Outside StorageState LinkState)
    (job : Job) (outcome : Outcome) (f : LinkFault) →
    Leads memory_views o [] (newer ++ e ∷ older) (start_of items) end →
    job_due o (past_of older) e.event.kind ≡ Some job →
    e.answer ≡ answer.Done outcome →
    outcome.fault ≡ Some f →
    (old : Outside StorageState LinkState)
    × Leads memory_views o [] older (start_of items) old
    × IsListed items job.number f old

-- each fault of a header that an entry tells is one that the script lists for the link of its connection
abbrev pub ToldHeaderFaultsAreListed : Type 0
ToldHeaderFaultsAreListed =
    (o : Options) (items : List Item) (older newer : List Entry) (e : Entry) (end : Outside StorageState LinkState) (n : ℕ) →
    Leads memory_views o [] (newer ++ e ∷ older) (start_of items) end →
    header_to_read o (past_of older) e.event.kind ≡ Some n →
    e.answer ≡ answer.Header (Err (ReadError Fault)) →
    (old : Outside StorageState LinkState)
    × Leads memory_views o [] older (start_of items) old
    × ((f : LinkFault) × IsListed items n f old)
