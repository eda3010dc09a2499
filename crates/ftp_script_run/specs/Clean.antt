-- Transfers of which nothing is refused and nothing fails, and headers of which nothing fails, in the legal logs of scripts.
use Rattle.std.specs.Prelude.{◌≡◌, ◌⊎◌, ℕ, ◌-◌, ◌^◌, ◌<◌, List, [], ◌∷◌, ◌++◌, Some}
use Rattle.std.specs.FinMap as map
use Rattle.ftp_base.specs.Memory.{LinkState, fault_limit, link_fault_limit}
use Rattle.ftp_base.specs.Storage.{BegunFile}
use Rattle.ftp_options.specs.declared.options.Options.{Options}
use Rattle.ftp_proxy.specs.Line.{line}
use Rattle.ftp_transfer.specs.declared.job.Completion.TheVariants as result
use Rattle.ftp_transfer.specs.declared.job.Job.{Job}
use Rattle.ftp_transfer.specs.declared.job.Outcome.{Outcome}
use Rattle.ftp_transfer.specs.Ran.{Takes, IsDone}
use Rattle.ftp_events.specs.declared.entry.Entry.{Entry}
use Rattle.ftp_events.specs.declared.event.Answer.TheVariants as answer
use Rattle.ftp_events.specs.Leads.{Outside, header_to_read, LeadsOne, Leads}
use Rattle.ftp_events.specs.Log.{past_of}
use Rattle.ftp_hub.specs.Runs.{job_due}
use Rattle.ftp_text.specs.declared.setup.Item.{Item}
use Rattle.ftp_audit.specs.Replay.{once_all}
use Rattle.ftp_script_run.specs.SetUp.{StorageState, storage_in}
use Rattle.ftp_script_run.specs.Items.{links_in}
use Rattle.ftp_script_run.specs.Legal.{memory_views, start_of}

-- the items list no call that fails
pub record ListsNoFault (items : List Item) : Type 0 where
  pub storage : fault_limit (storage_in items).inner.calls ≡ 0
  pub links : (n : ℕ) (link : LinkState) → map.get (links_in items) n ≡ Some link → link_fault_limit link.calls ≡ 0

-- an entry that ran a job to its end from old on, of which the storage's rule refuses no call, says that it was done, or
-- that memory ran out
abbrev pub IsDoneWhereTaken : Options → List Entry → Entry → Outside StorageState LinkState → Type 0
IsDoneWhereTaken o past e old =
    (job : Job) (link : LinkState) (outcome : Outcome) →
    job_due o past e.event.kind ≡ Some job →
    map.get old.links job.number ≡ Some link →
    Takes job.command job (memory_views.rule old.storage) old.storage.inner.files (Some link.left) →
    e.answer ≡ answer.Done outcome →
    outcome.bytes < 2 ^ 64 - 1 →
    IsDone outcome.result ⊎ (outcome.result ≡ result.OutOfMemory)

-- each entry of a legal log of a script that lists no call that fails does so, from what the entries before it have left on
abbrev pub EachDoes : (Options → List Item → List Entry → Entry → Outside StorageState LinkState → Type 0) → Type 0
EachDoes Does =
    (o : Options) (items : List Item) (older newer : List Entry) (e : Entry) (end : Outside StorageState LinkState) →
    ListsNoFault items →
    Leads memory_views o [] (newer ++ e ∷ older) (start_of items) end →
    (old new : Outside StorageState LinkState)
    × Leads memory_views o [] older (start_of items) old
    × LeadsOne memory_views o (past_of older) e old new
    × Does o items older e old

-- the transfer that an entry runs is done where it is taken; the rule is the one that the script sets up, once the files were
-- begun that were begun before
abbrev pub TakenTransfersAreDone : Type 0
TakenTransfersAreDone =
    EachDoes
    (λ o items older e old.
    IsDoneWhereTaken o (past_of older) e old
    × ((begun : List BegunFile) × (memory_views.rule old.storage ≡ once_all begun (memory_views.rule (storage_in items)))))

-- an entry that read a header from old on tells the line at the front of what its connection had left
abbrev pub IsLineWhereRead : Options → List Entry → Entry → Outside StorageState LinkState → Type 0
IsLineWhereRead o past e old =
    (number : ℕ) (link : LinkState) →
    header_to_read o past e.event.kind ≡ Some number →
    map.get old.links number ≡ Some link →
    e.answer ≡ answer.Header (line link.left)

-- so does each entry
abbrev pub HeadersAreRead : Type 0
HeadersAreRead = EachDoes (λ o items older e old. IsLineWhereRead o (past_of older) e old)
