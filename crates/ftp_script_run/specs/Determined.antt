-- Runs over a storage and a link in memory that nothing stopped, and headers that were read without a fault.
use Rattle.std.specs.Prelude.{◌≡◌, ℕ, ◌-◌, ◌^◌, ◌<◌, true, Err}
use Rattle.ftp_base.specs.Memory.{LinkState}
use Rattle.ftp_base.specs.Outside.{HasRisen}
use Rattle.ftp_base.specs.declared.error_kind.ErrorKind.TheVariants as kind
use Rattle.ftp_proxy.specs.declared.error.ProxyError.TheVariants.{ReadError}
use Rattle.ftp_proxy.specs.declared.error.ReadError.TheVariants.{Fault}
use Rattle.ftp_transfer.specs.declared.job.Completion.TheVariants as result
use Rattle.ftp_transfer.specs.declared.job.Job.{Job}
use Rattle.ftp_transfer.specs.declared.job.Outcome.{Outcome}
use Rattle.ftp_transfer.specs.Ran.{Told, Ran}
use Rattle.ftp_transfer.specs.Transfer.{suits}
use Rattle.ftp_events.specs.declared.event.Answer.{Answer}
use Rattle.ftp_events.specs.declared.event.Answer.TheVariants as answer
use Rattle.ftp_events.specs.Leads.{Outside, told_by, ReadsHeader}
use Rattle.ftp_script_run.specs.SetUp.{StorageState}
use Rattle.ftp_script_run.specs.Legal.{memory_views}

-- what a storage and a link in memory tell together
abbrev pub told_in_memory : StorageState → LinkState → Told
told_in_memory storage link = told_by memory_views storage link

-- no call failed, memory was found, no file would have been too long and no budget passed, and the count of bytes is below its
-- end
pub record IsSettled (old new : Told) (outcome : Outcome) : Type 0 where
  pub storage : HasRisen old.storage_faults new.storage_faults → ⊥
  pub link : HasRisen old.link_faults new.link_faults → ⊥
  pub memory : outcome.result ≡ result.OutOfMemory → ⊥
  pub exceeded : outcome.result ≡ result.Refused kind.ExceededStorageAllocationError → ⊥
  pub count : outcome.bytes < 2 ^ 64 - 1

-- this is the outcome of a run of the job that nothing stopped, which leaves this storage and this link
pub record RunsTo (job : Job) (storage : StorageState) (link : LinkState) (later : StorageState) (after : LinkState) (outcome : Outcome) : Type 0 where
  pub fits : suits outcome.result job.command ≡ true
  pub ran : Ran job (told_in_memory storage link) (told_in_memory later after) outcome
  pub settled : IsSettled (told_in_memory storage link) (told_in_memory later after) outcome

-- two such runs of a job of which no piece moved before have the same outcome and leave the same files
abbrev pub SettledRunsAreDetermined : Type 0
SettledRunsAreDetermined =
    (job : Job) (storage left right : StorageState) (link near far : LinkState) (first second : Outcome) →
    job.done ≡ 0 →
    RunsTo job storage link left near first → RunsTo job storage link right far second →
    (first ≡ second) × (left.inner.files ≡ right.inner.files)

-- two readings of the header of one connection, neither of which met a fault, give one answer and leave the same bytes
abbrev pub ReadHeadersAreDetermined : Type 0
ReadHeadersAreDetermined =
    (number : ℕ) (first second : Answer) (old left right : Outside StorageState LinkState)
    (one : ReadsHeader memory_views number first old left) (other : ReadsHeader memory_views number second old right) →
    (first ≡ answer.Header (Err (ReadError Fault)) → ⊥) →
    (second ≡ answer.Header (Err (ReadError Fault)) → ⊥) →
    (first ≡ second) × (one.after.left ≡ other.after.left)
