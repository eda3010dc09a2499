-- What a worker does to the storage and the link that it is handed.
use Rattle.std.specs.Prelude.{◌≡◌, ◌⊎◌, ℕ, ◌+◌, ◌≤◌, Bool, true, false, None, IsSome}
use Rattle.ftp_base.specs.Edge.{EdgeView, Takes}
use Rattle.ftp_base.specs.Kept.{CountsOn}
use Rattle.ftp_events.specs.Leads.{Views, told_by}
use Rattle.ftp_options.specs.declared.options.Options.{Options}
use Rattle.ftp_transfer.specs.declared.job.Completion.TheVariants.{OutOfMemory}
use Rattle.ftp_transfer.specs.declared.job.Job.{Job}
use Rattle.ftp_transfer.specs.declared.job.Outcome.{Outcome}
use Rattle.ftp_transfer.specs.Ran.{Ran, IsClean, IsDone}
use Rattle.ftp_transfer.specs.Transfer.{is_retrieve, suits}
use Rattle.ftp_shared.specs.declared.receipt.Receipt.{Receipt}
use Rattle.ftp_shared.specs.Next.{IsNextAt, end_of, is_moved, piece_of}
use Rattle.ftp_shared.specs.Answers.{moved_in, outcome_in}
use Rattle.ftp_shared.specs.Moments.{behind_moments}

-- the entry is the end of the job with its outcome, or a piece of it behind which it does not go on
abbrev pub IsLastOf : Options → Job → Receipt → Type 0
IsLastOf o job r =
    (IsNextAt o r (end_of job r.entry.event.at) r.entry.answer × IsSome (outcome_in r.entry.answer))
    ⊎ (IsNextAt o r (piece_of job r.entry.event.at) r.entry.answer × IsSome (moved_in r.entry.answer) × (is_moved r.entry.decision ≡ false))

-- what storages and links tell, and whether reading a file or writing to a link may fail for want of memory
pub record Site (S L : Type 0) : Type 0 where
  pub views : Views S L
  pub reads_take_memory : Bool
  pub takes_memory : Bool

abbrev pub site : {S L : Type 0} → Views S L → Bool → Bool → Site S L
site views reads_take_memory takes_memory =
    record { views = views; reads_take_memory = reads_take_memory; takes_memory = takes_memory }

-- the job was run on a storage and a link, with this outcome, and all is true that a run says of it
pub record RunsOn {S L : Type 0} (place : Site S L) (job : Job) (outcome : Outcome) (storage storage_after : S) (link link_after : L) : Type 0 where
  pub ran : Ran job (told_by place.views storage link) (told_by place.views storage_after link_after) outcome
  pub suits : suits outcome.result job.command ≡ true
  -- a job of which the storage's rule refused no call, and that nothing stopped, is done
  pub complete : IsClean job (told_by place.views storage link) (told_by place.views storage_after link_after) outcome → IsDone outcome.result
  pub no_memory : is_retrieve job.command ≡ true → place.reads_take_memory ≡ false → place.takes_memory ≡ false → outcome.result ≡ OutOfMemory → ⊥
  pub storage_counts : CountsOn place.views.storage_faults place.views.storage_limit storage storage_after
  pub link_counts : CountsOn place.views.link_faults place.views.link_limit link link_after

-- the outcome of a run that stopped behind so many bytes for no cause of the storage or the link
abbrev pub stopped_at : ℕ → Outcome
stopped_at bytes = record { result = OutOfMemory; bytes = bytes; fault = None }

-- a front of what a run of the job moves was moved, and at least what is told of it, and the link was closed
pub record StopsOn {S L : Type 0} (place : Site S L) (job : Job) (told : ℕ) (storage storage_after : S) (link link_after : L) : Type 0 where
  pub bytes : ℕ
  pub moved : job.done + told ≤ bytes
  pub ran : Ran job (told_by place.views storage link) (told_by place.views storage_after link_after) (stopped_at bytes)
  pub storage_counts : CountsOn place.views.storage_faults place.views.storage_limit storage storage_after
  pub link_counts : CountsOn place.views.link_faults place.views.link_limit link link_after

-- storage, link and edge are as they were
abbrev pub IsUntouched : {S L E : Type 0} → S → S → L → L → E → E → Type 0
IsUntouched storage storage_after link link_after edge edge_after =
    (storage_after ≡ storage) × (link_after ≡ link) × (edge_after ≡ edge)

-- the job was run, with an outcome that no entry has, and a moment was taken for its end behind those for so many entries
pub record IsUntold {S L : Type 0} (place : Site S L) (job : Job) (storage storage_after : S) (link link_after : L) (edge edge_after : EdgeView) (entries : ℕ) : Type 0 where
  pub outcome : Outcome
  pub runs : RunsOn place job outcome storage storage_after link link_after
  pub before : ℕ
  pub enough : entries ≤ before
  pub taken : Takes (behind_moments (before + 1)) edge edge_after
