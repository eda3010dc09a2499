-- Uploads to a storage in memory.
use Rattle.std.specs.Prelude.{◌≡◌, ◌⊎◌, ℕ, ◌+◌, ◌-◌, ◌^◌, ◌<◌, ◌≤◌, true, false, List, length, Some, None, IsSome}
use Rattle.std.specs.Str.{bytes_eq}
use Rattle.ftp_base.specs.declared.command.DataChanCmd.TheVariants as command
use Rattle.ftp_base.specs.Outside.{HasRisen}
use Rattle.ftp_base.specs.Storage.{Directory, Files, item, parent, root}
use Rattle.ftp_base.specs.MemoryStorage.{memory_rule, if_file}
use Rattle.ftp_transfer.specs.declared.job.Completion.TheVariants as result
use Rattle.ftp_transfer.specs.declared.job.Job.{Job}
use Rattle.ftp_transfer.specs.declared.job.Outcome.{Outcome}
use Rattle.ftp_transfer.specs.Ran.{Told, Ran}
use Rattle.ftp_transfer.specs.Transfer.{suits}

-- the input fits into a file at the job's path, whose directory is there and which is no directory itself
pub record HasRoom (job : Job) (max : ℕ) (files : Files) (input : List ℕ) : Type 0 where
  pub other : bytes_eq job.path root ≡ false
  pub there : item files (parent job.path) ≡ Some Directory
  pub free : if_file (item files job.path) None ≡ None
  pub within : job.offset + length input ≤ max
  pub countable : length input < 2 ^ 64 - 1

-- a STOR to a storage in memory that has room, of which no call but the link's close failed, is written, or memory ran out
abbrev pub UploadsAreWritten : Type 0
UploadsAreWritten =
    (job : Job) (argument : List ℕ) (max : ℕ) (files : Files) (input : List ℕ) (old new : Told) (outcome : Outcome) →
    job.command ≡ command.Stor argument → job.done ≡ 0 →
    old.files ≡ Some files → old.rule ≡ memory_rule max → old.left ≡ Some input →
    HasRoom job max files input →
    (HasRisen old.storage_faults new.storage_faults → ⊥) → (HasRisen old.link_faults new.link_faults → IsSome new.sending.last_fault → ⊥) →
    suits outcome.result job.command ≡ true →
    Ran job old new outcome →
    (outcome.result ≡ result.Written) ⊎ (outcome.result ≡ result.OutOfMemory)
