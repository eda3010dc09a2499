-- What a worker does for a job, on a storage that is the job's own.
use Rattle.std.specs.Prelude.{◌≡◌, ℕ}
use Rattle.ftp_shared.specs.Runs.{RunsOn, Site, StopsOn}
use Rattle.ftp_transfer.specs.declared.job.Job.{Job}
use Rattle.ftp_transfer.specs.declared.job.Outcome.{Outcome}

-- the job was run, with this outcome, on a storage that had counted no fault before
pub record RunsOnItsOwn {S L : Type 0} (place : Site S L) (job : Job) (outcome : Outcome) (link link_after : L) : Type 0 where
  pub storage : S
  pub storage_after : S
  pub fresh : place.views.storage_faults storage ≡ 0
  pub runs : RunsOn place job outcome storage storage_after link link_after

-- so many bytes of the job are told, on a storage that had counted no fault before, and it does not go on
pub record StopsOnItsOwn {S L : Type 0} (place : Site S L) (job : Job) (told : ℕ) (link link_after : L) : Type 0 where
  pub storage : S
  pub storage_after : S
  pub fresh : place.views.storage_faults storage ≡ 0
  pub stops : StopsOn place job told storage storage_after link link_after
