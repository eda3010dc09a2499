-- What is told of a job that runs.
use Rattle.std.specs.Prelude.{ℕ, ◌+◌}
use Rattle.ftp_transfer.specs.declared.job.Job.{Job}

-- the job of which so many bytes moved more
abbrev pub behind : Job → ℕ → Job
behind job bytes = record job { done = job.done + bytes }
