-- What an answer has in it.
use Rattle.std.specs.Prelude.{ℕ, Option, Some, None}
use Rattle.ftp_events.specs.declared.event.Answer.{Answer}
use Rattle.ftp_events.specs.declared.event.Answer.TheVariants.{Done, Moved}
use Rattle.ftp_transfer.specs.declared.job.Outcome.{Outcome}

-- the outcome of a job
abbrev pub outcome_in : Answer → Option Outcome
outcome_in (Done outcome) = Some outcome
outcome_in _ = None

-- the bytes of a piece
abbrev pub moved_in : Answer → Option ℕ
moved_in (Moved bytes) = Some bytes
moved_in _ = None
