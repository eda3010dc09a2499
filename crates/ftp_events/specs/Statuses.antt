-- What is counted of a transfer that has ended: by which command, and with which status.
use Rattle.std.specs.Prelude.{Bool, true, false, not, ◌||◌, ◌==◌, Option, Some, None}
use Rattle.ftp_base.specs.declared.command.DataChanCmd.{DataChanCmd}
use Rattle.ftp_base.specs.declared.command.DataChanCmd.TheVariants as command
use Rattle.ftp_base.specs.declared.error_kind.ErrorKind.{ErrorKind}
use Rattle.ftp_base.specs.declared.error_kind.ErrorKind.TheVariants as error
use Rattle.ftp_base.specs.declared.fault.LinkFault.{LinkFault}
use Rattle.ftp_base.specs.declared.fault.LinkFault.TheVariants as fault
use Rattle.ftp_transfer.specs.declared.job.Job.{Job}
use Rattle.ftp_transfer.specs.declared.job.Completion.{Completion}
use Rattle.ftp_transfer.specs.declared.job.Completion.TheVariants as result
use Rattle.ftp_transfer.specs.declared.job.Outcome.{Outcome}
use Rattle.ftp_events.specs.declared.status.CommandWord.{CommandWord}
use Rattle.ftp_events.specs.declared.status.CommandWord.TheVariants as word
use Rattle.ftp_events.specs.declared.status.Status7.{Status7}
use Rattle.ftp_events.specs.declared.status.Status7.TheVariants as status
use Rattle.ftp_events.specs.declared.status.Ended.{Ended}
use Rattle.ftp_events.specs.Words.{◌⇒◌∣◌}

-- the word of a command
abbrev pub word_of : DataChanCmd → CommandWord
word_of (command.Retr path) = word.Retr
word_of (command.Stor path) = word.Stor
word_of (command.Appe path) = word.Appe
word_of (command.List options path) = word.List
word_of (command.Nlst path) = word.Nlst
word_of (command.Mlsd path) = word.Mlsd

-- the words are equal
abbrev pub same_word : CommandWord → CommandWord → Bool
same_word word.Retr word.Retr = true
same_word word.Stor word.Stor = true
same_word word.Appe word.Appe = true
same_word word.List word.List = true
same_word word.Nlst word.Nlst = true
same_word word.Mlsd word.Mlsd = true
same_word _ _ = false

-- the statuses are equal
abbrev pub same_status : Status7 → Status7 → Bool
same_status status.Success status.Success = true
same_status status.ClientError status.ClientError = true
same_status status.ServerError status.ServerError = true
same_status status.PermissionError status.PermissionError = true
same_status status.ClientInterrupted status.ClientInterrupted = true
same_status status.NetworkError status.NetworkError = true
same_status status.UnknownError status.UnknownError = true
same_status _ _ = false

-- STOR and APPE receive, and every other command sends
abbrev pub receives : CommandWord → Bool
receives word.Stor = true
receives word.Appe = true
receives _ = false

-- RETR and STOR can begin behind the first byte
abbrev pub may_restart : CommandWord → Bool
may_restart word.Retr = true
may_restart word.Stor = true
may_restart _ = false

-- what is counted of a job
abbrev pub ended_of : Job → Ended
ended_of job = record { word = word_of job.command; from_start = job.offset == 0 }

-- a RETR or STOR has a status where it began at the first byte
abbrev pub has_status : Ended → Bool
has_status t = not (may_restart t.word) || t.from_start

-- the status of a transfer that the link broke off: one that breaks a RETR off by closing has none
abbrev pub fault_status : CommandWord → Option LinkFault → Option Status7
fault_status w None = None
fault_status w (Some fault.Reset) = Some status.ClientInterrupted
fault_status word.Retr (Some fault.BrokenPipe) = None
fault_status w (Some fault.BrokenPipe) = Some status.ClientInterrupted
fault_status w (Some fault.Aborted) = Some status.NetworkError
fault_status w (Some fault.Other) = Some status.ServerError

-- the status of a transfer that was refused
abbrev pub refusal_status : CommandWord → Option LinkFault → ErrorKind → Option Status7
refusal_status w f error.PermanentFileNotAvailable = Some status.ClientError
refusal_status w f error.TransientFileNotAvailable = Some status.ServerError
refusal_status w f error.LocalError = Some status.ServerError
refusal_status w f error.PermissionDenied = Some status.PermissionError
refusal_status w f error.ConnectionClosed = fault_status w f
refusal_status w f _ = Some status.UnknownError

-- the status of a transfer, by how it has ended
abbrev pub completion_status : CommandWord → Option LinkFault → Completion → Option Status7
completion_status w f result.Sent = Some status.Success
completion_status w f result.Written = Some status.Success
completion_status w f result.Listed = Some status.Success
completion_status w f result.WriteFailed = fault_status w f
completion_status w f (result.Refused kind) = refusal_status w f kind
completion_status w f result.OutOfMemory = Some status.UnknownError

-- the status that is counted for a transfer with its outcome, if any
abbrev pub status_of : Ended → Outcome → Option Status7
status_of t outcome = has_status t ⇒ completion_status t.word outcome.fault outcome.result ∣ None
