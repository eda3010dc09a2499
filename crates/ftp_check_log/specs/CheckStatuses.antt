-- How a check ends.
use Rattle.std.specs.Prelude.{ℕ, nat_lt, Option, Some, None, Result, Ok, Err, if◌then◌else◌}
use Rattle.ftp_base.specs.declared.fault.Failed.{Failed}
use Rattle.ftp_base.specs.declared.fault.Failed.TheVariants.{Fault, Memory}
use Rattle.ftp_check_log.specs.declared.verdict.Verdict.{Verdict}
use Rattle.ftp_check_log.specs.declared.verdict.Verdict.TheVariants as verdict
use Rattle.ftp_check_log.specs.declared.explanation.Explanation.{Explanation}
use Rattle.ftp_check_log.specs.declared.explanation.Explanation.TheVariants as explanation
use Rattle.ftp_check_log.specs.declared.command.CheckCommand.{CheckCommand}
use Rattle.ftp_check_log.specs.declared.command.CheckCommand.TheVariants as command
use Rattle.ftp_check_log.specs.declared.status.CheckStatus.{CheckStatus}
use Rattle.ftp_check_log.specs.declared.status.CheckStatus.TheVariants as status

-- the exit status of the program
abbrev pub check_code : CheckStatus → ℕ
check_code status.Done = 0
check_code status.Wrong = 1
check_code (status.BadText k) = 2
check_code status.ReadFault = 3
check_code status.WriteFault = 4
check_code status.OutOfMemory = 5
check_code status.NoEntry = 6
check_code status.Usage = 64

-- the status of a check that came to this
abbrev pub verdict_status : Verdict → CheckStatus
verdict_status (verdict.Right n) = status.Done
verdict_status (verdict.Decided n due) = status.Wrong
verdict_status (verdict.Acted n) = status.Wrong
verdict_status (verdict.BadText k) = status.BadText k

-- the status where a right log was asked for its entry at place k, or any other log was
abbrev pub why_status : ℕ → Verdict → CheckStatus
why_status k (verdict.Right n) = if nat_lt k n then status.Done else status.NoEntry
why_status k v = verdict_status v

-- the status that is due for a log with this verdict, where the command reads one
abbrev pub status_due : CheckCommand → Verdict → Option CheckStatus
status_due command.Check v = Some (verdict_status v)
status_due (command.Why k) v = Some (why_status k v)
status_due _ v = None

-- the status of an explanation
abbrev pub explanation_status : Explanation → CheckStatus
explanation_status (explanation.Found x) = status.Done
explanation_status explanation.NoEntry = status.NoEntry
explanation_status (explanation.Wrong v) = verdict_status v

-- the status where the last write of a run went so
abbrev pub after_write : {T : Type 0} → Result T Failed → CheckStatus → CheckStatus
after_write (Ok x) s = s
after_write (Err Fault) s = status.WriteFault
after_write (Err Memory) s = status.OutOfMemory
