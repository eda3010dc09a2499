use Rattle.std.proofs.Common.{◌≡◌}
use Rattle.ftp_events.specs.Log.{is_stopped}
use Rattle.ftp_check_log.specs.Evidence.{past_at}
use Rattle.ftp_check_log.proofs.reading.is_stopped.Given as goal

-- what the entries so far say
abbrev pub invariant-loop-entry : goal.invariant-loop-entry
invariant-loop-entry l = l.stopped ≡ is_stopped (past_at l.before l.entry-index)
