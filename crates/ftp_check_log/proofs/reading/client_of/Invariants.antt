use Rattle.std.proofs.Common.{◌≡◌}
use Rattle.ftp_check_log.specs.Evidence.{past_at}
use Rattle.ftp_check_log.proofs.PlaceLemmas.{client_known}
use Rattle.ftp_check_log.proofs.reading.client_of.Given as goal

-- what the entries so far say
abbrev pub invariant-loop-entry : goal.invariant-loop-entry
invariant-loop-entry l = l.client ≡ client_known (past_at l.before l.entry-index) l.session
