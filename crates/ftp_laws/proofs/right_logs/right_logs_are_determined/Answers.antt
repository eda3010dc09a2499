use Rattle.ftp_laws.proofs.LogLemmas.{log_of-events_of, log_of-right}
use Rattle.ftp_laws.proofs.right_logs.right_logs_are_determined.Goals as goal

pub returns : goal.returns
returns c = record { found = log_of-right; determined = log_of-events_of }
