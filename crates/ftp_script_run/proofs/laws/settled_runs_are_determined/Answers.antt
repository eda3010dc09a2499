use Rattle.ftp_script_run.proofs.DeterminedLemmas.{settled-determined}
use Rattle.ftp_script_run.proofs.HeaderLemmas.{headers-determined}
use Rattle.ftp_script_run.proofs.laws.settled_runs_are_determined.Goals as goal

pub returns-clause-transfers : goal.returns-clause-transfers
returns-clause-transfers c = settled-determined

pub returns-clause-headers : goal.returns-clause-headers
returns-clause-headers c = headers-determined
