use Rattle.ftp_script_run.proofs.ListedLemmas.{told-listed, told-header-listed}
use Rattle.ftp_script_run.proofs.laws.told_faults_are_listed.Goals as goal

pub returns-clause-transfers : goal.returns-clause-transfers
returns-clause-transfers c = told-listed

pub returns-clause-headers : goal.returns-clause-headers
returns-clause-headers c = told-header-listed
