use Rattle.ftp_script_run.proofs.CleanLemmas.{taken-done}
use Rattle.ftp_script_run.proofs.HeaderLemmas.{headers-read}
use Rattle.ftp_script_run.proofs.laws.taken_transfers_are_done.Goals as goal

pub returns-clause-transfers : goal.returns-clause-transfers
returns-clause-transfers c = taken-done

pub returns-clause-headers : goal.returns-clause-headers
returns-clause-headers c = headers-read
