use Rattle.ftp_script_run.proofs.SavedLemmas.{goes-on, one-log, read-again}
use Rattle.ftp_script_run.proofs.laws.saved_scripts_go_on.Goals as goal

pub returns : goal.returns
returns c = record { read = read-again; go_on = goes-on; one = one-log }
