use Rattle.ftp_hub.proofs.Lawful.{logs-pass}
use Rattle.ftp_hub.proofs.laws.states_of_logs_pass.Goals as goal

pub returns : goal.returns
returns c = record { passes = logs-pass }
