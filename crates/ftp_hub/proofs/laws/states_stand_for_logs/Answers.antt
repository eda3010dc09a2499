use Rattle.ftp_hub.proofs.States.{stands-all, stands-told, state-told}
use Rattle.ftp_hub.proofs.laws.states_stand_for_logs.Goals as goal

pub returns : goal.returns
returns c = record { told = state-told; stands = stands-told; alike = stands-all }
