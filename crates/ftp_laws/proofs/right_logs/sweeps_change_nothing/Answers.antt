use Rattle.ftp_laws.proofs.SweepLemmas.{sweeps-nothing}
use Rattle.ftp_laws.proofs.right_logs.sweeps_change_nothing.Goals as goal

pub returns : goal.returns
returns c = record { sweeps = sweeps-nothing }
