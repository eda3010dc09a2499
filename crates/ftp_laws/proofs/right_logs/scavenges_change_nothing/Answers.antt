use Rattle.ftp_laws.proofs.ScavengeLemmas.{scavenges-nothing}
use Rattle.ftp_laws.proofs.right_logs.scavenges_change_nothing.Goals as goal

pub returns : goal.returns
returns c = record { scavenges = scavenges-nothing }
