use Rattle.ftp_laws.proofs.CensusLemmas.{live-counted, running-counted}
use Rattle.ftp_laws.proofs.right_logs.counts_are_exact.Goals as goal

pub returns : goal.returns
returns c = record { live = live-counted; running = running-counted }
