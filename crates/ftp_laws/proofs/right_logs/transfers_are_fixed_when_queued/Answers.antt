use Rattle.ftp_laws.proofs.TransferLemmas.{waiting-queued, running-queued, running-started}
use Rattle.ftp_laws.proofs.right_logs.transfers_are_fixed_when_queued.Goals as goal

pub returns : goal.returns
returns c = record { waiting = waiting-queued; running = running-queued; link = running-started }
