use Rattle.ftp_laws.proofs.CancellationLemmas.{cancelled-with-slot, cancelled-so}
use Rattle.ftp_laws.proofs.right_logs.transfers_are_cancelled_with_their_slot.Goals as goal

pub returns : goal.returns
returns c = record { with_slot = cancelled-with-slot; only_so = cancelled-so }
