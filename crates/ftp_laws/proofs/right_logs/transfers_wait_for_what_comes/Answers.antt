use Rattle.ftp_laws.proofs.WaitLemmas.{earlier-runs, awaited-held}
use Rattle.ftp_laws.proofs.right_logs.transfers_wait_for_what_comes.Goals as goal

pub returns : goal.returns
returns c = record { earlier = earlier-runs; port = awaited-held }
