use Rattle.ftp_laws.proofs.ClientLemmas.{client-right}
use Rattle.ftp_laws.proofs.AloneLemmas.{client-served, client-alone}
use Rattle.ftp_laws.proofs.right_logs.client_part_is_right_and_acted.Goals as goal

pub returns : goal.returns
returns c = record { isolated = client-right; served = client-served; alone = client-alone }
