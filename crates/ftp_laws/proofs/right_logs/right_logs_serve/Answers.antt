use Rattle.ftp_laws.proofs.HeadlineLemmas.{all-served}
use Rattle.ftp_laws.proofs.right_logs.right_logs_serve.Goals as goal

pub returns : goal.returns
returns c = record { served = all-served }
