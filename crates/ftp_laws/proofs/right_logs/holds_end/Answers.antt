use Rattle.ftp_laws.proofs.HoldEndLemmas.{holds-end, holds-ended}
use Rattle.ftp_laws.proofs.right_logs.holds_end.Goals as goal

pub returns : goal.returns
returns c = record { only_so = holds-end; each = λ o log e a p s m r held x counts. holds-ended o log e a p s r held x counts }
