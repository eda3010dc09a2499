use Rattle.ftp_laws.proofs.Common.{past_of}
use Rattle.ftp_laws.proofs.HoldEndLemmas.{holds-one, waits-on, on-waits}
use Rattle.ftp_laws.proofs.HoldLemmas.{holder-waits}
use Rattle.ftp_laws.proofs.PortLemmas.{waits-holds}
use Rattle.ftp_laws.proofs.right_logs.holders_wait.Goals as goal

pub returns : goal.returns
returns c =
    record {
      holders = λ o log a p s m r. (
        λ held. waits-on o (past_of log) s a p (holder-waits o log m r a p s held),
        λ waits. waits-holds o log m r a p s (on-waits o (past_of log) s a p waits),
      );
      one_port = holds-one;
    }
