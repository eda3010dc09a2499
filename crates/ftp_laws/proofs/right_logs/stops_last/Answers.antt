use Rattle.ftp_laws.proofs.Common.{past_of}
use Rattle.ftp_laws.proofs.AfterLemmas.{stopped-over, unread-over}
use Rattle.ftp_laws.proofs.HeadlineLemmas.{newcomers-closed, ends-served, stops-again}
use Rattle.ftp_laws.proofs.right_logs.stops_last.Goals as goal

pub returns : goal.returns
returns c =
    record {
      left = λ o log r n. let over = stopped-over o log r n in (over.ended, over.free);
      newcomers = newcomers-closed;
      ends = ends-served;
      again = stops-again;
      headers = λ o log k n. unread-over o (past_of log) k n;
    }
