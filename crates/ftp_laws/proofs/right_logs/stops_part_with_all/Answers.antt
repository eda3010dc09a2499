use Rattle.ftp_laws.proofs.Common.{past_of}
use Rattle.ftp_laws.proofs.LiveLemmas.{live_sessions-ascending, live_sessions-has}
use Rattle.ftp_laws.proofs.PartLemmas.{parts-all, parting-same}
use Rattle.ftp_laws.proofs.right_logs.stops_part_with_all.Goals as goal

pub returns : goal.returns
returns c =
    record {
      parts = parts-all;
      in_order = λ o log r. (live_sessions-ascending o log r, live_sessions-has o (past_of log));
      each = parting-same;
    }
