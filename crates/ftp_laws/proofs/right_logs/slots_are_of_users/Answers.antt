use Rattle.ftp_laws.proofs.MannedLemmas.{session-manned}
use Rattle.ftp_laws.proofs.right_logs.slots_are_of_users.Goals as goal

pub returns : goal.returns
returns c =
    record {
      logged_in = λ o log s v right known. (session-manned o log right s v known).inside;
      placed = λ o log s v p right known. (session-manned o log right s v known).placed p;
      user = λ o log s v p right known. (session-manned o log right s v known).user p;
    }
