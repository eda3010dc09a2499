use Rattle.ftp_laws.proofs.NotificationLemmas.{told-log}
use Rattle.ftp_laws.proofs.right_logs.notices_are_numbered.Goals as goal

pub returns : goal.returns
returns c =
    record {
      numbered = λ o log s r a. (told-log o log s r a).numbered;
      counted = λ o log s v r a known. ((told-log o log s r a).live v known).0;
    }
