use Rattle.ftp_laws.proofs.NotificationLemmas.{told-log}
use Rattle.ftp_laws.proofs.right_logs.logged_out_comes_last.Goals as goal

pub returns : goal.returns
returns c =
    record {
      ended = λ o log s r a ended. (told-log o log s r a).ended ended;
      live = λ o log s v r a known. ((told-log o log s r a).live v known).1;
    }
