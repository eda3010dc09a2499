use Rattle.ftp_extras.proofs.LawLemmas.{waits}
use Rattle.ftp_extras.proofs.laws.words_wait_for_login.Goals as goal

pub returns : goal.returns
returns c = record { waits = waits }
