use Rattle.ftp_talk.proofs.SessionLemmas.{keeps-session}
use Rattle.ftp_talk.proofs.laws.extras_leave_the_session.Goals as goal

pub returns : goal.returns
returns c = record { same_session = keeps-session }
