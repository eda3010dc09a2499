use Rattle.ftp_hub.proofs.Tidy.{jobs-own, live-tidy}
use Rattle.ftp_hub.proofs.laws.sessions_are_told.Goals as goal

pub returns : goal.returns
returns c = record { sessions = live-tidy; jobs = jobs-own }
