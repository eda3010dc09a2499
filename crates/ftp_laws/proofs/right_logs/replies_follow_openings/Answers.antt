use Rattle.ftp_laws.proofs.ReplyLemmas.{unopened-unreplied}
use Rattle.ftp_laws.proofs.right_logs.replies_follow_openings.Goals as goal

pub returns : goal.returns
returns c = record { replies = unopened-unreplied }
