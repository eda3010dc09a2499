use Rattle.ftp_text.proofs.PrintedLemmas.{printed_good}
use Rattle.ftp_text.proofs.laws.printed_logs_have_no_bad_line.Goals as goal

pub returns : goal.returns
returns c = printed_good
