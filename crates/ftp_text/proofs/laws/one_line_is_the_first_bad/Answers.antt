use Rattle.ftp_text.proofs.PrintedLemmas.{one_bad}
use Rattle.ftp_text.proofs.laws.one_line_is_the_first_bad.Goals as goal

pub returns : goal.returns
returns c = one_bad
