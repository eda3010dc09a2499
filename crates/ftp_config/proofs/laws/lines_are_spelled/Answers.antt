use Rattle.ftp_config.proofs.GrammarLemmas.{lines-spelled}
use Rattle.ftp_config.proofs.laws.lines_are_spelled.Goals as goal

pub returns : goal.returns
returns c = record { spelled = lines-spelled }
