use Rattle.ftp_text.proofs.RootLemmas.{states-rooted}
use Rattle.ftp_text.proofs.state_laws.states_of_logs_begin_at_the_root.Goals as goal

pub returns : goal.returns
returns c = states-rooted
