use Rattle.ftp_script_run.specs.Counts.{names}
use Rattle.ftp_script_run.proofs.counts.name.Goals as goal

pub returns : goal.returns
unfolding names
returns c = c.text_at.ensures
