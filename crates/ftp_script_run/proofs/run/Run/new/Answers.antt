use Rattle.std.proofs.Common.{rules}
use Rattle.ftp_script_run.proofs.RunLemmas.{keeps-none}
use Rattle.ftp_script_run.proofs.run.Run.new.Goals as goal

pub returns : goal.returns
returns c = keeps-none _ (search rules) c.new-hub.ensures.stands c.new-hub.ensures.count (search rules)
