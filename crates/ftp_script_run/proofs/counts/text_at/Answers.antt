use Rattle.ftp_script_run.proofs.CountLemmas.{at_place}
use Rattle.ftp_script_run.proofs.counts.text_at.Goals as goal

pub returns : goal.returns
returns c = at_place c.args.table.now c.args.place _ c.requires
